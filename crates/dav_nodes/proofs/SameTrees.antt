-- A tree in which each number has the row that it had in an old one is the old one.
use Rattle.std.proofs.Common.{◌≡◌, ◌≢◌, ◌⊎◌, inl, inr, ℕ, Bool, true, false, List, [], ◌∷◌, ◌++◌, Option, Some, None, is_some, refl, sym, ap, subst, ◌∙◌, append_assoc}
use Rattle.std.proofs.lemmas.List.{append-nil}
use Rattle.std.specs.Option.{option_map}
use Rattle.std.specs.FinMap.{get, same_map}
use Rattle.dav_key.specs.Key.{Key, key_cmp_total, key_cmp_exact, parent}
use Rattle.dav_key.proofs.FlatLemmas.{parent-push}
use Rattle.dav_nodes.specs.Tree.{Tree}
use Rattle.dav_nodes.specs.Rows.{Row, own_name, row_of, HasRow, KeepsRow, AreNumbered, AreDistinct, AreJoined, AreNoted, is_noted}
use Rattle.dav_nodes.specs.declared.changes.Changes.{Changes}
use Rattle.dav_nodes.proofs.BelowKeys.{split_or_none}
use Rattle.dav_nodes.proofs.Linking.{not_none}
use Rattle.dav_nodes.proofs.Loads.{same_option}
use Rattle.dav_nodes.proofs.Pending.{row_parts, named_key}
use Rattle.dav_nodes.proofs.RowSteps.{own_name-push, row_of-push, both}

module _ {R : Type 0} where
  -- a number has a row if its key has a value
  row_at : (tree : Tree R) (key : Key) (number : ℕ) (value : R) → get tree.numbers key ≡ Some number → get tree.values key ≡ Some value
      → HasRow tree number (record { above = get tree.numbers (parent key); name = own_name key; value = value })
  row_at tree key number value at is =
      (key, at, ap (option_map (λ v. record { above = get tree.numbers (parent key); name = own_name key; value = v })) is)

  -- a number has a row
  its_row : (tree : Tree R) → AreNumbered tree → (key : Key) (number : ℕ) → get tree.numbers key ≡ Some number
      → (value : R) × (get tree.values key ≡ Some value)
  its_row tree numbered key number at = by (get tree.values key) refl (sym (numbered key) ∙ ap is_some at)
    where
      by : (o : Option R) → get tree.values key ≡ o → is_some o ≡ true → (value : R) × (get tree.values key ≡ Some value)
      by None is some = absurd cc
      by (Some value) is some = (value, is)

  -- a value has a number
  its_number : (tree : Tree R) → AreNumbered tree → (key : Key) (value : R) → get tree.values key ≡ Some value
      → (number : ℕ) × (get tree.numbers key ≡ Some number)
  its_number tree numbered key value is = by (get tree.numbers key) refl (numbered key ∙ ap is_some is)
    where
      by : (o : Option ℕ) → get tree.numbers key ≡ o → is_some o ≡ true → (number : ℕ) × (get tree.numbers key ≡ Some number)
      by None at some = absurd cc
      by (Some number) at some = (number, at)

  module _ (old now : Tree R) (numbered_old : AreNumbered old) (distinct_old : AreDistinct old) (numbered : AreNumbered now) (joined : AreJoined now)
      (rows : (number : ℕ) → KeepsRow number old now) where
    -- a key has in the old tree the number that it has now
    abbrev IsIn : Key → Type 0
    IsIn key = (n : ℕ) → get now.numbers key ≡ Some n → get old.numbers key ≡ Some n

    -- the key that the number of a key had in the old tree, with its row
    was : (key : Key) (n : ℕ) → get now.numbers key ≡ Some n
        → (there : Key) × (get old.numbers there ≡ Some n) × (get old.numbers (parent there) ≡ get now.numbers (parent key)) × (own_name there ≡ own_name key)
    was key n at =
        let value = its_row now numbered key n at in
        let has = (rows n).had _ (row_at now key n value.0 at value.1) in
        let parts = row_parts old has.0 _ has.2 in
        (has.0, has.1, parts.1, parts.2)

    root_in : IsIn []
    root_in n at =
        let it = was [] n at in
        elim (split_or_none it.0) [
          | inl root ↦ ap (get old.numbers) (sym root) ∙ it.1
          | inr last ↦ absurd (let named : Some last.1 ≡ None = sym (ap own_name last.2 ∙ own_name-push last.0 last.1) ∙ it.3 in cc)
        ]

    next_in : (above : Key) (s : List ℕ) → IsIn above → IsIn (above ++ s ∷ [])
    next_in above s there n at = by (get now.numbers above) refl
      where
        by : (o : Option ℕ) → get now.numbers above ≡ o → get old.numbers (above ++ s ∷ []) ≡ Some n
        by None none = absurd (not_none (get now.numbers (above ++ s ∷ [])) n at (joined above (s ∷ []) none))
        by (Some p) is =
            let it = was (above ++ s ∷ []) n at in
            let up : get old.numbers (parent it.0) ≡ Some p = it.2 ∙ ap (get now.numbers) (parent-push above s) ∙ is in
            let same : parent it.0 ≡ above = distinct_old (parent it.0) above p up (there p is) in
            let key : it.0 ≡ above ++ s ∷ [] = named_key it.0 s (it.3 ∙ own_name-push above s) ∙ ap (λ k. k ++ s ∷ []) same in
            ap (get old.numbers) (sym key) ∙ it.1

    all_in : (above key : Key) → IsIn above → IsIn (above ++ key)
    all_in above [] there = subst IsIn (sym (append-nil above)) there
    all_in above (s ∷ key) there = subst IsIn (append_assoc above (s ∷ []) key) (all_in (above ++ s ∷ []) key (next_in above s there))

    number_in : (key : Key) → IsIn key
    number_in key = all_in [] key root_in

    value_in : (key : Key) (x : R) → get now.values key ≡ Some x → get old.values key ≡ Some x
    value_in key x is =
        let number = its_number now numbered key x is in
        let has = (rows number.0).had _ (row_at now key number.0 x number.1 is) in
        let same : has.0 ≡ key = distinct_old has.0 key number.0 has.1 (number_in key number.0 number.1) in
        ap (get old.values) (sym same) ∙ (row_parts old has.0 _ has.2).0

    -- the key that an old number has now
    stays : (key : Key) (n : ℕ) (x : R) → get old.numbers key ≡ Some n → get old.values key ≡ Some x
        → (get now.numbers key ≡ Some n) × (get now.values key ≡ Some x)
    stays key n x at is =
        let has = (rows n).kept _ (row_at old key n x at is) in
        let same : has.0 ≡ key = distinct_old has.0 key n (number_in has.0 n has.1) at in
        (ap (get now.numbers) (sym same) ∙ has.1, ap (get now.values) (sym same) ∙ (row_parts now has.0 _ has.2).0)

    number_out : (key : Key) (n : ℕ) → get old.numbers key ≡ Some n → get now.numbers key ≡ Some n
    number_out key n at = let value = its_row old numbered_old key n at in (stays key n value.0 at value.1).0

    value_out : (key : Key) (x : R) → get old.values key ≡ Some x → get now.values key ≡ Some x
    value_out key x is = let number = its_number old numbered_old key x is in (stays key number.0 x number.1 is).1

    pub same_tree : old ≡ now
    same_tree = λ i. record {
      values = same_map key_cmp_total key_cmp_exact old.values now.values (λ key. same_option (get old.values key) (get now.values key) (value_in key) (value_out key)) i;
      numbers = same_map key_cmp_total key_cmp_exact old.numbers now.numbers (λ key. same_option (get old.numbers key) (get now.numbers key) (number_in key) (number_out key)) i;
    }

  -- no number is noted
  pub none_noted : (changes : Changes) (before : Option (Tree R)) (now : Tree R) → AreNoted changes before now → ((number : ℕ) → is_noted changes number ≡ false)
      → AreNumbered now → AreJoined now → before ≡ Some now
  none_noted changes None now noted none numbered joined = absurd (both (is_noted changes 0) (none 0) (noted 0))
  none_noted changes (Some old) now noted none numbered joined =
      ap Some (same_tree old now noted.numbered_old noted.distinct_old numbered joined (λ number. noted.kept number (none number)))
