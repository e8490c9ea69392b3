-- The rows of numbers after a change of a tree.
use Rattle.std.proofs.Common.{◌≡◌, ◌≢◌, ◌⊎◌, inl, inr, ℕ, Bool, true, false, List, [], ◌∷◌, ◌++◌, ◌-◌, length, Option, Some, None, IsSome, Result, Ok, Err, get_or, refl, sym, ap, subst, ◌∙◌, arith, length-append, append_assoc}
use Rattle.std.proofs.lemmas.Option.{slice_get_read}
use Rattle.std.proofs.Math.Seq.{get_or-append_seam}
use Rattle.std.proofs.lemmas.List.{append-nil}
use Rattle.std.specs.Prelude.{OnOk, OnErr}
use Rattle.std.specs.Option.{option_map}
use Rattle.std.specs.FinMap.{get}
use Rattle.dav_key.specs.Key.{Key, parent}
use Rattle.dav_key.specs.Below.{is_at_or_below}
use Rattle.dav_key.proofs.FlatLemmas.{parent-push}
use Rattle.dav_nodes.specs.Tree.{Tree, IsAdded, IsReplaced, IsRemoved, IsTreeMoved, HasNoMember}
use Rattle.dav_nodes.specs.Rows.{Row, own_name, row_of, HasRow, KeepsRow, AreNumbered, AreDistinct, AreJoined, AreNoted, is_noted}
use Rattle.dav_nodes.specs.declared.changes.Changes.{Changes}
use Rattle.dav_nodes.proofs.KeyMaps.{insert-here, insert-elsewhere, remove-here, remove-elsewhere, key_same_or_not}
use Rattle.dav_nodes.proofs.BelowKeys.{below_or_not, split_or_none, not_below_above, not_below, same_below}
use Rattle.dav_nodes.proofs.Linking.{some_apart, not_none}

-- ---- keys with a last segment

pub own_name-push : (key : Key) (s : List ℕ) → own_name (key ++ s ∷ []) ≡ Some s
own_name-push key s =
    let n = length-append key (s ∷ []) in
    let at : length (key ++ s ∷ []) - 1 ≡ length key = omega (arith, n) in
    slice_get_read (key ++ s ∷ []) (length (key ++ s ∷ [])) (length (key ++ s ∷ []) - 1) s refl (omega (arith, n))
    (sym (ap (λ i. get_or (key ++ s ∷ []) i s) at ∙ get_or-append_seam key s [] s))

pub both : (b : Bool) → b ≡ false → b ≡ true → ⊥
both b f t = absurd (let e : true ≡ false = sym t ∙ f in cc)

still_out : (a b : Bool) → (a ≡ true → b ≡ true) → b ≡ false → a ≡ false
still_out true b stays out = absurd (let e : true ≡ false = sym (stays refl) ∙ out in cc)
still_out false b stays out = refl

module _ {R : Type 0} where
  -- the row of a member
  pub row_of-push : (tree : Tree R) (above : Key) (s : List ℕ) → row_of tree (above ++ s ∷ []) ≡ option_map (λ value. record { above = get tree.numbers above; name = Some s; value = value }) (get tree.values (above ++ s ∷ []))
  row_of-push tree above s =
      ap (λ k. option_map (λ value. record { above = get tree.numbers k; name = own_name (above ++ s ∷ []); value = value }) (get tree.values (above ++ s ∷ []))) (parent-push above s)
      ∙ ap (λ n. option_map (λ value. record { above = get tree.numbers above; name = n; value = value }) (get tree.values (above ++ s ∷ []))) (own_name-push above s)

  -- the same row, if the parent's number and the value are the same
  same_row : (old new : Tree R) (key : Key) → get new.numbers (parent key) ≡ get old.numbers (parent key) → get new.values key ≡ get old.values key → row_of new key ≡ row_of old key
  same_row old new key above value = λ i. option_map (λ v. record { above = above i; name = own_name key; value = v }) (value i)

  has_value : (tree : Tree R) (key : Key) (row : Row R) → row_of tree key ≡ Some row → get tree.values key ≢ None
  has_value tree key row is none = absurd (let e = sym is ∙ ap (option_map (λ value. record { above = get tree.numbers (parent key); name = own_name key; value = value })) none in cc)

  pub keeps-refl : (number : ℕ) (tree : Tree R) → KeepsRow number tree tree
  keeps-refl number tree = record { kept = λ row has. has; had = λ row has. has }

  pub keeps-trans : (number : ℕ) (a b c : Tree R) → KeepsRow number a b → KeepsRow number b c → KeepsRow number a c
  keeps-trans number a b c x y = record { kept = λ row has. y.kept row (x.kept row has); had = λ row has. x.had row (y.had row has) }

  -- rows are kept where each key with that number in one tree has the number and the row in the other
  by_keys : (number : ℕ) (old new : Tree R)
      → ((key : Key) (row : Row R) → get old.numbers key ≡ Some number → row_of old key ≡ Some row → HasRow new number row)
      → ((key : Key) (row : Row R) → get new.numbers key ≡ Some number → row_of new key ≡ Some row → HasRow old number row)
      → KeepsRow number old new
  by_keys number old new there back = record { kept = λ row has. there has.0 row has.1 has.2; had = λ row has. back has.0 row has.1 has.2 }

  -- what has a number has a parent with one
  joined_above : (tree : Tree R) → AreJoined tree → (key : Key) (number : ℕ) → get tree.numbers key ≡ Some number → get tree.numbers (parent key) ≢ None
  joined_above tree joined key number at none = elim (split_or_none key) [
    | inl root ↦ not_none (get tree.numbers key) number at (ap (get tree.numbers) (root ∙ sym (ap parent root)) ∙ none)
    | inr last ↦
        let is : key ≡ parent key ++ last.1 ∷ [] = last.2 ∙ ap (λ k. k ++ last.1 ∷ []) (sym (ap parent last.2 ∙ parent-push last.0 last.1)) in
        not_none (get tree.numbers key) number at (ap (get tree.numbers) is ∙ joined (parent key) (last.1 ∷ []) none)
  ]

  -- ---- a value is added

  module _ (key : Key) (number : ℕ) (value : R) (old new : Tree R) (joined : AreJoined old) (absent : get old.numbers key ≡ None) (added : IsAdded key number value old new) where
    added_numbers : (q : Key) → q ≢ key → get new.numbers q ≡ get old.numbers q
    added_numbers q apart = ap (λ m. get m q) added.numbers ∙ insert-elsewhere old.numbers key number q apart

    added_row : (q : Key) (n : ℕ) → q ≢ key → get old.numbers q ≡ Some n → row_of new q ≡ row_of old q
    added_row q n apart at =
        same_row old new q
        (added_numbers (parent q) (λ e. joined_above old joined q n at (ap (get old.numbers) e ∙ absent)))
        (ap (λ m. get m q) added.values ∙ insert-elsewhere old.values key value q apart)

    not_added : (q : Key) (n : ℕ) → n ≢ number → get new.numbers q ≡ Some n → q ≢ key
    not_added q n other at e =
        other (some_apart n number (sym at ∙ ap (get new.numbers) e ∙ ap (λ m. get m key) added.numbers ∙ insert-here old.numbers key number))

    pub keeps-added : (n : ℕ) → n ≢ number → KeepsRow n old new
    keeps-added n other = by_keys n old new
        (λ q row at is.
        let apart : q ≢ key = λ e. not_none (get old.numbers q) n at (ap (get old.numbers) e ∙ absent) in
        (q, added_numbers q apart ∙ at, added_row q n apart at ∙ is))
        (λ q row at is.
        let apart = not_added q n other at in
        let was = sym (added_numbers q apart) ∙ at in
        (q, was, sym (added_row q n apart was) ∙ is))

  -- ---- a value is replaced

  pub keeps-replaced : (key : Key) (number : ℕ) (before after : R) (old new : Tree R) → get old.numbers key ≡ Some number → IsReplaced key before after old new → (n : ℕ) → n ≢ number → KeepsRow n old new
  keeps-replaced key number before after old new at_key replaced n other =
      let elsewhere : (q : Key) → get old.numbers q ≡ Some n → row_of new q ≡ row_of old q =
      λ q at. same_row old new q (ap (λ m. get m (parent q)) replaced.numbers)
      (ap (λ m. get m q) replaced.values ∙ insert-elsewhere old.values key after q (λ e. other (some_apart n number (sym at ∙ ap (get old.numbers) e ∙ at_key)))) in
      by_keys n old new
      (λ q row at is. (q, ap (λ m. get m q) replaced.numbers ∙ at, elsewhere q at ∙ is))
      (λ q row at is. let was = sym (ap (λ m. get m q) replaced.numbers) ∙ at in (q, was, sym (elsewhere q was) ∙ is))

  -- ---- a value is removed

  module _ (key : Key) (number : ℕ) (old new : Tree R) (root : key ≢ []) (at_key : get old.numbers key ≡ Some number) (childless : HasNoMember key old) (removed : IsRemoved key old new) where
    removed_numbers : (q : Key) → q ≢ key → get new.numbers q ≡ get old.numbers q
    removed_numbers q apart = ap (λ m. get m q) removed.numbers ∙ remove-elsewhere old.numbers key q apart

    removed_values : (q : Key) → q ≢ key → get new.values q ≡ get old.values q
    removed_values q apart = ap (λ m. get m q) removed.values ∙ remove-elsewhere old.values key q apart

    -- no value is a member of the removed one
    not_member : (q : Key) → get old.values q ≢ None → parent q ≢ key
    not_member q there e = elim (split_or_none q) [
      | inl none ↦ root (sym e ∙ ap parent none)
      | inr last ↦
          let is : q ≡ key ++ last.1 ∷ [] = last.2 ∙ ap (λ k. k ++ last.1 ∷ []) (sym (parent-push last.0 last.1) ∙ sym (ap parent last.2) ∙ e) in
          there (ap (get old.values) is ∙ childless last.1)
    ]

    removed_row : (q : Key) → q ≢ key → get old.values q ≢ None → row_of new q ≡ row_of old q
    removed_row q apart there = same_row old new q (removed_numbers (parent q) (not_member q there)) (removed_values q apart)

    pub keeps-removed : (n : ℕ) → n ≢ number → KeepsRow n old new
    keeps-removed n other = by_keys n old new
        (λ q row at is.
        let apart : q ≢ key = λ e. other (some_apart n number (sym at ∙ ap (get old.numbers) e ∙ at_key)) in
        (q, removed_numbers q apart ∙ at, removed_row q apart (has_value old q row is) ∙ is))
        (λ q row at is.
        let apart : q ≢ key = λ e. not_none (get new.numbers q) n at (ap (get new.numbers) e ∙ ap (λ m. get m key) removed.numbers ∙ remove-here old.numbers key) in
        let there : get old.values q ≢ None = λ none. has_value new q row is (removed_values q apart ∙ none) in
        (q, sym (removed_numbers q apart) ∙ at, sym (removed_row q apart there) ∙ is))

  -- ---- values are moved

  module _ (from to : Key) (number : ℕ) (old new : Tree R) (joined : AreJoined old) (at_from : get old.numbers from ≡ Some number) (free : get old.numbers to ≡ None) (moved : IsTreeMoved from to old new) where
    -- a member below the one key has the row of the member below the other
    moved_row : (y : Key) (s : List ℕ) → row_of new (to ++ (y ++ s ∷ [])) ≡ row_of old (from ++ (y ++ s ∷ []))
    moved_row y s =
        ap (row_of new) (sym (append_assoc to y (s ∷ []))) ∙ row_of-push new (to ++ y) s
        ∙ (λ i. option_map (λ v. record { above = moved.numbers.moved y i; name = Some s; value = v }) (value i))
        ∙ sym (row_of-push old (from ++ y) s) ∙ ap (row_of old) (append_assoc from y (s ∷ []))
      where
        value : get new.values ((to ++ y) ++ s ∷ []) ≡ get old.values ((from ++ y) ++ s ∷ [])
        value = ap (get new.values) (append_assoc to y (s ∷ [])) ∙ moved.values.moved (y ++ s ∷ []) ∙ ap (get old.values) (sym (append_assoc from y (s ∷ [])))

    -- what is neither at nor below either key is as it was
    rest_row : (q : Key) → is_at_or_below q from ≡ false → is_at_or_below q to ≡ false → row_of new q ≡ row_of old q
    rest_row q not_from not_to = same_row old new q (above (split_or_none q)) (moved.values.rest q not_from not_to)
      where
        above : (q ≡ []) ⊎ ((y : Key) × (s : List ℕ) × (q ≡ y ++ s ∷ [])) → get new.numbers (parent q) ≡ get old.numbers (parent q)
        above (inl root) =
            let here : parent q ≡ q = ap parent root ∙ sym root in
            ap (get new.numbers) here ∙ moved.numbers.rest q not_from not_to ∙ sym (ap (get old.numbers) here)
        above (inr last) =
            let here : parent q ≡ last.0 = ap parent last.2 ∙ parent-push last.0 last.1 in
            ap (get new.numbers) here
            ∙ moved.numbers.rest last.0 (not_below_above from last.0 last.1 (ap (λ k. is_at_or_below k from) (sym last.2) ∙ not_from))
            (not_below_above to last.0 last.1 (ap (λ k. is_at_or_below k to) (sym last.2) ∙ not_to))
            ∙ sym (ap (get old.numbers) here)

    module _ (n : ℕ) (other : n ≢ number) where
      there : (q : Key) (row : Row R) → get old.numbers q ≡ Some n → row_of old q ≡ Some row → HasRow new n row
      there q row at is = elim (below_or_not from q) [
        | inl more ↦ elim (split_or_none more.0) [
          | inl none ↦ absurd (other (some_apart n number (sym at ∙ ap (get old.numbers) (more.1 ∙ ap (λ k. from ++ k) none ∙ append-nil from) ∙ at_from)))
          | inr last ↦
              let is_q : q ≡ from ++ (last.0 ++ last.1 ∷ []) = more.1 ∙ ap (λ k. from ++ k) last.2 in (
                to ++ (last.0 ++ last.1 ∷ []),
                moved.numbers.moved (last.0 ++ last.1 ∷ []) ∙ ap (get old.numbers) (sym is_q) ∙ at,
                moved_row last.0 last.1 ∙ ap (row_of old) (sym is_q) ∙ is,
              )
        ]
        | inr not_from ↦ elim (below_or_not to q) [
          | inl more ↦ absurd (not_none (get old.numbers q) n at (ap (get old.numbers) more.1 ∙ joined to more.0 free))
          | inr not_to ↦ (q, moved.numbers.rest q not_from not_to ∙ at, rest_row q not_from not_to ∙ is)
        ]
      ]

      back : (q : Key) (row : Row R) → get new.numbers q ≡ Some n → row_of new q ≡ Some row → HasRow old n row
      back q row at is = elim (below_or_not from q) [
        | inl more ↦ absurd (not_none (get new.numbers q) n at (ap (get new.numbers) more.1 ∙ moved.numbers.gone more.0))
        | inr not_from ↦ elim (below_or_not to q) [
          | inl more ↦ elim (split_or_none more.0) [
            | inl none ↦
                absurd (other (some_apart n number (
                sym at ∙ ap (get new.numbers) (more.1 ∙ ap (λ k. to ++ k) none) ∙ moved.numbers.moved [] ∙ ap (get old.numbers) (append-nil from) ∙ at_from)))
            | inr last ↦
                let is_q : q ≡ to ++ (last.0 ++ last.1 ∷ []) = more.1 ∙ ap (λ k. to ++ k) last.2 in (
                  from ++ (last.0 ++ last.1 ∷ []),
                  sym (moved.numbers.moved (last.0 ++ last.1 ∷ [])) ∙ ap (get new.numbers) (sym is_q) ∙ at,
                  sym (moved_row last.0 last.1) ∙ ap (row_of new) (sym is_q) ∙ is,
                )
          ]
          | inr not_to ↦ (q, sym (moved.numbers.rest q not_from not_to) ∙ at, sym (rest_row q not_from not_to) ∙ is)
        ]
      ]

      pub keeps-moved : KeepsRow n old new
      keeps-moved = by_keys n old new there back

  -- ---- numbers stay apart

  pub distinct-added : (key : Key) (number : ℕ) (value : R) (old new : Tree R) → AreDistinct old → IsAdded key number value old new → AreDistinct new
  distinct-added key number value old new distinct added a b n at_a at_b = elim (key_same_or_not a key) [
    | inl same_a ↦ elim (key_same_or_not b key) [
      | inl same_b ↦ same_a ∙ sym same_b
      | inr apart_b ↦ absurd (added.unused b (was b apart_b at_b ∙ ap Some (its a same_a at_a)))
    ]
    | inr apart_a ↦ elim (key_same_or_not b key) [
      | inl same_b ↦ absurd (added.unused a (was a apart_a at_a ∙ ap Some (its b same_b at_b)))
      | inr apart_b ↦ distinct a b n (was a apart_a at_a) (was b apart_b at_b)
    ]
  ]
    where
      was : (q : Key) → q ≢ key → get new.numbers q ≡ Some n → get old.numbers q ≡ Some n
      was q apart at = sym (ap (λ m. get m q) added.numbers ∙ insert-elsewhere old.numbers key number q apart) ∙ at

      its : (q : Key) → q ≡ key → get new.numbers q ≡ Some n → n ≡ number
      its q same at = some_apart n number (sym at ∙ ap (get new.numbers) same ∙ ap (λ m. get m key) added.numbers ∙ insert-here old.numbers key number)

  pub distinct-removed : (key : Key) (old new : Tree R) → AreDistinct old → IsRemoved key old new → AreDistinct new
  distinct-removed key old new distinct removed a b n at_a at_b = distinct a b n (was a at_a) (was b at_b)
    where
      was : (q : Key) → get new.numbers q ≡ Some n → get old.numbers q ≡ Some n
      was q at = elim (key_same_or_not q key) [
        | inl same ↦
            absurd (not_none (get new.numbers q) n at (ap (get new.numbers) same ∙ ap (λ m. get m key) removed.numbers ∙ remove-here old.numbers key))
        | inr apart ↦ sym (ap (λ m. get m q) removed.numbers ∙ remove-elsewhere old.numbers key q apart) ∙ at
      ]

  pub distinct-moved : (from to : Key) (old new : Tree R) → AreDistinct old → IsTreeMoved from to old new → AreDistinct new
  distinct-moved from to old new distinct moved a b n at_a at_b = elim (came a at_a) [
    | inl x ↦ elim (came b at_b) [
      | inl y ↦ x.1 ∙ ap (λ k. to ++ k) (same_below from x.0 y.0 (distinct (from ++ x.0) (from ++ y.0) n x.2 y.2)) ∙ sym y.1
      | inr y ↦ absurd (not_below from b x.0 y.0 (sym (distinct (from ++ x.0) b n x.2 y.1)))
    ]
    | inr x ↦ elim (came b at_b) [
      | inl y ↦ absurd (not_below from a y.0 x.0 (distinct a (from ++ y.0) n x.1 y.2))
      | inr y ↦ distinct a b n x.1 y.1
    ]
  ]
    where
      came : (q : Key) → get new.numbers q ≡ Some n
          → ((x : Key) × (q ≡ to ++ x) × (get old.numbers (from ++ x) ≡ Some n)) ⊎ ((is_at_or_below q from ≡ false) × (get old.numbers q ≡ Some n))
      came q at = elim (below_or_not from q) [
        | inl more ↦ absurd (not_none (get new.numbers q) n at (ap (get new.numbers) more.1 ∙ moved.numbers.gone more.0))
        | inr not_from ↦ elim (below_or_not to q) [
          | inl more ↦ inl (more.0, more.1, sym (moved.numbers.moved more.0) ∙ ap (get new.numbers) (sym more.1) ∙ at)
          | inr not_to ↦ inr (not_from, sym (moved.numbers.rest q not_from not_to) ∙ at)
        ]
      ]

  -- ---- what is noted

  -- nothing but a noted number changes
  pub noted_more : (number : ℕ) (changes more : Changes) (before : Option (Tree R)) (old new : Tree R)
      → is_noted more number ≡ true → ((n : ℕ) → is_noted changes n ≡ true → is_noted more n ≡ true)
      → ((n : ℕ) → n ≢ number → KeepsRow n old new) → AreDistinct new → AreNoted changes before old → AreNoted more before new
  noted_more number changes more None old new is_in stays keeps distinct noted = λ n. stays n (noted n)
  noted_more number changes more (Some then) old new is_in stays keeps distinct noted = record {
    numbered_old = noted.numbered_old;
    distinct_old = noted.distinct_old;
    distinct_now = distinct;
    kept = λ n out.
        keeps-trans n then old new (noted.kept n (still_out (is_noted changes n) (is_noted more n) (stays n) out))
        (keeps n (λ e. both (is_noted more n) out (ap (is_noted more) e ∙ is_in)));
  }

  -- the same, where the number of a key is noted already
  pub noted_at : (key : Key) (changes : Changes) (before : Option (Tree R)) (old new : Tree R) → IsSome (get old.numbers key)
      → ((number : ℕ) → get old.numbers key ≡ Some number → is_noted changes number ≡ true)
      → ((number : ℕ) → get old.numbers key ≡ Some number → (n : ℕ) → n ≢ number → KeepsRow n old new)
      → AreDistinct new → AreNoted changes before old → AreNoted changes before new
  noted_at key changes before old new there is_in keeps distinct noted = by (get old.numbers key) refl there
    where
      by : (o : Option ℕ) → get old.numbers key ≡ o → IsSome o → AreNoted changes before new
      by None at is = absurd cc
      by (Some number) at is = noted_more number changes changes before old new (is_in number at) (λ n e. e) (keeps number at) distinct noted

  -- what holds after a move, and holds if nothing changes, holds after either
  pub moved_or_same : {A E : Type 0} (result : Result A E) (from to : Key) (old new : Tree R) (P : Tree R → Type 0)
      → (IsTreeMoved from to old new → P new) → P old → OnOk result (IsTreeMoved from to old new) → OnErr result (new ≡ old) → P new
  moved_or_same (Ok a) from to old new P moved same ok err = moved ok
  moved_or_same (Err e) from to old new P moved same ok err = subst P (sym err) same

  -- a tree that was just asked
  pub noted_none : (changes : Changes) (tree : Tree R) → AreNumbered tree → AreDistinct tree → AreNoted changes (Some tree) tree
  noted_none changes tree numbered distinct =
      record { numbered_old = numbered; distinct_old = distinct; distinct_now = distinct; kept = λ n _. keeps-refl n tree }
