-- The rows of the state but that of the seal, after a change.
use Rattle.std.proofs.Common.{◌≡◌, ◌++◌, ℕ, ℤ, pos, Bool, true, false, cond, Option, Some, None, [], ◌∷◌, refl, sym, ap, ap₂, ◌∙◌, int_cmp, Ordering, Less, Equal, Greater}
use Rattle.std.specs.Ordering.{is_eq, eq_by_cmp}
use Rattle.std.proofs.lemmas.Cmp.{int_cmp_total}
use Rattle.std.specs.FinMap.Entries.{where_key}
use Rattle.dav_rows.proofs.RowLemmas.{is_other, entries-remove}
use Rattle.std.specs.FinMap.{empty, get, entries, insert, remove, get-empty, get-insert, get-remove, same_map, int_cmp-IsAntisymmetric}
use Rattle.dav_rows.specs.Stored.{Numbered}
use Rattle.dav_rows.specs.Contents.{Contents, StateValues, resource_cells, extent_cells, property_cells, lock_cells, state_cells}
use Rattle.dav_rows.specs.declared.change.Table.TheVariants.{Resource, Extent, Property, Lock, State}
use Rattle.dav_seal.specs.Digests.{digests_of}
use Rattle.dav_seal.specs.Sums.{total_of}
use Rattle.dav_seal.specs.Seals.{seal_of, seal_row, sealed}
use Rattle.dav_seal.specs.SealRow.{unsealed}

same_key : (a b : ℤ) → eq_by_cmp int_cmp a b ≡ true → a ≡ b
same_key a b is = int_cmp-IsAntisymmetric a b (equal (int_cmp a b) is)
  where
    equal : (o : Ordering) → is_eq o ≡ true → o ≡ Equal
    equal Less e = cc
    equal Equal e = refl
    equal Greater e = cc

module _ (m : Numbered StateValues) where
  pub unsealed-insert : (k : ℤ) (v : StateValues) → (k ≡ pos 1 → ⊥) → unsealed (insert m k v) ≡ insert (unsealed m) k v
  unsealed-insert k v apart = same_map int_cmp_total int_cmp-IsAntisymmetric _ _ (λ q.
      get-remove int_cmp_total (insert m k v) (pos 1) q ∙ ap (cond (eq_by_cmp int_cmp q (pos 1)) None) (get-insert int_cmp_total m k v q)
      ∙ go q (eq_by_cmp int_cmp q (pos 1)) (eq_by_cmp int_cmp q k) refl refl
      ∙ sym (get-insert int_cmp_total (remove m (pos 1)) k v q ∙ ap (cond (eq_by_cmp int_cmp q k) (Some v)) (get-remove int_cmp_total m (pos 1) q)))
    where
      go : (q : ℤ) (a b : Bool) → eq_by_cmp int_cmp q (pos 1) ≡ a → eq_by_cmp int_cmp q k ≡ b → cond a None (cond b (Some v) (get m q)) ≡ cond b (Some v) (cond a None (get m q))
      go q true true one other = absurd (apart (sym (same_key q k other) ∙ same_key q (pos 1) one))
      go q true false one other = refl
      go q false true one other = refl
      go q false false one other = refl

  pub unsealed-seal : (v : StateValues) → unsealed (insert m (pos 1) v) ≡ unsealed m
  unsealed-seal v = same_map int_cmp_total int_cmp-IsAntisymmetric _ _ (λ q.
      get-remove int_cmp_total (insert m (pos 1) v) (pos 1) q ∙ ap (cond (eq_by_cmp int_cmp q (pos 1)) None) (get-insert int_cmp_total m (pos 1) v q)
      ∙ go (eq_by_cmp int_cmp q (pos 1)) (get m q) ∙ sym (get-remove int_cmp_total m (pos 1) q))
    where
      go : (a : Bool) (x : Option StateValues) → cond a None (cond a (Some v) x) ≡ cond a None x
      go true x = refl
      go false x = refl

  pub unsealed-remove : (k : ℤ) → unsealed (remove m k) ≡ remove (unsealed m) k
  unsealed-remove k = same_map int_cmp_total int_cmp-IsAntisymmetric _ _ (λ q.
      get-remove int_cmp_total (remove m k) (pos 1) q ∙ ap (cond (eq_by_cmp int_cmp q (pos 1)) None) (get-remove int_cmp_total m k q)
      ∙ go (eq_by_cmp int_cmp q (pos 1)) (eq_by_cmp int_cmp q k) (get m q)
      ∙ sym (get-remove int_cmp_total (remove m (pos 1)) k q ∙ ap (cond (eq_by_cmp int_cmp q k) None) (get-remove int_cmp_total m (pos 1) q)))
    where
      go : (a b : Bool) (x : Option StateValues) → cond a None (cond b None x) ≡ cond b None (cond a None x)
      go true true x = refl
      go true false x = refl
      go false true x = refl
      go false false x = refl

-- the row of the seal changes no seal
pub sealed-seal : (key : ℕ) (m : Contents) → seal_of key (sealed key m) ≡ seal_of key m
sealed-seal key m =
    ap (λ states. total_of (digests_of key Resource resource_cells m.resources
    ++ (digests_of key Extent extent_cells m.extents
    ++ (digests_of key Property property_cells m.properties
    ++ (digests_of key Lock lock_cells m.locks ++ digests_of key State state_cells states)))))
    (unsealed-seal m.states (seal_row key m).1)

-- the row of the seal is taken from two rows, and nothing from one
pub unsealed-two : (m : Numbered StateValues) (a b : ℤ × StateValues) → entries m ≡ a ∷ b ∷ [] → a.0 ≡ pos 0 → b.0 ≡ pos 1 → entries (unsealed m) ≡ a ∷ []
unsealed-two m a b is first second =
    entries-remove m (pos 1) ∙ ap (where_key int_cmp (is_other (pos 1))) is
    ∙ ap₂ (λ k l. where_key int_cmp (is_other (pos 1)) ((k, a.1) ∷ (l, b.1) ∷ [])) first second ∙ ap (λ k. (k, a.1) ∷ []) (sym first)

pub unsealed-one : (m : Numbered StateValues) (a : ℤ × StateValues) → entries m ≡ a ∷ [] → a.0 ≡ pos 0 → entries (unsealed m) ≡ a ∷ []
unsealed-one m a is first =
    entries-remove m (pos 1) ∙ ap (where_key int_cmp (is_other (pos 1))) is
    ∙ ap (λ k. where_key int_cmp (is_other (pos 1)) ((k, a.1) ∷ [])) first ∙ ap (λ k. (k, a.1) ∷ []) (sym first)

pub unsealed-nothing : unsealed empty ≡ empty
unsealed-nothing = same_map int_cmp_total int_cmp-IsAntisymmetric _ _ (λ q.
    get-remove int_cmp_total empty (pos 1) q ∙ ap (cond (eq_by_cmp int_cmp q (pos 1)) None) (get-empty int_cmp q) ∙ go (eq_by_cmp int_cmp q (pos 1)) None ∙ sym (get-empty int_cmp q))
  where
    go : (a : Bool) (x : Option StateValues) → cond a x x ≡ x
    go true x = refl
    go false x = refl
