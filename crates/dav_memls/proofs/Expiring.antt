-- The numbers of locks by the time when they expire: what a lock that is added, removed or refreshed changes.
use Rattle.std.proofs.Common.{◌≡◌, ◌∙◌, ◌==◌, ◌<◌, ◌&&◌, ◌||◌, ℕ, Bool, true, false, cond, not, List, [], ◌∷◌, ◌++◌, Option, Some, None, refl, sym, ap, subst, nat_cmp, arith}
use Rattle.std.proofs.lemmas.Bool.{and_parts}
use Rattle.std.proofs.lemmas.Bool.Decides.{nat_tests}
use Rattle.std.proofs.lemmas.Cmp.{nat_cmp_total, eq_by_cmp_equiv}
use Rattle.std.proofs.lemmas.Map.{lookup-set_value, lookup-remove_entry}
use Rattle.std.proofs.lemmas.Map.Keys.{IsDistinct-from_sorted}
use Rattle.std.specs.BTreeMap.{is_at}
use Rattle.std.specs.Map.{keys_of, remove_entry, set_value}
use Rattle.std.specs.Option.{option_map_or}
use Rattle.std.specs.Ordering.{is_eq}
use Rattle.dav_store.specs.declared.lock.DavLock.{DavLock}
use Rattle.dav_memls.specs.Expiry.{expires_at}
use Rattle.dav_memls.specs.Numbers.{IsAbove}
use Rattle.dav_memls.specs.Expiries.{is_time, is_entry}
use Rattle.dav_memls.specs.LockIndex.{Row, lock_of, ends_at}
use Rattle.dav_memls.proofs.Ascending.{Rises, is_eq-same, same_turned, at_number, not_at_less, not_same}

-- whether the lock, if there is one, expires at this time
abbrev pub ends : ℕ → Option DavLock → Bool
ends time found = option_map_or (expires_at time) found false

pub read_same : (m n : ℕ) → (m == n) ≡ true → m ≡ n
read_same m n e = grind (arith, nat_tests, e)

same_test : (n x y : ℕ) → is_eq (nat_cmp n x) ≡ true → is_eq (nat_cmp n y) ≡ is_eq (nat_cmp x y)
same_test n x y at = ap (λ k. is_eq (nat_cmp k y)) (at_number n x at)

-- ---- one more

-- a number above all others has no lock
pub absent_above : (rows : List Row) (n : ℕ) → IsAbove n (keys_of rows) → lock_of n rows ≡ None
absent_above [] n above = refl
absent_above (row ∷ rows) n above = ap (λ b. cond b (Some row.1) (lock_of n rows)) (not_at_less row.0 n above.0) ∙ absent_above rows n above.1

found-push : (rows : List Row) (n : ℕ) (l : DavLock) (m : ℕ) → IsAbove n (keys_of rows) → lock_of m (rows ++ (n, l) ∷ []) ≡ cond (m == n) (Some l) (lock_of m rows)
found-push [] n l m above = ap (λ b. cond b (Some l) None) (is_eq-same m n)
found-push (row ∷ rows) n l m above =
    elim (is_eq (nat_cmp m row.0)) as (λ b. is_eq (nat_cmp m row.0) ≡ b → cond b (Some row.1) (lock_of m (rows ++ (n, l) ∷ [])) ≡ cond (m == n) (Some l) (cond b (Some row.1) (lock_of m rows))) [
      | true ↦ λ at. sym (ap (λ b. cond b (Some l) (Some row.1)) (not_same m n (subst (λ k. k < n) (sym (at_number m row.0 at)) above.0)))
      | false ↦ λ at. found-push rows n l m above.1
    ] refl

pub ends-push : (rows : List Row) (n : ℕ) (l : DavLock) (time m : ℕ) → IsAbove n (keys_of rows) → ends_at (rows ++ (n, l) ∷ []) time m ≡ (ends_at rows time m || is_entry l.timeout_at n time m)
ends-push rows n l time m above = ap (ends time) (found-push rows n l m above) ∙ split (m == n) (λ e. ap (λ k. lock_of k rows) (read_same m n e) ∙ absent_above rows n above)
  where
    right_false : (x : Bool) → x ≡ (x || false)
    right_false true = refl
    right_false false = refl

    split : (b : Bool) → (b ≡ true → lock_of m rows ≡ None) → ends time (cond b (Some l) (lock_of m rows)) ≡ (ends time (lock_of m rows) || (b && is_time l.timeout_at time))
    split true none = sym (ap (λ o. ends time o || is_time l.timeout_at time) (none refl))
    split false none = right_false (ends time (lock_of m rows))

-- ---- one less

found-remove : (rows : List Row) (n m : ℕ) → Rises (keys_of rows) → lock_of m (remove_entry (is_at (nat_cmp n)) rows) ≡ cond (m == n) None (lock_of m rows)
found-remove rows n m rises =
    lookup-remove_entry (eq_by_cmp_equiv nat_cmp_total) (is_at (nat_cmp n)) (same_test n) m rows (IsDistinct-from_sorted nat_cmp (keys_of rows) rises)
    ∙ ap (λ b. cond b None (lock_of m rows)) (same_turned n m)

pub ends-remove : (rows : List Row) (n : ℕ) (l : DavLock) (time m : ℕ) → Rises (keys_of rows) → lock_of n rows ≡ Some l → ends_at (remove_entry (is_at (nat_cmp n)) rows) time m ≡ (ends_at rows time m && not (is_entry l.timeout_at n time m))
ends-remove rows n l time m rises held = ap (ends time) (found-remove rows n m rises) ∙ split (m == n) (λ e. ap (λ k. lock_of k rows) (read_same m n e) ∙ held)
  where
    never_both : (x : Bool) → false ≡ (x && not x)
    never_both true = refl
    never_both false = refl

    right_true : (x : Bool) → x ≡ (x && true)
    right_true true = refl
    right_true false = refl

    split : (b : Bool) → (b ≡ true → lock_of m rows ≡ Some l) → ends time (cond b None (lock_of m rows)) ≡ (ends time (lock_of m rows) && not (b && is_time l.timeout_at time))
    split true has = never_both (is_time l.timeout_at time) ∙ sym (ap (λ o. ends time o && not (is_time l.timeout_at time)) (has refl))
    split false has = right_true (ends time (lock_of m rows))

-- ---- one refreshed

found-set : (rows : List Row) (n : ℕ) (l new : DavLock) (m : ℕ) → lock_of n rows ≡ Some l → lock_of m (set_value (is_at (nat_cmp n)) rows new) ≡ cond (m == n) (Some new) (lock_of m rows)
found-set rows n l new m held = lookup-set_value (eq_by_cmp_equiv nat_cmp_total) (is_at (nat_cmp n)) (same_test n) m new rows (rw held refl) ∙ ap (λ b. cond b (Some new) (lock_of m rows)) (same_turned n m)

pub ends-set : (rows : List Row) (n : ℕ) (l new : DavLock) (time m : ℕ) → lock_of n rows ≡ Some l → ends_at (set_value (is_at (nat_cmp n)) rows new) time m ≡ cond (m == n) (is_time new.timeout_at time) (ends_at rows time m)
ends-set rows n l new time m held = ap (ends time) (found-set rows n l new m held) ∙ split (m == n)
  where
    split : (b : Bool) → ends time (cond b (Some new) (lock_of m rows)) ≡ cond b (is_time new.timeout_at time) (ends time (lock_of m rows))
    split true = refl
    split false = refl

-- ---- an entry that was added and is removed

-- where the number is not in the set, it is not removed
pub entry_absent : (due : ℕ → Bool) (n m : ℕ) (b : Bool) → due n ≡ false → (due m && not ((m == n) && b)) ≡ due m
entry_absent due n m b none = split (m == n) (λ e. ap due (read_same m n e) ∙ none)
  where
    right_true : (x : Bool) → (x && true) ≡ x
    right_true true = refl
    right_true false = refl

    split : (c : Bool) → (c ≡ true → due m ≡ false) → (due m && not (c && b)) ≡ due m
    split true none = ap (λ x. x && not b) (none refl) ∙ sym (none refl)
    split false none = right_true (due m)

-- an entry that was added is removed again
pub entry_undone : (due : ℕ → Bool) (n m : ℕ) (b : Bool) → due n ≡ false → ((due m || ((m == n) && b)) && not ((m == n) && b)) ≡ due m
entry_undone due n m b none = split (due m) ((m == n) && b) (λ e. ap due (read_same m n (and_parts (m == n) b e).0) ∙ none)
  where
    split : (x c : Bool) → (c ≡ true → x ≡ false) → ((x || c) && not c) ≡ x
    split true true h = sym (h refl)
    split true false h = refl
    split false true h = refl
    split false false h = refl
