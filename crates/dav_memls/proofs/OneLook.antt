-- What one look into the index finds: the lock of a token, and the first lock at a key.
use Rattle.std.proofs.Common.{◌≡◌, ◌∙◌, ◌<◌, ℕ, Bool, true, false, cond, List, [], ◌∷◌, map, Option, Some, None, refl, sym, ap, subst, slice_get, nat_cmp}
use Rattle.std.specs.List.{AllByRecursion, filter, find, cons_option}
use Rattle.std.specs.Map.{keys_of, values_of}
use Rattle.std.specs.Option.{option_to_list}
use Rattle.std.specs.Ordering.{is_eq}
use Rattle.dav_store.specs.declared.lock.DavLock.{DavLock}
use Rattle.dav_memls.specs.LockIndex.{Row, numbers_of, lock_of, locks_of_numbers}
use Rattle.dav_memls.proofs.Ascending.{Rises, rises-head, rises-tail, finds_itself, not_at_less}
use Rattle.dav_memls.proofs.LockRows.{all_numbers, locks_found}

cons_one : (o : Option DavLock) → cons_option o [] ≡ option_to_list o
cons_one None = refl
cons_one (Some l) = refl

-- where one number at most is found, the locks that pass are that number's
pub found_one : (test : DavLock → Bool) (rows : List Row) (n : ℕ) → Rises (keys_of rows) → numbers_of test rows ≡ n ∷ [] → option_to_list (lock_of n rows) ≡ filter test (values_of rows)
found_one test rows n h one = sym (cons_one (lock_of n rows)) ∙ ap (λ xs. locks_of_numbers xs rows) (sym one) ∙ locks_found test rows h

pub found_no : (test : DavLock → Bool) (rows : List Row) → Rises (keys_of rows) → numbers_of test rows ≡ [] → [] ≡ filter test (values_of rows)
found_no test rows h none = ap (λ xs. locks_of_numbers xs rows) (sym none) ∙ locks_found test rows h

-- ---- the first lock that passes a test

none_first : (test : DavLock → Bool) (ls : List DavLock) → [] ≡ filter test ls → None ≡ find test ls
none_first test [] e = refl
none_first test (l ∷ ls) e = elim (test l) as (λ b. [] ≡ cond b (l ∷ filter test ls) (filter test ls) → None ≡ cond b (Some l) (find test ls)) [
  | true ↦ λ e. absurd cc
  | false ↦ λ e. none_first test ls e
] e

first_of : (test : DavLock → Bool) (n : ℕ) (more : List ℕ) (rows : List Row) → Rises (keys_of rows) → numbers_of test rows ≡ n ∷ more → lock_of n rows ≡ find test (values_of rows)
first_of test n more [] h is = absurd cc
first_of test n more (row ∷ rows) h is =
    elim (test row.1) as (λ b. map (λ (r : Row). r.0) (cond b (row ∷ filter (λ (r : Row). test r.1) rows) (filter (λ (r : Row). test r.1) rows)) ≡ n ∷ more → lock_of n (row ∷ rows) ≡ cond b (Some row.1) (find test (values_of rows))) [
      | true ↦ λ is. (let at : row.0 ≡ n = cc in ap (λ b. cond b (Some row.1) (lock_of n rows)) (ap (λ k. is_eq (nat_cmp k row.0)) (sym at) ∙ finds_itself row.0))
      | false ↦ λ is. ap (λ b. cond b (Some row.1) (lock_of n rows)) (not_at_less row.0 n (subst (AllByRecursion (λ y. row.0 < y)) is (all_numbers (λ y. row.0 < y) test rows (rises-head row.0 (keys_of rows) h))).0) ∙ first_of test n more rows (rises-tail row.0 (keys_of rows) h) is
    ] is

-- the first number of those that pass is the first lock's
pub first_found : (test : DavLock → Bool) (n : ℕ) (xs : List ℕ) (rows : List Row) → Rises (keys_of rows) → xs ≡ numbers_of test rows → slice_get xs 0 ≡ Some n → lock_of n rows ≡ find test (values_of rows)
first_found test n [] rows h is first = absurd cc
first_found test n (x ∷ xs) rows h is first = (let at : x ≡ n = cc in first_of test n xs rows h (sym is ∙ ap (λ k. k ∷ xs) at))

pub no_first : (test : DavLock → Bool) (xs : List ℕ) (rows : List Row) → Rises (keys_of rows) → xs ≡ numbers_of test rows → slice_get xs 0 ≡ None → None ≡ find test (values_of rows)
no_first test [] rows h is none = none_first test (values_of rows) (found_no test rows h (sym is))
no_first test (x ∷ xs) rows h is none = absurd cc
