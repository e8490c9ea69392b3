-- Locks with their numbers: what a lock that is added, removed or refreshed changes, and the locks of numbers.
use Rattle.std.proofs.Common.{◌≡◌, ◌∙◌, ◌==◌, ◌<◌, ℕ, Bool, true, false, cond, not, ◌||◌, List, [], ◌∷◌, ◌++◌, map, Option, Some, None, refl, sym, ap, ap₂, subst, nat_cmp}
use Rattle.std.proofs.lemmas.List.{map-append}
use Rattle.std.specs.BTreeMap.{is_at, insert_entry}
use Rattle.std.specs.List.{AllByRecursion, filter, filter_map, list_any, cons_option}
use Rattle.std.specs.Map.{keys_of, values_of, remove_entry, set_value}
use Rattle.std.specs.Option.{IsSomeAnd, option_to_list, is_some}
use Rattle.std.specs.Ordering.{is_eq, match_ordering}
use Rattle.dav_store.specs.declared.lock.DavLock.{DavLock}
use Rattle.dav_store.specs.LockCalls.{refreshed}
use Rattle.dav_memls.specs.Numbers.{IsAbove, without}
use Rattle.dav_memls.specs.ByKey.{only_if, without_if}
use Rattle.dav_memls.specs.LockIndex.{Row, numbers_of, lock_of, locks_of_numbers, locks_refreshed}
use Rattle.dav_memls.proofs.Ascending.{Rises, rises-head, rises-tail, same, not_same, without_above, is_eq-same, at_number, finds_itself, not_at_less, greater}

-- ---- one more

pub entries-push : (rows : List Row) (n : ℕ) (l : DavLock) → IsAbove n (keys_of rows) → insert_entry nat_cmp rows n l ≡ rows ++ (n, l) ∷ []
entries-push [] n l above = refl
entries-push (row ∷ rows) n l above =
    ap (λ o. match_ordering o ((n, l) ∷ row ∷ rows) ((row.0, l) ∷ rows) (row ∷ insert_entry nat_cmp rows n l)) (greater row.0 n above.0)
    ∙ ap (λ more. row ∷ more) (entries-push rows n l above.1)

pub values-push : (rows : List Row) (n : ℕ) (l : DavLock) → values_of (rows ++ (n, l) ∷ []) ≡ values_of rows ++ l ∷ []
values-push rows n l = map-append (λ (row : Row). row.1) rows ((n, l) ∷ [])

pub numbers-push : (test : DavLock → Bool) (rows : List Row) (n : ℕ) (l : DavLock) → numbers_of test (rows ++ (n, l) ∷ []) ≡ numbers_of test rows ++ only_if (test l) n
numbers-push test [] n l = elim (test l) as (λ b. map (λ (row : Row). row.0) (cond b ((n, l) ∷ []) []) ≡ only_if b n) [ true ↦ refl | false ↦ refl ]
numbers-push test (row ∷ rows) n l =
    elim (test row.1) as (λ b. map (λ (r : Row). r.0) (cond b (row ∷ filter (λ (r : Row). test r.1) (rows ++ (n, l) ∷ [])) (filter (λ (r : Row). test r.1) (rows ++ (n, l) ∷ []))) ≡ map (λ (r : Row). r.0) (cond b (row ∷ filter (λ (r : Row). test r.1) rows) (filter (λ (r : Row). test r.1) rows)) ++ only_if (test l) n) [
      | true ↦ ap (λ ns. row.0 ∷ ns) (numbers-push test rows n l)
      | false ↦ numbers-push test rows n l
    ]

-- the one pushed last goes as it came, and is found till then
pub pushed_found : (rows : List Row) (n : ℕ) (l : DavLock) → IsAbove n (keys_of rows) → lock_of n (rows ++ (n, l) ∷ []) ≡ Some l
pushed_found [] n l above = ap (λ b. cond b (Some l) None) (finds_itself n)
pushed_found (row ∷ rows) n l above = ap (λ b. cond b (Some row.1) (lock_of n (rows ++ (n, l) ∷ []))) (not_at_less row.0 n above.0) ∙ pushed_found rows n l above.1

pub pushed_removed : (rows : List Row) (n : ℕ) (l : DavLock) → IsAbove n (keys_of rows) → remove_entry (is_at (nat_cmp n)) (rows ++ (n, l) ∷ []) ≡ rows
pushed_removed [] n l above = ap (λ b. cond b [] ((n, l) ∷ [])) (finds_itself n)
pushed_removed (row ∷ rows) n l above =
    ap (λ b. cond b (rows ++ (n, l) ∷ []) (row ∷ remove_entry (is_at (nat_cmp n)) (rows ++ (n, l) ∷ []))) (not_at_less row.0 n above.0)
    ∙ ap (λ more. row ∷ more) (pushed_removed rows n l above.1)

-- ---- what holds of the numbers

cons_numbers : (b : Bool) (row : Row) (rows : List Row) → map (λ (r : Row). r.0) (cond b (row ∷ rows) rows) ≡ cond b (row.0 ∷ map (λ (r : Row). r.0) rows) (map (λ (r : Row). r.0) rows)
cons_numbers true row rows = refl
cons_numbers false row rows = refl

pub all_numbers : (P : ℕ → Type 0) (test : DavLock → Bool) (rows : List Row) → AllByRecursion P (keys_of rows) → AllByRecursion P (numbers_of test rows)
all_numbers P test [] a = tt
all_numbers P test (row ∷ rows) a =
    elim (test row.1) as (λ b. AllByRecursion P (map (λ (r : Row). r.0) (cond b (row ∷ filter (λ (r : Row). test r.1) rows) (filter (λ (r : Row). test r.1) rows)))) [
      | true ↦ (a.0, all_numbers P test rows a.1)
      | false ↦ all_numbers P test rows a.1
    ]

-- what holds of all numbers holds of one that has a lock
pub held_number : (P : ℕ → Type 0) (rows : List Row) (n : ℕ) (l : DavLock) → AllByRecursion P (keys_of rows) → lock_of n rows ≡ Some l → P n
held_number P [] n l a is = absurd cc
held_number P (row ∷ rows) n l a is =
    elim (is_eq (nat_cmp n row.0)) as (λ b. is_eq (nat_cmp n row.0) ≡ b → cond b (Some row.1) (lock_of n rows) ≡ Some l → P n) [
      | true ↦ λ at is. subst P (sym (at_number n row.0 at)) a.0
      | false ↦ λ at is. held_number P rows n l a.1 is
    ] refl is

-- ---- one less

without_cons : (x n : ℕ) (xs : List ℕ) → x < n → without n (x ∷ xs) ≡ x ∷ without n xs
without_cons x n xs h = ap (λ b. cond (not b) (x ∷ without n xs) (without n xs)) (not_same x n h)

behind : (b c : Bool) (n m : ℕ) (xs ys : List ℕ) → n < m → ys ≡ without_if c m xs → cond b (n ∷ ys) ys ≡ without_if c m (cond b (n ∷ xs) xs)
behind true true n m xs ys h is = ap (λ zs. n ∷ zs) is ∙ sym (without_cons n m xs h)
behind true false n m xs ys h is = ap (λ zs. n ∷ zs) is
behind false c n m xs ys h is = is

pub numbers-remove : (test : DavLock → Bool) (rows : List Row) (n : ℕ) (l : DavLock) → Rises (keys_of rows) → lock_of n rows ≡ Some l → numbers_of test (remove_entry (is_at (nat_cmp n)) rows) ≡ without_if (test l) n (numbers_of test rows)
numbers-remove test [] n l h is = absurd cc
numbers-remove test (row ∷ rows) n l h is =
    elim (is_eq (nat_cmp n row.0)) as (λ b. is_eq (nat_cmp n row.0) ≡ b → cond b (Some row.1) (lock_of n rows) ≡ Some l → numbers_of test (cond b rows (row ∷ remove_entry (is_at (nat_cmp n)) rows)) ≡ without_if (test l) n (numbers_of test (row ∷ rows))) [
      | true ↦ λ at is. first (test row.1) ∙ ap₂ (λ k m. without_if (test k) m (numbers_of test (row ∷ rows))) (let one : row.1 ≡ l = cc in one) (sym (at_number n row.0 at))
      | false ↦ λ at is.
          cons_numbers (test row.1) row (filter (λ (r : Row). test r.1) (remove_entry (is_at (nat_cmp n)) rows))
          ∙ behind (test row.1) (test l) row.0 n (numbers_of test rows) _ (held_number (λ m. row.0 < m) rows n l (rises-head row.0 (keys_of rows) h) is) (numbers-remove test rows n l (rises-tail row.0 (keys_of rows) h) is)
          ∙ ap (without_if (test l) n) (sym (cons_numbers (test row.1) row (filter (λ (r : Row). test r.1) rows)))
    ] refl is
  where
    rest : List ℕ
    rest = numbers_of test rows

    gone : without row.0 rest ≡ rest
    gone = without_above row.0 rest (all_numbers (λ y. row.0 < y) test rows (rises-head row.0 (keys_of rows) h))

    first : (b : Bool) → rest ≡ without_if b row.0 (map (λ (r : Row). r.0) (cond b (row ∷ filter (λ (r : Row). test r.1) rows) (filter (λ (r : Row). test r.1) rows)))
    first true = sym (ap (λ b. cond (not b) (row.0 ∷ without row.0 rest) (without row.0 rest)) (same row.0) ∙ gone)
    first false = refl

-- ---- a token's number

pub number_kept : (test : DavLock → Bool) (rows : List Row) (n : ℕ) (l : DavLock) → lock_of n rows ≡ Some l → test l ≡ true → list_any (λ m. m == n) (numbers_of test rows) ≡ true
number_kept test [] n l is passes = absurd cc
number_kept test (row ∷ rows) n l is passes =
    ap (list_any (λ m. m == n)) (cons_numbers (test row.1) row (filter (λ (r : Row). test r.1) rows))
    ∙ elim (is_eq (nat_cmp n row.0)) as (λ b. is_eq (nat_cmp n row.0) ≡ b → cond b (Some row.1) (lock_of n rows) ≡ Some l → list_any (λ m. m == n) (cond (test row.1) (row.0 ∷ numbers_of test rows) (numbers_of test rows)) ≡ true) [
      | true ↦ λ at is.
          ap (λ b. list_any (λ m. m == n) (cond b (row.0 ∷ numbers_of test rows) (numbers_of test rows))) (ap test (let one : row.1 ≡ l = cc in one) ∙ passes)
          ∙ ap (λ b. b || list_any (λ m. m == n) (numbers_of test rows)) (ap (λ m. m == n) (sym (at_number n row.0 at)) ∙ same n)
      | false ↦ λ at is. later (test row.1) (number_kept test rows n l is passes)
    ] refl is
  where
    or_true : (b : Bool) → (b || true) ≡ true
    or_true true = refl
    or_true false = refl

    later : (b : Bool) → list_any (λ m. m == n) (numbers_of test rows) ≡ true → list_any (λ m. m == n) (cond b (row.0 ∷ numbers_of test rows) (numbers_of test rows)) ≡ true
    later true h = ap (λ b. (row.0 == n) || b) h ∙ or_true (row.0 == n)
    later false h = h

-- where there is at most one number, and it is this, none is left without it
pub only_number : (n : ℕ) (o : Option ℕ) → list_any (λ m. m == n) (option_to_list o) ≡ true → without n (option_to_list o) ≡ []
only_number n None e = refl
only_number n (Some m) e = elim (m == n) as (λ b. (b || false) ≡ true → cond (not b) (m ∷ []) [] ≡ []) [ true ↦ λ e. refl | false ↦ λ e. absurd cc ] e

-- ---- the locks of numbers

all_rows : (P : ℕ → Type 0) (rows : List Row) → AllByRecursion P (keys_of rows) → AllByRecursion (λ (r : Row). P r.0) rows
all_rows P [] a = tt
all_rows P (row ∷ rows) a = (a.0, all_rows P rows a.1)

all_both : {P Q R : Row → Type 0} → ((r : Row) → P r → Q r → R r) → (rows : List Row) → AllByRecursion P rows → AllByRecursion Q rows → AllByRecursion R rows
all_both h [] p q = tt
all_both h (r ∷ rows) p q = (h r p.0 q.0, all_both h rows p.1 q.1)

-- each number finds its lock
pub each_found : (rows : List Row) → Rises (keys_of rows) → AllByRecursion (λ (r : Row). lock_of r.0 rows ≡ Some r.1) rows
each_found [] h = tt
each_found (row ∷ rows) h = (
  ap (λ b. cond b (Some row.1) (lock_of row.0 rows)) (finds_itself row.0),
  all_both (λ r above is. ap (λ b. cond b (Some row.1) (lock_of r.0 rows)) (not_at_less row.0 r.0 above) ∙ is) rows (all_rows (λ y. row.0 < y) rows (rises-head row.0 (keys_of rows) h)) (each_found rows (rises-tail row.0 (keys_of rows) h)),
)

picked : (find : ℕ → Option DavLock) (test : DavLock → Bool) (rows : List Row) → AllByRecursion (λ (r : Row). find r.0 ≡ Some r.1) rows → filter_map find (numbers_of test rows) ≡ filter test (values_of rows)
picked find test [] a = refl
picked find test (row ∷ rows) a =
    elim (test row.1) as (λ b. filter_map find (map (λ (r : Row). r.0) (cond b (row ∷ filter (λ (r : Row). test r.1) rows) (filter (λ (r : Row). test r.1) rows))) ≡ cond b (row.1 ∷ filter test (values_of rows)) (filter test (values_of rows))) [
      | true ↦ ap (λ o. cons_option o (filter_map find (numbers_of test rows))) a.0 ∙ ap (λ more. row.1 ∷ more) (picked find test rows a.1)
      | false ↦ picked find test rows a.1
    ]

-- the numbers of the locks that pass a test find these locks
pub locks_found : (test : DavLock → Bool) (rows : List Row) → Rises (keys_of rows) → locks_of_numbers (numbers_of test rows) rows ≡ filter test (values_of rows)
locks_found test rows h = picked (λ n. lock_of n rows) test rows (each_found rows h)

held_by : (find : ℕ → Option DavLock) (test : DavLock → Bool) (rows : List Row) → AllByRecursion (λ (r : Row). find r.0 ≡ Some r.1) rows → AllByRecursion (λ n. IsSomeAnd (find n) (λ l. test l ≡ true)) (numbers_of test rows)
held_by find test [] a = tt
held_by find test (row ∷ rows) a =
    elim (test row.1) as (λ b. test row.1 ≡ b → AllByRecursion (λ n. IsSomeAnd (find n) (λ l. test l ≡ true)) (map (λ (r : Row). r.0) (cond b (row ∷ filter (λ (r : Row). test r.1) rows) (filter (λ (r : Row). test r.1) rows)))) [
      | true ↦ λ passes. (subst (λ o. IsSomeAnd o (λ l. test l ≡ true)) (sym a.0) passes, held_by find test rows a.1)
      | false ↦ λ fails. held_by find test rows a.1
    ] refl

-- the lock of each of these numbers passes
pub all_held : (test : DavLock → Bool) (rows : List Row) → Rises (keys_of rows) → AllByRecursion (λ n. IsSomeAnd (lock_of n rows) (λ l. test l ≡ true)) (numbers_of test rows)
all_held test rows h = held_by (λ n. lock_of n rows) test rows (each_found rows h)

-- ---- whether a lock passes, by the numbers

abbrev has_any : List ℕ → Bool
has_any [] = false
has_any (n ∷ ns) = true

any-numbers : (test : DavLock → Bool) (rows : List Row) → list_any test (values_of rows) ≡ has_any (numbers_of test rows)
any-numbers test [] = refl
any-numbers test (row ∷ rows) =
    elim (test row.1) as (λ b. (b || list_any test (values_of rows)) ≡ has_any (map (λ (r : Row). r.0) (cond b (row ∷ filter (λ (r : Row). test r.1) rows) (filter (λ (r : Row). test r.1) rows)))) [
      | true ↦ refl
      | false ↦ any-numbers test rows
    ]

pub some_number : (test : DavLock → Bool) (rows : List Row) (o : Option ℕ) → option_to_list o ≡ numbers_of test rows → is_some o ≡ list_any test (values_of rows)
some_number test rows o is = found o ∙ ap has_any is ∙ sym (any-numbers test rows)
  where
    found : (o : Option ℕ) → is_some o ≡ has_any (option_to_list o)
    found None = refl
    found (Some n) = refl

no_numbers : (ns : List ℕ) → has_any ns ≡ false → ns ≡ []
no_numbers [] e = refl
no_numbers (n ∷ ns) e = absurd cc

pub none_numbers : (test : DavLock → Bool) (rows : List Row) → list_any test (values_of rows) ≡ false → numbers_of test rows ≡ []
none_numbers test rows none = no_numbers (numbers_of test rows) (sym (any-numbers test rows) ∙ none)

-- ---- a lock that is refreshed

-- a test that reads nothing of what changed answers as before
pub numbers-set : (test : DavLock → Bool) (rows : List Row) (n : ℕ) (l new : DavLock) → lock_of n rows ≡ Some l → test new ≡ test l → numbers_of test (set_value (is_at (nat_cmp n)) rows new) ≡ numbers_of test rows
numbers-set test [] n l new is h = refl
numbers-set test (row ∷ rows) n l new is h =
    elim (is_eq (nat_cmp n row.0)) as (λ b. cond b (Some row.1) (lock_of n rows) ≡ Some l → numbers_of test (cond b ((row.0, new) ∷ rows) (row ∷ set_value (is_at (nat_cmp n)) rows new)) ≡ numbers_of test (row ∷ rows)) [
      | true ↦ λ is.
          cons_numbers (test new) (row.0, new) (filter (λ (r : Row). test r.1) rows)
          ∙ ap (λ b. cond b (row.0 ∷ numbers_of test rows) (numbers_of test rows)) (h ∙ ap test (let one : l ≡ row.1 = cc in one))
          ∙ sym (cons_numbers (test row.1) row (filter (λ (r : Row). test r.1) rows))
      | false ↦ λ is.
          cons_numbers (test row.1) row (filter (λ (r : Row). test r.1) (set_value (is_at (nat_cmp n)) rows new))
          ∙ ap (λ xs. cond (test row.1) (row.0 ∷ xs) xs) (numbers-set test rows n l new is h)
          ∙ sym (cons_numbers (test row.1) row (filter (λ (r : Row). test r.1) rows))
    ] is

-- none of greater numbers is this
pub refreshed_none : (n : ℕ) (timeout : Option ℕ) (now : ℕ) (rows : List Row) → AllByRecursion (λ m. n < m) (keys_of rows) → locks_refreshed n timeout now rows ≡ values_of rows
refreshed_none n timeout now [] a = refl
refreshed_none n timeout now (row ∷ rows) a = ap (λ b. cond b (refreshed timeout now row.1) row.1 ∷ locks_refreshed n timeout now rows) (not_same n row.0 a.0) ∙ ap (λ more. row.1 ∷ more) (refreshed_none n timeout now rows a.1)

-- where there is no lock of the number, none is refreshed
pub refreshed_absent : (n : ℕ) (timeout : Option ℕ) (now : ℕ) (rows : List Row) → lock_of n rows ≡ None → locks_refreshed n timeout now rows ≡ values_of rows
refreshed_absent n timeout now [] none = refl
refreshed_absent n timeout now (row ∷ rows) none =
    ap (λ b. cond b (refreshed timeout now row.1) row.1 ∷ locks_refreshed n timeout now rows) (sym (is_eq-same n row.0))
    ∙ elim (is_eq (nat_cmp n row.0)) as (λ b. cond b (Some row.1) (lock_of n rows) ≡ None → cond b (refreshed timeout now row.1) row.1 ∷ locks_refreshed n timeout now rows ≡ row.1 ∷ values_of rows) [
      | true ↦ λ e. absurd cc
      | false ↦ λ e. ap (λ more. row.1 ∷ more) (refreshed_absent n timeout now rows e)
    ] none

-- where there is one, it alone is
pub refreshed_value : (n : ℕ) (timeout : Option ℕ) (now : ℕ) (rows : List Row) (l : DavLock) → Rises (keys_of rows) → lock_of n rows ≡ Some l → values_of (set_value (is_at (nat_cmp n)) rows (refreshed timeout now l)) ≡ locks_refreshed n timeout now rows
refreshed_value n timeout now [] l h is = absurd cc
refreshed_value n timeout now (row ∷ rows) l h is =
    elim (is_eq (nat_cmp n row.0)) as (λ b. is_eq (nat_cmp n row.0) ≡ b → cond b (Some row.1) (lock_of n rows) ≡ Some l → values_of (cond b ((row.0, refreshed timeout now l) ∷ rows) (row ∷ set_value (is_at (nat_cmp n)) rows (refreshed timeout now l))) ≡ cond b (refreshed timeout now row.1) row.1 ∷ locks_refreshed n timeout now rows) [
      | true ↦ λ at is. ap₂ (λ k more. refreshed timeout now k ∷ more) (let one : l ≡ row.1 = cc in one) (sym (refreshed_none n timeout now rows (subst (λ m. AllByRecursion (λ k. m < k) (keys_of rows)) (sym (at_number n row.0 at)) (rises-head row.0 (keys_of rows) h))))
      | false ↦ λ at is. ap (λ more. row.1 ∷ more) (refreshed_value n timeout now rows l (rises-tail row.0 (keys_of rows) h) is)
    ] refl is
    ∙ ap (λ b. cond b (refreshed timeout now row.1) row.1 ∷ locks_refreshed n timeout now rows) (is_eq-same n row.0)
