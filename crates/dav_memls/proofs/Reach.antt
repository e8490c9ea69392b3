-- How far a look above a path goes: no lock's own key has a longer text.
use Rattle.std.proofs.Common.{◌≡◌, ◌∙◌, ◌⊎◌, inl, inr, ⊎_elim, ◌<◌, ◌≤◌, ◌&&◌, ◌||◌, ℕ, Bool, true, false, cond, List, [], ◌∷◌, ◌++◌, Some, length, min, nat_cmp, nat_lt, refl, sym, ap, subst, arith}
use Rattle.std.proofs.lemmas.Bool.{and_from, and_parts, cases_lt}
use Rattle.std.proofs.lemmas.Bool.Decides.{nat_tests}
use Rattle.std.specs.BTreeMap.{is_at}
use Rattle.std.specs.List.{AllByRecursion}
use Rattle.std.specs.Map.{remove_entry, set_value, values_of}
use Rattle.std.specs.Ordering.{is_eq}
use Rattle.dav_key.specs.Key.{Key, is_same_key, same_key_decides}
use Rattle.dav_key.specs.Flat.{flat}
use Rattle.dav_store.specs.declared.lock.DavLock.{DavLock}
use Rattle.dav_store.specs.Locks.{is_at_or_below, covers}
use Rattle.dav_memls.specs.LockIndex.{Row, are_within, is_of_key, lock_of}
use Rattle.dav_memls.proofs.CoveringNumbers.{reached_covers, covers_all}
use Rattle.dav_memls.proofs.LockFound.{is_reached}
use Rattle.dav_memls.proofs.Reached.{at_itself, is_lower, reached-short}

-- ---- what a change of the locks leaves

lower : (x a b : ℕ) → a ≤ b → nat_lt x a ≡ true → nat_lt x b ≡ true
lower x a b le e = grind (arith, nat_tests, e)

reads_lower : (x a : ℕ) → nat_lt x a ≡ true → x < a
reads_lower x a e = grind (arith, nat_tests, e)

pub within_more : (old new : ℕ) (rows : List Row) → old ≤ new → are_within old rows ≡ true → are_within new rows ≡ true
within_more old new [] le e = refl
within_more old new (row ∷ rows) le e =
    let both = and_parts (nat_lt (length (flat row.1.path.key)) old) (are_within old rows) e in
    and_from _ _ (lower (length (flat row.1.path.key)) old new le both.0) (within_more old new rows le both.1)

pub within_push : (reach : ℕ) (rows : List Row) (n : ℕ) (l : DavLock) → length (flat l.path.key) < reach → are_within reach rows ≡ true → are_within reach (rows ++ (n, l) ∷ []) ≡ true
within_push reach [] n l lt e = and_from _ _ (is_lower (length (flat l.path.key)) reach lt) refl
within_push reach (row ∷ rows) n l lt e =
    let both = and_parts (nat_lt (length (flat row.1.path.key)) reach) (are_within reach rows) e in
    and_from _ _ both.0 (within_push reach rows n l lt both.1)

pub within_removed : (reach : ℕ) (rows : List Row) (n : ℕ) → are_within reach rows ≡ true → are_within reach (remove_entry (is_at (nat_cmp n)) rows) ≡ true
within_removed reach [] n e = refl
within_removed reach (row ∷ rows) n e =
    let both = and_parts (nat_lt (length (flat row.1.path.key)) reach) (are_within reach rows) e in
    elim (is_eq (nat_cmp n row.0)) as (λ b. are_within reach (cond b rows (row ∷ remove_entry (is_at (nat_cmp n)) rows)) ≡ true) [
      | true ↦ both.1
      | false ↦ and_from _ _ both.0 (within_removed reach rows n both.1)
    ]

pub within_set : (reach : ℕ) (rows : List Row) (n : ℕ) (l new : DavLock) → lock_of n rows ≡ Some l → new.path.key ≡ l.path.key → are_within reach rows ≡ true → are_within reach (set_value (is_at (nat_cmp n)) rows new) ≡ true
within_set reach [] n l new is same e = refl
within_set reach (row ∷ rows) n l new is same e =
    let both = and_parts (nat_lt (length (flat row.1.path.key)) reach) (are_within reach rows) e in
    elim (is_eq (nat_cmp n row.0)) as (λ b. cond b (Some row.1) (lock_of n rows) ≡ Some l → are_within reach (cond b ((row.0, new) ∷ rows) (row ∷ set_value (is_at (nat_cmp n)) rows new)) ≡ true) [
      | true ↦ λ is. (let one : row.1 ≡ l = cc in and_from _ _ (ap (λ k. nat_lt (length (flat k)) reach) (same ∙ ap (λ (x : DavLock). x.path.key) (sym one)) ∙ both.0) both.1)
      | false ↦ λ is. and_from _ _ both.0 (within_set reach rows n l new is same both.1)
    ] is

-- ---- what a look that goes so far has reached

covers_short : (m : ℕ) (key : Key) (l : DavLock) → length (flat l.path.key) < m → reached_covers m key l ≡ covers l key
covers_short m key l lt = elim l.deep as (λ b. (is_of_key key l || (b && is_reached m key l)) ≡ cond b (is_at_or_below key l.path.key) (is_same_key key l.path.key)) [
  | true ↦ ap (λ c. is_of_key key l || c) (reached-short m key l.path.key lt) ∙ own_above (is_of_key key l) (is_at_or_below key l.path.key) (λ e. ap (is_at_or_below key) (sym ((same_key_decides key l.path.key).0 e)) ∙ at_itself key)
  | false ↦ or_false (is_of_key key l)
]
  where
    own_above : (own above : Bool) → (own ≡ true → above ≡ true) → (own || above) ≡ above
    own_above true above h = sym (h refl)
    own_above false above h = refl

    or_false : (b : Bool) → (b || false) ≡ b
    or_false true = refl
    or_false false = refl

min_is : (a b : ℕ) → (min a b ≡ a) ⊎ (min a b ≡ b)
min_is a b = ⊎_elim (λ lt. inl (omega arith)) (λ ge. inr (omega arith)) (cases_lt a b)

-- all that cover the key
pub looked_covers : (m reach : ℕ) (key : Key) (l : DavLock) → m ≡ min (length (flat key)) reach → nat_lt (length (flat l.path.key)) reach ≡ true → reached_covers m key l ≡ covers l key
looked_covers m reach key l is e =
    ⊎_elim
    (λ all. ap (λ d. reached_covers d key l) (is ∙ all) ∙ covers_all key l)
    (λ short. covers_short m key l (subst (λ d. length (flat l.path.key) < d) (sym (is ∙ short)) (reads_lower (length (flat l.path.key)) reach e)))
    (min_is (length (flat key)) reach)

pub rows_within : (m reach : ℕ) (key : Key) (rows : List Row) → m ≡ min (length (flat key)) reach → are_within reach rows ≡ true → AllByRecursion (λ (row : Row). reached_covers m key row.1 ≡ covers row.1 key) rows
rows_within m reach key [] is e = tt
rows_within m reach key (row ∷ rows) is e =
    let both = and_parts (nat_lt (length (flat row.1.path.key)) reach) (are_within reach rows) e in
    (looked_covers m reach key row.1 is both.0, rows_within m reach key rows is both.1)

-- the locks of rows
pub values_within : (m reach : ℕ) (key : Key) (rows : List Row) → m ≡ min (length (flat key)) reach → are_within reach rows ≡ true → AllByRecursion (λ (l : DavLock). reached_covers m key l ≡ covers l key) (values_of rows)
values_within m reach key [] is e = tt
values_within m reach key (row ∷ rows) is e =
    let both = and_parts (nat_lt (length (flat row.1.path.key)) reach) (are_within reach rows) e in
    (looked_covers m reach key row.1 is both.0, values_within m reach key rows is both.1)
