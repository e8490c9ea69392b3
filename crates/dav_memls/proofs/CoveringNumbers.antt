-- The numbers of the locks that cover a key, found from the root on, in order.
use Rattle.std.proofs.Common.{◌≡◌, ◌∙◌, ◌==◌, ◌<◌, ℕ, zero, suc, Bool, true, false, cond, ◌&&◌, ◌||◌, List, [], ◌∷◌, map, refl, sym, ap, ap₂, subst, length, arith}
use Rattle.std.proofs.lemmas.Bool.Decides.{nat_tests}
use Rattle.std.specs.BTreeSet.{BTreeSet, contains, InsertsAll}
use Rattle.std.specs.List.{AllByRecursion, filter, list_any}
use Rattle.std.specs.Map.{keys_of, values_of}
use Rattle.std.specs.Ordering.{is_eq, nat_cmp}
use Rattle.dav_key.specs.Key.{Key, is_same_key}
use Rattle.dav_key.specs.Flat.{flat}
use Rattle.dav_store.specs.declared.lock.DavLock.{DavLock}
use Rattle.dav_store.specs.Locks.{is_at_or_below, covers, covering}
use Rattle.dav_memls.specs.declared.memory_locks.index.Register.TheVariants.{Deep}
use Rattle.dav_memls.specs.LockIndex.{Row, among, numbers_of, locks_of_numbers, is_of_key, HasNumbers, AddsNumbers}
use Rattle.dav_memls.proofs.Ascending.{Rises, rises-head, rises-tail, rises-cons, rises-none, same, not_same, is_eq-same, all_weaker}
use Rattle.dav_memls.specs.KeyText.{ends_at}
use Rattle.dav_memls.proofs.Reached.{reached-none, reached-more, reached-all}
use Rattle.dav_memls.proofs.LockRows.{all_numbers, locks_found}
use Rattle.dav_memls.proofs.LockFound.{is_reached, any-or}

-- ---- lists of numbers in order that have the same numbers

has_not : (n : ℕ) (xs : List ℕ) → AllByRecursion (λ x. n < x) xs → list_any (λ m. n == m) xs ≡ false
has_not n [] a = refl
has_not n (x ∷ xs) a = ap₂ (λ b c. b || c) (not_same n x a.0) (has_not n xs a.1)

has_first : (n : ℕ) (xs : List ℕ) → list_any (λ m. n == m) (n ∷ xs) ≡ true
has_first n xs = ap (λ b. b || list_any (λ m. n == m) xs) (same n)

above_both : (x y : ℕ) (ys : List ℕ) → x < y → Rises (y ∷ ys) → AllByRecursion (λ z. x < z) (y ∷ ys)
above_both x y ys h r = (h, all_weaker (λ z g. omega arith) ys (rises-head y ys r))

pub same_numbers : (xs ys : List ℕ) → Rises xs → Rises ys → ((n : ℕ) → list_any (λ m. n == m) xs ≡ list_any (λ m. n == m) ys) → xs ≡ ys
same_numbers [] [] r s h = refl
same_numbers [] (y ∷ ys) r s h = absurd (let no : false ≡ true = h y ∙ has_first y ys in cc)
same_numbers (x ∷ xs) [] r s h = absurd (let no : true ≡ false = sym (has_first x xs) ∙ h x in cc)
same_numbers (x ∷ xs) (y ∷ ys) r s h = ap₂ (λ n ns. n ∷ ns) first (same_numbers xs ys (rises-tail x xs r) (rises-tail y ys s) (λ n. behind n (n == x) refl))
  where
    not_less : x < y → ⊥
    not_less less = (let no : true ≡ false = sym (has_first x xs) ∙ h x ∙ has_not x (y ∷ ys) (above_both x y ys less s) in cc)

    not_more : y < x → ⊥
    not_more less = (let no : true ≡ false = sym (has_first y ys) ∙ sym (h y) ∙ has_not y (x ∷ xs) (above_both y x xs less r) in cc)

    first : x ≡ y
    first = omega (arith, not_less, not_more)

    behind : (n : ℕ) (b : Bool) → (n == x) ≡ b → list_any (λ m. n == m) xs ≡ list_any (λ m. n == m) ys
    behind n true e =
        let at : n ≡ x = grind (arith, nat_tests, e) in
        has_not n xs (subst (λ k. AllByRecursion (λ z. k < z) xs) (sym at) (rises-head x xs r))
        ∙ sym (has_not n ys (subst (λ k. AllByRecursion (λ z. k < z) ys) (sym (at ∙ first)) (rises-head y ys s)))
    behind n false e =
        ap (λ b. b || list_any (λ m. n == m) xs) (sym e)
        ∙ h n
        ∙ ap (λ k. (n == k) || list_any (λ m. n == m) ys) (sym first)
        ∙ ap (λ b. b || list_any (λ m. n == m) ys) e

-- ---- the numbers of locks

pub rises-numbers : (test : DavLock → Bool) (rows : List Row) → Rises (keys_of rows) → Rises (numbers_of test rows)
rises-numbers test [] r = rises-none
rises-numbers test (row ∷ rows) r =
    elim (test row.1) as (λ b. Rises (map (λ (k : Row). k.0) (cond b (row ∷ filter (λ (k : Row). test k.1) rows) (filter (λ (k : Row). test k.1) rows)))) [
      | true ↦ rises-cons row.0 (numbers_of test rows) (all_numbers (λ y. row.0 < y) test rows (rises-head row.0 (keys_of rows) r)) (rises-numbers test rows (rises-tail row.0 (keys_of rows) r))
      | false ↦ rises-numbers test rows (rises-tail row.0 (keys_of rows) r)
    ]

numbers_agree : (a b : DavLock → Bool) (rows : List Row) → AllByRecursion (λ (row : Row). a row.1 ≡ b row.1) rows → numbers_of a rows ≡ numbers_of b rows
numbers_agree a b [] h = refl
numbers_agree a b (row ∷ rows) h = ap (λ x. map (λ (r : Row). r.0) (cond x (row ∷ filter (λ (r : Row). a r.1) rows) (filter (λ (r : Row). a r.1) rows))) h.0 ∙ behind (b row.1) (numbers_agree a b rows h.1)
  where
    behind : (x : Bool) → numbers_of a rows ≡ numbers_of b rows → map (λ (r : Row). r.0) (cond x (row ∷ filter (λ (r : Row). a r.1) rows) (filter (λ (r : Row). a r.1) rows)) ≡ map (λ (r : Row). r.0) (cond x (row ∷ filter (λ (r : Row). b r.1) rows) (filter (λ (r : Row). b r.1) rows))
    behind true more = ap (λ xs. row.0 ∷ xs) more
    behind false more = more

each_row : {P : Row → Type 0} → ((row : Row) → P row) → (rows : List Row) → AllByRecursion P rows
each_row h [] = tt
each_row h (row ∷ rows) = (h row, each_row h rows)

-- ---- from the root on

-- the locks at the key, and those deep ones that were reached so far
abbrev pub reached_covers : ℕ → Key → DavLock → Bool
reached_covers d key l = is_of_key key l || (l.deep && is_reached d key l)

any_map : (q : ℕ → Bool) (rows : List Row) → list_any q (map (λ (r : Row). r.0) rows) ≡ list_any (λ (r : Row). q r.0) rows
any_map q [] = refl
any_map q (row ∷ rows) = ap (λ b. q row.0 || b) (any_map q rows)

any_numbers_or : (n : ℕ) (a b : DavLock → Bool) (rows : List Row) → list_any (λ m. n == m) (numbers_of (λ l. a l || b l) rows) ≡ (list_any (λ m. n == m) (numbers_of a rows) || list_any (λ m. n == m) (numbers_of b rows))
any_numbers_or n a b rows =
    any_map (λ m. n == m) (filter (λ (r : Row). a r.1 || b r.1) rows)
    ∙ any-or (λ (r : Row). n == r.0) (λ r. a r.1) (λ r. b r.1) rows
    ∙ sym (ap₂ (λ x y. x || y) (any_map (λ m. n == m) (filter (λ (r : Row). a r.1) rows)) (any_map (λ m. n == m) (filter (λ (r : Row). b r.1) rows)))

pub covers_own : (key : Key) (l : DavLock) → is_of_key key l ≡ reached_covers zero key l
covers_own key l = none (is_of_key key l) l.deep ∙ ap (λ b. is_of_key key l || (l.deep && b)) (sym (reached-none key l.path.key))
  where
    none : (own deep : Bool) → own ≡ (own || (deep && false))
    none true deep = refl
    none false true = refl
    none false false = refl

-- one key above has a text of this length
pub covers_more : (n : ℕ) (key before : Key) (l : DavLock) → ends_at key n l.path.key ≡ is_of_key before l → (reached_covers n key l || among Deep (is_of_key before) l) ≡ reached_covers (suc n) key l
covers_more n key before l only =
    moved (is_of_key key l) l.deep (is_reached n key l) (is_of_key before l)
    ∙ ap (λ b. is_of_key key l || (l.deep && (is_reached n key l || b))) (sym only)
    ∙ ap (λ b. is_of_key key l || (l.deep && b)) (sym (reached-more n key l.path.key))
  where
    moved : (own deep before here : Bool) → ((own || (deep && before)) || (deep && here)) ≡ (own || (deep && (before || here)))
    moved true deep before here = refl
    moved false true before here = refl
    moved false false before here = refl

-- no key above has
pub covers_same : (n : ℕ) (key : Key) (l : DavLock) → ends_at key n l.path.key ≡ false → reached_covers n key l ≡ reached_covers (suc n) key l
covers_same n key l none =
    ap (λ b. is_of_key key l || (l.deep && b)) (sym (or_false (is_reached n key l)) ∙ ap (λ b. is_reached n key l || b) (sym none) ∙ sym (reached-more n key l.path.key))
  where
    or_false : (b : Bool) → (b || false) ≡ b
    or_false true = refl
    or_false false = refl

pub covers_all : (key : Key) (l : DavLock) → reached_covers (length (flat key)) key l ≡ covers l key
covers_all key l = elim l.deep as (λ b. (is_of_key key l || (b && is_reached (length (flat key)) key l)) ≡ cond b (is_at_or_below key l.path.key) (is_same_key key l.path.key)) [
  | true ↦ above
  | false ↦ or_false (is_of_key key l)
]
  where
    turned : (a b : Bool) → (a || b) ≡ (b || a)
    turned true true = refl
    turned true false = refl
    turned false true = refl
    turned false false = refl

    or_false : (b : Bool) → (b || false) ≡ b
    or_false true = refl
    or_false false = refl

    above : (is_of_key key l || is_reached (length (flat key)) key l) ≡ is_at_or_below key l.path.key
    above = turned (is_of_key key l) (is_reached (length (flat key)) key l) ∙ reached-all key l.path.key

-- ---- their numbers

-- at first those at the key
pub covering_own : (key : Key) (rows : List Row) (found : BTreeSet ℕ) → HasNumbers found (numbers_of (is_of_key key) rows) → HasNumbers found (numbers_of (reached_covers zero key) rows)
covering_own key rows found h n = h n ∙ ap (list_any (λ m. n == m)) (numbers_agree (is_of_key key) (reached_covers zero key) rows (each_row (λ row. covers_own key row.1) rows))

-- then those above it, one after another
pub covering_more : (n : ℕ) (key before : Key) (rows : List Row) (old new : BTreeSet ℕ) → ((above : Key) → ends_at key n above ≡ is_same_key before above) → HasNumbers old (numbers_of (reached_covers n key) rows) → AddsNumbers (numbers_of (among Deep (is_of_key before)) rows) old new → HasNumbers new (numbers_of (reached_covers (suc n) key) rows)
covering_more n key before rows old new only was adds m =
    adds m
    ∙ ap (λ b. b || list_any (λ k. m == k) (numbers_of (among Deep (is_of_key before)) rows)) (was m)
    ∙ sym (any_numbers_or m (reached_covers n key) (among Deep (is_of_key before)) rows)
    ∙ ap (list_any (λ k. m == k)) (numbers_agree _ (reached_covers (suc n) key) rows (each_row (λ row. covers_more n key before row.1 (only row.1.path.key)) rows))

pub covering_same : (n : ℕ) (key : Key) (rows : List Row) (found : BTreeSet ℕ) → ((above : Key) → ends_at key n above ≡ false) → HasNumbers found (numbers_of (reached_covers n key) rows) → HasNumbers found (numbers_of (reached_covers (suc n) key) rows)
covering_same n key rows found none was m =
    was m ∙ ap (list_any (λ k. m == k)) (numbers_agree (reached_covers n key) (reached_covers (suc n) key) rows (each_row (λ row. covers_same n key row.1 (none row.1.path.key)) rows))

-- and at last all that cover it
pub covering_all_reached : (m : ℕ) (key : Key) (rows : List Row) (found : BTreeSet ℕ) → AllByRecursion (λ (row : Row). reached_covers m key row.1 ≡ covers row.1 key) rows → HasNumbers found (numbers_of (reached_covers m key) rows) → HasNumbers found (numbers_of (λ l. covers l key) rows)
covering_all_reached m key rows found all h n = h n ∙ ap (list_any (λ m. n == m)) (numbers_agree (reached_covers m key) (λ l. covers l key) rows all)

-- ---- the set

any_agree : (p q : ℕ → Bool) → ((n : ℕ) → p n ≡ q n) → (xs : List ℕ) → list_any p xs ≡ list_any q xs
any_agree p q h [] = refl
any_agree p q h (x ∷ xs) = ap₂ (λ a b. a || b) (h x) (any_agree p q h xs)

-- in order, its numbers are those of the locks that cover the key
pub covering_listed : (key : Key) (rows : List Row) (found : BTreeSet ℕ) → Rises (keys_of rows) → Rises found.keys → HasNumbers found (numbers_of (λ l. covers l key) rows) → locks_of_numbers found.keys rows ≡ covering (values_of rows) key
covering_listed key rows found r s h =
    ap (λ xs. locks_of_numbers xs rows) (same_numbers found.keys (numbers_of (λ l. covers l key) rows) s (rises-numbers _ rows r) (λ n. sym (any_agree _ (λ m. n == m) (λ k. is_eq-same n k) found.keys) ∙ h n))
    ∙ locks_found (λ l. covers l key) rows r

-- ---- one list of numbers more

pub adds_all : (old new : BTreeSet ℕ) (xs : List ℕ) → InsertsAll nat_cmp old xs new → AddsNumbers xs old new
adds_all old new xs inserts n = inserts.0 n ∙ ap (λ b. contains nat_cmp old n || b) (any_agree _ (λ m. n == m) (λ m. is_eq-same n m) xs)

-- to none at all
pub adds_first : (xs ys : List ℕ) (old new : BTreeSet ℕ) → old.keys ≡ [] → ys ≡ xs → AddsNumbers ys old new → HasNumbers new xs
adds_first xs ys old new none same adds n = adds n ∙ ap₂ (λ ks zs. list_any (λ k. is_eq (nat_cmp n k)) ks || list_any (λ m. n == m) zs) none same
