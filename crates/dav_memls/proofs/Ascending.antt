-- Ascending numbers: one more at the end, and the numbers without one.
use Rattle.std.proofs.Common.{◌≡◌, ◌∙◌, ◌==◌, ◌<◌, ℕ, true, false, cond, not, List, [], ◌∷◌, ◌++◌, refl, sym, ap, arith}
use Rattle.std.proofs.lemmas.Bool.Decides.{nat_tests}
use Rattle.std.specs.BTreeMap.{is_at}
use Rattle.std.specs.BTreeSet.{insert_key}
use Rattle.std.specs.declared.cmp.Ordering.TheVariants.{Less, Greater}
use Rattle.std.specs.List.{AllByRecursion}
use Rattle.std.specs.List.Sorted.{IsStrictlySortedBy}
use Rattle.std.specs.Ordering.{is_eq, match_ordering, nat_cmp}
use Rattle.std.specs.Set.{remove_key}
use Rattle.dav_memls.specs.Numbers.{IsAbove, without}

abbrev pub Rises : List ℕ → Type 0
Rises xs = IsStrictlySortedBy nat_cmp xs

pub less : (x y : ℕ) → x < y → nat_cmp x y ≡ Less
less x y h = grind (arith, nat_tests)

pub from_less : (x y : ℕ) → nat_cmp x y ≡ Less → x < y
from_less x y h = grind (arith, nat_tests)

pub not_same : (x y : ℕ) → x < y → (x == y) ≡ false
not_same x y h = grind (arith, nat_tests)

pub not_same_above : (x y : ℕ) → x < y → (y == x) ≡ false
not_same_above x y h = grind (arith, nat_tests)

pub same : (x : ℕ) → (x == x) ≡ true
same x = grind (arith, nat_tests)

pub greater : (x y : ℕ) → x < y → nat_cmp y x ≡ Greater
greater x y h = grind (arith, nat_tests)

-- whether a number is found at another, as a map does by its keys
pub is_eq-same : (n k : ℕ) → is_eq (nat_cmp n k) ≡ (n == k)
is_eq-same n k = grind (arith, nat_tests)

pub same_turned : (n k : ℕ) → is_eq (nat_cmp n k) ≡ (k == n)
same_turned n k = grind (arith, nat_tests)

pub at_number : (n k : ℕ) → is_eq (nat_cmp n k) ≡ true → n ≡ k
at_number n k at = let is : (n == k) ≡ true = sym (is_eq-same n k) ∙ at in grind (arith, nat_tests)

pub finds_itself : (n : ℕ) → is_eq (nat_cmp n n) ≡ true
finds_itself n = is_eq-same n n ∙ same n

pub not_at_less : (x y : ℕ) → x < y → is_eq (nat_cmp y x) ≡ false
not_at_less x y h = is_eq-same y x ∙ not_same_above x y h

pub all_weaker : {X : Type 0} {P Q : X → Type 0} → ((x : X) → P x → Q x) → (xs : List X) → AllByRecursion P xs → AllByRecursion Q xs
all_weaker h [] a = tt
all_weaker h (x ∷ xs) a = (h x a.0, all_weaker h xs a.1)

pub rises-head : (x : ℕ) (xs : List ℕ) → Rises (x ∷ xs) → AllByRecursion (λ y. x < y) xs
unfolding IsStrictlySortedBy
rises-head x xs h = all_weaker (λ y e. from_less x y e) xs h.0

pub rises-tail : (x : ℕ) (xs : List ℕ) → Rises (x ∷ xs) → Rises xs
unfolding IsStrictlySortedBy
rises-tail x xs h = h.1

pub rises-cons : (x : ℕ) (xs : List ℕ) → AllByRecursion (λ y. x < y) xs → Rises xs → Rises (x ∷ xs)
unfolding IsStrictlySortedBy
rises-cons x xs a h = (all_weaker (λ y e. less x y e) xs a, h)

pub rises-none : Rises []
unfolding IsStrictlySortedBy
rises-none = tt

-- ---- one more

all_push : (P : ℕ → Type 0) (n : ℕ) (xs : List ℕ) → AllByRecursion P xs → P n → AllByRecursion P (xs ++ n ∷ [])
all_push P n [] a h = (h, tt)
all_push P n (x ∷ xs) a h = (a.0, all_push P n xs a.1 h)

pub rises-push : (n : ℕ) (xs : List ℕ) → Rises xs → IsAbove n xs → Rises (xs ++ n ∷ [])
unfolding IsStrictlySortedBy
rises-push n [] h a = (tt, tt)
rises-push n (x ∷ xs) h a = (all_push (λ y. nat_cmp x y ≡ Less) n xs h.0 (less x n a.0), rises-push n xs h.1 a.1)

-- as a set does it
pub insert_last : (n : ℕ) (xs : List ℕ) → IsAbove n xs → insert_key nat_cmp xs n ≡ xs ++ n ∷ []
insert_last n [] a = refl
insert_last n (x ∷ xs) a = ap (λ o. match_ordering o (n ∷ x ∷ xs) (x ∷ xs) (x ∷ insert_key nat_cmp xs n)) (greater x n a.0) ∙ ap (λ ys. x ∷ ys) (insert_last n xs a.1)

-- ---- without a number

pub without_absent : (x : ℕ) (xs : List ℕ) → AllByRecursion (λ y. (y == x) ≡ false) xs → without x xs ≡ xs
without_absent x [] a = refl
without_absent x (y ∷ ys) a = ap (λ b. cond (not b) (y ∷ without x ys) (without x ys)) a.0 ∙ ap (λ zs. y ∷ zs) (without_absent x ys a.1)

pub without_above : (x : ℕ) (xs : List ℕ) → AllByRecursion (λ y. x < y) xs → without x xs ≡ xs
without_above x xs a = without_absent x xs (all_weaker (λ y h. not_same_above x y h) xs a)

-- taken out of numbers in order, it is among them no more
pub remove_is : (n : ℕ) (xs : List ℕ) → Rises xs → remove_key (is_at (nat_cmp n)) xs ≡ without n xs
remove_is n [] r = refl
remove_is n (x ∷ xs) r =
    ap (λ b. cond b xs (x ∷ remove_key (is_at (nat_cmp n)) xs)) (same_turned n x)
    ∙ elim (x == n) as (λ b. (x == n) ≡ b → cond b xs (x ∷ remove_key (is_at (nat_cmp n)) xs) ≡ cond (not b) (x ∷ without n xs) (without n xs)) [
      | true ↦ λ e. (let at : x ≡ n = grind (arith, nat_tests, e) in sym (ap (λ k. without k xs) (sym at) ∙ without_above x xs (rises-head x xs r)))
      | false ↦ λ e. ap (λ ys. x ∷ ys) (remove_is n xs (rises-tail x xs r))
    ] refl

-- the number pushed last goes as it came
pub without_push : (n : ℕ) (xs : List ℕ) → IsAbove n xs → without n (xs ++ n ∷ []) ≡ xs
without_push n [] a = ap (λ b. cond (not b) (n ∷ []) []) (same n)
without_push n (x ∷ xs) a =
    ap (λ b. cond (not b) (x ∷ without n (xs ++ n ∷ [])) (without n (xs ++ n ∷ []))) (not_same x n a.0)
    ∙ ap (λ zs. x ∷ zs) (without_push n xs a.1)

-- nor does it stand among those that it is above
pub without_below : (n : ℕ) (xs : List ℕ) → IsAbove n xs → without n xs ≡ xs
without_below n xs a = without_absent n xs (all_weaker (λ x h. not_same x n h) xs a)
