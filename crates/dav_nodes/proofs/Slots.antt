-- Lists of rows and of slots, step by step.
use Rattle.std.proofs.Common.{◌≡◌, ◌≢◌, inl, inr, ℕ, zero, suc, ◌+◌, ◌<◌, ◌≤◌, ◌==◌, arith, Result, Ok, Err, true, false, cond, List, [], ◌∷◌, ◌++◌, map, length, take, drop, get_or, count_by, Option, Some, None, is_some, IsSome, refl, sym, ap, subst, ◌∙◌}
use Rattle.std.specs.Prelude.{IfErr}
use Rattle.std.specs.Result.{IsErrAnd}
use Rattle.std.proofs.lemmas.Bool.Decides.{nat_tests}
use Rattle.std.specs.List.{slice_index_or}
use Rattle.std.proofs.lemmas.Map.Keys.{below_from_sorted}
use Rattle.std.proofs.lemmas.List.{take_more, take_all, length-map, get_or-map, length-append}
use Rattle.std.proofs.lemmas.List.Sums.{sum_by-cons, count_by-le-length}
use Rattle.dav_nodes.specs.TreeRows.{AreAscending}
use Rattle.dav_nodes.specs.Loading.{HasNumber}
use Rattle.dav_nodes.specs.declared.nodes.loading.NumberedValue.{NumberedValue}
use Rattle.dav_nodes.specs.declared.nodes.loading.RowsError.{RowsError}
use Rattle.dav_nodes.specs.declared.nodes.loading.RowsError.TheVariants.{Memory, NotATree}
use Rattle.dav_nodes.proofs.Pending.{has_cases}

pub none_from : {X : Type 0} (o : Option X) → is_some o ≡ false → o ≡ None
none_from None is = refl
none_from (Some x) is = absurd cc

pub nil_from : {X : Type 0} (xs : List X) → length xs ≡ 0 → xs ≡ []
nil_from [] is = refl
nil_from (x ∷ xs) is = absurd (omega (arith, is))

pub memory_from : (e : RowsError) → e ≢ NotATree → e ≡ Memory
memory_from NotATree other = absurd (other refl)
memory_from Memory other = refl

-- the greatest number of one row more
pub max_more : {R : Type 0} (rows : List (NumberedValue R)) (i : ℕ) (row : NumberedValue R) (old new : ℕ) → i < length rows → row ≡ get_or rows i row
    → ((n : ℕ) → HasNumber n (take i rows) → n ≤ old) → old ≤ new → row.number ≤ new → (n : ℕ) → HasNumber n (take (i + 1) rows) → n ≤ new
max_more {R} rows i row old new within is below up own n has =
    elim (has_cases n (take i rows) (get_or rows i row ∷ []) (subst (HasNumber n) (take_more rows i row within) has)) [
      | inl before ↦ omega (arith, below n before)
      | inr last ↦ elim last [ inl same ↦ omega (arith, ap (λ (r : NumberedValue R). r.number) is ∙ same) | inr none ↦ absurd none ]
    ]

pub max_all : {R : Type 0} (rows : List (NumberedValue R)) (i max : ℕ) → length rows ≤ i → ((n : ℕ) → HasNumber n (take i rows) → n ≤ max) → (n : ℕ) → HasNumber n rows → n ≤ max
max_all rows i max past below n has = below n (subst (HasNumber n) (sym (take_all i rows past)) has)

-- where there are as many values as slots, each slot has one
pub all_full : {T : Type 0} (slots : List (Option T)) → length slots ≤ count_by is_some slots → (n : ℕ) → n < length slots → IsSome (slice_index_or slots n None)
all_full [] full n within = absurd (omega arith)
all_full (None ∷ slots) full n within = absurd (omega (arith, sum_by-cons (λ o. cond (is_some o) 1 0) None slots, count_by-le-length is_some slots))
all_full (Some x ∷ slots) full zero within = refl
all_full (Some x ∷ slots) full (suc n) within = all_full slots (omega (arith, sum_by-cons (λ o. cond (is_some o) 1 0) (Some x) slots)) n (omega arith)

-- past the slots there is nothing
pub past_slots : {T : Type 0} (slots : List (Option T)) (n : ℕ) → length slots ≤ n → slice_index_or slots n None ≡ None
past_slots [] n past = refl
past_slots (slot ∷ slots) zero past = absurd (omega arith)
past_slots (slot ∷ slots) (suc n) past = past_slots slots n (omega arith)

pub zero_from : (n : ℕ) → true ≡ (n == 0) → n ≡ 0
zero_from zero is = refl
zero_from (suc n) is = absurd (let no : (suc n == 0) ≡ false = grind (arith, nat_tests) in let both : true ≡ false = is ∙ no in cc)

pub positive_from : (n : ℕ) → false ≡ (n == 0) → 0 < n
positive_from zero is = absurd (let no : (0 == 0) ≡ true = refl in let both : true ≡ false = sym no ∙ sym is in cc)
positive_from (suc n) is = omega arith

-- an error that satisfies a condition
pub err_from : {T E : Type 0} (r : Result T E) (P Q : E → Type 0) → IsErrAnd r P → ((e : E) → P e → Q e) → IfErr r Q
err_from (Ok x) P Q is through = tt
err_from (Err e) P Q is through = through e is

-- numbers in ascending order
pub numbers_at : {R : Type 0} (rows : List (NumberedValue R)) (i j : ℕ) (x y : NumberedValue R) → AreAscending rows → i < j → j < length rows → (get_or rows i x).number < (get_or rows j y).number
numbers_at {R} rows i j x y up before within =
    let f = λ (e : NumberedValue R). e.number in
    omega (arith, below_from_sorted (map f rows) i j 0 up before (omega (arith, length-map rows f, within)), get_or-map f rows i x 0 (omega arith), get_or-map f rows j y 0 within)

-- a first element and the rest
pub first_rest : {X : Type 0} (xs : List X) (x : X) (ys : List X) → 0 < length xs → x ≡ get_or xs 0 x → ys ≡ drop 1 xs → x ∷ ys ≡ xs
first_rest [] x ys some is rest = absurd (omega arith)
first_rest (z ∷ zs) x ys some is rest = λ i. is i ∷ rest i

pub length_more : {X : Type 0} (xs ys : List X) (x : X) → ys ≡ xs ++ x ∷ [] → length ys ≡ length xs + 1
length_more xs ys x is = ap length is ∙ length-append xs (x ∷ [])
