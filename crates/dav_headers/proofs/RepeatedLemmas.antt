-- Reading one thing after the other.
use Rattle.std.proofs.Common.{◌≡◌, ◌∙◌, ◌<◌, ◌≤◌, ℕ, zero, suc, List, [], ◌∷◌, ◌++◌, length, Option, Some, None, option_map, option_and_then, refl, ap, sym, subst, arith, append_assoc}
use Rattle.std.proofs.lemmas.List.{append-nil}
use Rattle.dav_headers.proofs.OptionLemmas.{option_map-some, option_and_then-some}
use Rattle.dav_headers.specs.Repeated.{Reader, all_within, all_of}

-- each thing takes at least one element
pub record IsShortening {A B : Type 0} (first : Reader A B) : Type 0 where
  pub shorter : (xs : List A) (found : B × List A) → first xs ≡ Some found → length found.1 < length xs

module _ {A B : Type 0} (first : Reader A B) where
  all_within-nil : (n : ℕ) → all_within first n [] ≡ Some []
  unfolding all_within
  all_within-nil zero = refl
  all_within-nil (suc n) = refl

  -- what is read first, and then this much of what is left
  abbrev goes_on : ℕ → Option (B × List A) → Option (List B)
  goes_on n r = option_and_then (λ found. option_map (λ ys. found.0 ∷ ys) (all_within first n found.1)) r

  either_way : (n m : ℕ) (x : A) (xs : List A) (r : Option (B × List A)) → first (x ∷ xs) ≡ r → IsShortening first
      → ((rest : List A) → length rest < length (x ∷ xs) → all_within first n rest ≡ all_within first m rest) → goes_on n r ≡ goes_on m r
  either_way n m x xs None e short same = refl
  either_way n m x xs (Some found) e short same = ap (option_map (λ ys. found.0 ∷ ys)) (same found.1 (short.shorter (x ∷ xs) found e))

  -- more steps than elements change nothing
  enough : IsShortening first → (n m : ℕ) (xs : List A) → length xs ≤ n → length xs ≤ m → all_within first n xs ≡ all_within first m xs
  unfolding all_within
  enough short n m [] le le' = all_within-nil n ∙ sym (all_within-nil m)
  enough short zero m (x ∷ xs) le le' = absurd (omega arith)
  enough short (suc n) zero (x ∷ xs) le le' = absurd (omega arith)
  enough short (suc n) (suc m) (x ∷ xs) le le' =
      either_way n m x xs (first (x ∷ xs)) refl short (λ rest lt. enough short n m rest (omega arith) (omega arith))

  pub all_of-next : IsShortening first → (xs : List A) (found : B × List A) → first xs ≡ Some found → 0 < length xs → all_of first xs ≡ option_map (λ ys. found.0 ∷ ys) (all_of first found.1)
  unfolding all_within
  all_of-next short [] found e some = absurd (omega arith)
  all_of-next short (x ∷ xs) found e some =
      let lt = short.shorter (x ∷ xs) found e in
      rw e (ap (option_map (λ ys. found.0 ∷ ys)) (enough short (length xs) (length found.1) found.1 (omega arith) (omega arith)))

  pub all_of-stuck : (xs : List A) → first xs ≡ None → 0 < length xs → all_of first xs ≡ None
  unfolding all_within
  all_of-stuck [] e some = absurd (omega arith)
  all_of-stuck (x ∷ xs) e some = rw e refl

  pub all_of-nil : all_of first [] ≡ Some []
  all_of-nil = all_within-nil 0

-- ---- a loop that reads

-- these have been read of the start, and the rest is left
pub record IsReadTo {A B : Type 0} (first : Reader A B) (start : List A) (done : List B) (rest : List A) : Type 0 where
  pub whole : all_of first start ≡ option_map (λ ys. done ++ ys) (all_of first rest)

one_more : {B : Type 0} (done : List B) (y : B) (r : Option (List B)) → option_map (λ ys. done ++ ys) (option_map (λ ys. y ∷ ys) r) ≡ option_map (λ ys. (done ++ y ∷ []) ++ ys) r
one_more done y None = refl
one_more done y (Some ys) = ap Some (sym (append_assoc done (y ∷ []) ys))

module _ {A B : Type 0} {first : Reader A B} where
  pub read_next : IsShortening first → (start : List A) (done : List B) (xs : List A) (y : B) (rest : List A) → Some (y, rest) ≡ first xs → 0 < length xs → IsReadTo first start done xs → IsReadTo first start (done ++ y ∷ []) rest
  read_next short start done xs y rest e some read =
      record { whole = read.whole ∙ ap (option_map (λ ys. done ++ ys)) (all_of-next first short xs (y, rest) (sym e) some) ∙ one_more done y (all_of first rest) }

  pub read_stuck : (start : List A) (done : List B) (xs : List A) → None ≡ first xs → 0 < length xs → IsReadTo first start done xs → None ≡ all_of first start
  read_stuck start done xs e some read = sym (read.whole ∙ ap (option_map (λ ys. done ++ ys)) (all_of-stuck first xs (sym e) some))

  pub read_all : (start : List A) (done : List B) (xs : List A) → length xs ≡ 0 → IsReadTo first start done xs → Some done ≡ all_of first start
  read_all start done [] none read = sym (read.whole ∙ ap (option_map (λ ys. done ++ ys)) (all_of-nil first) ∙ ap Some (append-nil done))
  read_all start done (x ∷ xs) none read = absurd (omega arith)

-- ---- the same as a relation

-- these things stand one after the other
pub data Repeats {A B : Type 0} (first : Reader A B) : List A → List B → Type 0 where
  done : Repeats first [] []
  more : (xs : List A) (found : B × List A) (ys : List B) → first xs ≡ Some found → 0 < length xs → Repeats first found.1 ys → Repeats first xs (found.0 ∷ ys)

module _ {A B : Type 0} (first : Reader A B) where
  repeats_within : (n : ℕ) (xs : List A) (ys : List B) → all_within first n xs ≡ Some ys → Repeats first xs ys
  unfolding all_within
  repeats_within n [] ys e =
      let same : [] ≡ ys = (let f = sym (all_within-nil first n) ∙ e in cc) in
      subst (Repeats first []) same done
  repeats_within zero (x ∷ xs) ys e = absurd cc
  repeats_within (suc n) (x ∷ xs) ys e =
      let chained = option_and_then-some (λ found. option_map (λ ys. found.0 ∷ ys) (all_within first n found.1)) (first (x ∷ xs)) ys e in
      let mapped = option_map-some (λ ys. chained.from.0 ∷ ys) (all_within first n chained.from.1) ys chained.is in
      subst (Repeats first (x ∷ xs)) mapped.is
      (more (x ∷ xs) chained.from mapped.from chained.was (omega arith) (repeats_within n chained.from.1 mapped.from mapped.was))

  pub all_of-repeats : (xs : List A) (ys : List B) → all_of first xs ≡ Some ys → Repeats first xs ys
  all_of-repeats xs ys e = repeats_within (length xs) xs ys e

  pub repeats-all_of : IsShortening first → (xs : List A) (ys : List B) → Repeats first xs ys → all_of first xs ≡ Some ys
  repeats-all_of short _ _ done = all_of-nil first
  repeats-all_of short xs _ (more _ found ys e some others) =
      all_of-next first short xs found e some ∙ ap (option_map (λ zs. found.0 ∷ zs)) (repeats-all_of short found.1 ys others)
