-- The parts of a text between separators, byte by byte.
use Rattle.std.proofs.Common.{◌≡◌, ◌∙◌, ℕ, Bool, true, false, ◌&&◌, cond, List, [], ◌∷◌, ◌++◌, refl, ap}
use Rattle.std.proofs.lemmas.Bool.{cond-true, cond-false, or_parts}
use Rattle.std.specs.List.{list_all, list_any, slice_split, onto_first}

pub and-true : (x : Bool) → (x && true) ≡ x
and-true true = refl
and-true false = refl

-- the first part passes one test, and the others pass another
abbrev pub with_first : (List ℕ → Bool) → (List ℕ → Bool) → List (List ℕ) → Bool
with_first first others [] = first [] && true
with_first first others (part ∷ parts) = first part && list_all others parts

pub with_first-same : (f g others : List ℕ → Bool) → ((x : List ℕ) → f x ≡ g x) → (parts : List (List ℕ)) → with_first f others parts ≡ with_first g others parts
with_first-same f g others same [] = ap (λ b. b && true) (same [])
with_first-same f g others same (part ∷ parts) = ap (λ b. b && list_all others parts) (same part)

pub with_first-never : (f others : List ℕ → Bool) → ((x : List ℕ) → f x ≡ false) → (parts : List (List ℕ)) → with_first f others parts ≡ false
with_first-never f others never [] = ap (λ b. b && true) (never [])
with_first-never f others never (part ∷ parts) = ap (λ b. b && list_all others parts) (never part)

with_first-onto : (f others : List ℕ → Bool) (b : ℕ) (parts : List (List ℕ)) → with_first f others (onto_first b parts) ≡ with_first (λ x. f (b ∷ x)) others parts
with_first-onto f others b [] = refl
with_first-onto f others b (part ∷ parts) = refl

module _ (splits : ℕ → Bool) where
  pub with_first-cut : (f others : List ℕ → Bool) (b : ℕ) (bs : List ℕ) → splits b ≡ true → with_first f others (slice_split splits (b ∷ bs)) ≡ (f [] && list_all others (slice_split splits bs))
  with_first-cut f others b bs e = ap (with_first f others) (cond-true (splits b) _ _ e)

  pub with_first-cons : (f others : List ℕ → Bool) (b : ℕ) (bs : List ℕ) → splits b ≡ false → with_first f others (slice_split splits (b ∷ bs)) ≡ with_first (λ x. f (b ∷ x)) others (slice_split splits bs)
  with_first-cons f others b bs e = ap (with_first f others) (cond-false (splits b) _ _ e) ∙ with_first-onto f others b (slice_split splits bs)

  -- where no byte splits the front, it is in the first part
  pub with_first-append : (f others : List ℕ → Bool) (front bs : List ℕ) → list_any splits front ≡ false → with_first f others (slice_split splits (front ++ bs)) ≡ with_first (λ x. f (front ++ x)) others (slice_split splits bs)
  with_first-append f others [] bs e = refl
  with_first-append f others (b ∷ front) bs e =
      let apart = or_parts (splits b) (list_any splits front) e in
      with_first-cons f others b (front ++ bs) apart.0 ∙ with_first-append (λ x. f (b ∷ x)) others front bs apart.1

  pub list_all-parts : (others : List ℕ → Bool) (bs : List ℕ) → list_all others (slice_split splits bs) ≡ with_first others others (slice_split splits bs)
  list_all-parts others [] = refl
  list_all-parts others (b ∷ bs) = by_first (splits b) (slice_split splits bs)
    where
      by_first : (cut : Bool) (parts : List (List ℕ)) → list_all others (cond cut ([] ∷ parts) (onto_first b parts)) ≡ with_first others others (cond cut ([] ∷ parts) (onto_first b parts))
      by_first true parts = refl
      by_first false [] = refl
      by_first false (part ∷ parts) = refl
