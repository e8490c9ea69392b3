-- Parses a whole list with a parser of one item: the first item, then the first of the rest, and so on (this project's own choice of words).
use Rattle.std.specs.Prelude.{ℕ, suc, zero, List, [], ◌∷◌, length, Option, Some, None, option_map, option_and_then}

-- a parser of the first item, which also returns what is left
abbrev pub Reader : Type 0 → Type 0 → Type 0
Reader A B = List A → Option (B × List A)

-- the items of the list, in at most n steps
unfoldable pub all_within : {A B : Type 0} → Reader A B → ℕ → List A → Option (List B)
all_within first n [] = Some []
all_within first zero (x ∷ xs) = None
all_within first (suc n) (x ∷ xs) =
    option_and_then (λ found. option_map (λ ys. found.0 ∷ ys) (all_within first n found.1)) (first (x ∷ xs))

-- the items of the list, if each step takes at least one element
abbrev pub all_of : {A B : Type 0} → Reader A B → List A → Option (List B)
all_of first xs = all_within first (length xs) xs
