-- Lists of changes, and of what is reported of them.
use Rattle.std.proofs.Common.{◌≡◌, Bool, List, [], ◌∷◌, map, refl, ap}
use Rattle.std.specs.Prelude.{◌||◌}
use Rattle.std.specs.List.{list_any}

-- a test of what each item is seen as
pub any-map : {A B : Type 0} (test : B → Bool) (see : A → B) (xs : List A) → list_any (λ x. test (see x)) xs ≡ list_any test (map see xs)
any-map test see [] = refl
any-map test see (x ∷ xs) = ap (λ b. test (see x) || b) (any-map test see xs)
