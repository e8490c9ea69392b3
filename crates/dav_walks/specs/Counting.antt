-- How many keys of a list are at or below a key: this project's own choice.
use Rattle.std.specs.Prelude.{ℕ, ◌+◌, Bool, cond, List, [], ◌∷◌, is_some}
use Rattle.dav_key.specs.Key.{Key}
use Rattle.dav_walks.specs.KeyCall.{path_to}

-- the sum of `f` over a list
unfoldable pub total : {X : Type 0} → (X → ℕ) → List X → ℕ
total f [] = 0
total f (x ∷ xs) = f x + total f xs

abbrev pub one : Bool → ℕ
one b = cond b 1 0

unfoldable pub is_below : Key → Key → ℕ
is_below k q = one (is_some (path_to k q))

-- how many of the keys are at or below k
unfoldable pub count_below : Key → List Key → ℕ
count_below k ks = total (is_below k) ks
