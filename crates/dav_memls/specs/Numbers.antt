-- Ascending numbers: this project's own choice.
use Rattle.std.specs.Prelude.{ℕ, ◌<◌, ◌==◌, not, List}
use Rattle.std.specs.List.{AllByRecursion, filter}

-- the number is greater than each of these
abbrev pub IsAbove : ℕ → List ℕ → Type 0
IsAbove n xs = AllByRecursion (λ x. x < n) xs

-- the numbers without this one
abbrev pub without : ℕ → List ℕ → List ℕ
without n xs = filter (λ x. not (x == n)) xs
