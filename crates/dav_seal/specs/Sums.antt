-- The sum of digests.
use Rattle.std.specs.Prelude.{ℕ, ℤ, ◌%◌, ◌^◌, List, sum_by}
use Rattle.std.specs.Map.{values_of}

-- the sum of the digests, mod 2 ^ 64
unfoldable pub total_of : List (ℤ × ℕ) → ℕ
total_of digests = sum_by (λ d. d) (values_of digests) % 2 ^ 64
