-- No range ends behind the limit.
use Rattle.std.proofs.Common.{ℕ, ◌≤◌, List, [], ◌∷◌, ◌++◌, arith}
use Rattle.dav_space.specs.declared.range.Range.{Range}
use Rattle.dav_space.specs.Ranges.{last_end}
use Rattle.dav_space.proofs.Facts.{Rises}

last_end-rises : (from : ℕ) (rs : List Range) → Rises from rs → from ≤ last_end from rs
last_end-rises from [] h = omega arith
last_end-rises from (r ∷ rs) h = let low = h.0 in let up = h.1 in let rest = last_end-rises r.end rs h.2 in omega arith

-- each range ends at or before the end of the last one
pub end_below : (from : ℕ) (xs : List Range) (r : Range) (ys : List Range) → Rises from (xs ++ r ∷ ys) → r.end ≤ last_end from (xs ++ r ∷ ys)
end_below from [] r ys h = last_end-rises r.end ys h.2
end_below from (x ∷ xs) r ys h = end_below x.end xs r ys h.2
