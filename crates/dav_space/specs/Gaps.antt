-- The gaps between ranges that are in use: this project's own choice.
use Rattle.std.specs.Prelude.{ℕ, List, [], ◌∷◌, ◌++◌, nat_le, nat_lt, max, if◌then◌else◌}
use Rattle.dav_space.specs.declared.range.Range.{Range}
use Rattle.dav_space.specs.declared.range.TheConstants.{LIMIT}

-- the range from a place up to another
abbrev pub range_of : ℕ → ℕ → Range
range_of at end = record { at = at; end = end }

-- the gap from a place up to another, if there is one
abbrev pub gap : ℕ → ℕ → List Range
gap at end = if nat_lt at end then range_of at end ∷ [] else []

-- the gaps from a place up to the limit between these ranges, which are in ascending order
abbrev pub gaps_of : ℕ → List Range → List Range
gaps_of at [] = range_of at LIMIT ∷ []
gaps_of at (range ∷ ranges) =
    if nat_le range.at range.end then gap at range.at ++ gaps_of (max at range.end) ranges else gaps_of at ranges
