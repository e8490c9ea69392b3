-- Ranges of a data file that nothing uses: this project's own choice.
use Rattle.std.specs.Prelude.{◌⊎◌, ◌≤◌, ◌<◌, ◌≡◌, ℕ, ◌+◌, ◌-◌, Bool, true, false, ◌&&◌, ◌||◌, nat_le, List, [], ◌∷◌, ◌++◌, length, reverse, take}
use Rattle.std.specs.List.{list_all, list_any, sum_by}
use Rattle.dav_space.specs.declared.range.Range.{Range}
use Rattle.dav_space.specs.declared.range.TheConstants.{LIMIT}

-- the rooms, the current range and the later ones, which are kept in descending order, in ascending order
abbrev pub in_order : List Range → Range → List Range → List Range
in_order rooms current later = rooms ++ current ∷ reverse later

-- none of the n bytes from a place on is in the range
abbrev pub is_outside : ℕ → ℕ → Range → Bool
is_outside at n range = nat_le range.end at || nat_le (at + n) range.at

-- none of them is in any of the ranges
abbrev pub is_clear : List Range → ℕ → ℕ → Bool
is_clear ranges at n = list_all (is_outside at n) ranges

-- all of them are in the range
abbrev pub is_inside : ℕ → ℕ → Range → Bool
is_inside at n range = nat_le range.at at && nat_le (at + n) range.end

-- one of the ranges has all of them
abbrev pub is_covered : List Range → ℕ → ℕ → Bool
is_covered ranges at n = list_any (is_inside at n) ranges

-- no range begins before the place or before the end of an earlier one
abbrev pub are_rising : ℕ → List Range → Bool
are_rising from [] = true
are_rising from (range ∷ ranges) = nat_le from range.at && nat_le range.at range.end && are_rising range.end ranges

-- where the last of the ranges begins, or this place if there is none
abbrev pub last_at : ℕ → List Range → ℕ
last_at at [] = at
last_at at (range ∷ ranges) = last_at range.at ranges

-- where the last of the ranges ends, or this place if there is none
abbrev pub last_end : ℕ → List Range → ℕ
last_end end [] = end
last_end end (range ∷ ranges) = last_end range.end ranges

-- the last range ends where the data file may not grow any more
abbrev pub ReachLimit : List Range → Type 0
ReachLimit ranges = last_end 0 ranges ≡ LIMIT

-- how many bytes the range has
abbrev pub size : Range → ℕ
size range = range.end - range.at

-- how many bytes before the beginning of the last range are in none of the ranges
abbrev pub used_of : List Range → ℕ
used_of ranges = last_at 0 ranges - sum_by size (take (length ranges - 1) ranges)

-- the first n bytes of the range
abbrev pub first : ℕ → Range → Range
first n range = record { at = range.at; end = range.at + n }

-- the range without its first n bytes
abbrev pub without : ℕ → Range → Range
without n range = record { at = range.at + n; end = range.end }

-- what was clear still is
abbrev pub KeepsClear : List Range → List Range → Type 0
KeepsClear old new = (at n : ℕ) → is_clear old at n ≡ true → is_clear new at n ≡ true

-- each byte that was in one of the ranges still is
abbrev pub KeepsUnused : List Range → List Range → Type 0
KeepsUnused old new = (i : ℕ) → is_clear old i 1 ≡ false → is_clear new i 1 ≡ false

-- nothing that is clear has one of these n bytes
abbrev pub AreUnused : ℕ → ℕ → List Range → Type 0
AreUnused at n ranges = (a m : ℕ) → is_clear ranges a m ≡ true → (a + m ≤ at) ⊎ (at + n ≤ a)

-- nothing that is clear and lies below the limit has a byte at this place or behind it
abbrev pub IsBehind : ℕ → List Range → Type 0
IsBehind end ranges = (a n : ℕ) → is_clear ranges a n ≡ true → 0 < n → a + n ≤ LIMIT → a + n ≤ end

-- these n bytes are taken into use: they are clear now, what was clear still is, and no other byte is taken
pub record AreTaken (at n : ℕ) (old new : List Range) : Type 0 where
  pub taken : is_clear new at n ≡ true
  pub kept : KeepsClear old new
  pub rest : (i : ℕ) → (i < at) ⊎ (at + n ≤ i) → is_clear old i 1 ≡ false → is_clear new i 1 ≡ false
