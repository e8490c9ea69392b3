-- What a change of a data file leaves as it was: this project's own choice.
use Rattle.std.specs.Prelude.{◌≡◌, ◌≤◌, ◌<◌, ◌+◌, ◌-◌, ◌⊎◌, ℕ, zero, suc, min, Bool, true, ◌&&◌, List, length, slice_index}
use Rattle.dav_space.specs.declared.range.Range.{Range}
use Rattle.dav_space.specs.declared.space.Space.{Space}
use Rattle.dav_space.specs.Ranges.{is_clear}
use Rattle.dav_space.specs.Space.{room_len, IsRoom, HasNoRoom}
use Rattle.dav_blocks.specs.declared.run.Run.{Run}

-- none of the n bytes from a place on is in any of the ranges
abbrev pub are_clear : List Range → ℕ → ℕ → Bool
are_clear ranges at zero = true
are_clear ranges at (suc n) = is_clear ranges at 1 && are_clear ranges (suc at) n

-- each byte before a place that is in none of these ranges is the same
pub record KeepsBytes (ranges : List Range) (end : ℕ) (old new : List ℕ) : Type 0 where
  pub within : end ≤ length new
  pub same : (i : ℕ) → i < end → is_clear ranges i 1 ≡ true → slice_index new i ≡ slice_index old i

-- the run began the current range, which ends where it did, and is as many of n bytes as that had
pub record IsNextRun (n : ℕ) (run : Run) (new : Space) : Type 0 where
  pub rest : new.current.at ≡ run.at + run.len
  pub len : run.len ≡ min n (new.current.end - run.at)

-- a room that has a byte begins at this place, and has so many of n bytes; or there is none, and these are no bytes
abbrev pub IsRoomLen : ℕ → ℕ → ℕ → Space → Type 0
IsRoomLen at n len old =
    ((number : ℕ) × IsRoom number at 1 old × (len ≡ room_len n number old)) ⊎ (HasNoRoom at old × len ≡ 0)
