-- What contracts see of a `Space`.
use Rattle.std.specs.Prelude.{◌≡◌, ◌<◌, ◌≤◌, ◌+◌, ◌++◌, ◌⊎◌, ℕ, List, [], ◌∷◌, length, drop, nat_lt, min, slice_index_or, vec_len, if◌then◌else◌}
use Rattle.std.specs.Vec.{vec_capacity}
use Rattle.dav_space.specs.Ranges.{in_order, size, first, without}
use Rattle.dav_space.specs.declared.range.Range.{Range}
use Rattle.dav_space.specs.declared.space.TheConstants.{MAX_ROOMS}
use Rattle.dav_space.specs.declared.space.Space.{Space}

-- the ranges that nothing uses, in ascending order
abbrev pub unused : Space → List Range
unused space = in_order space.rooms.items space.current space.later.items

-- the next n bytes to use begin at this place
pub record AreNext (at n : ℕ) (space : Space) : Type 0 where
  pub begins : at ≡ space.current.at
  pub fits : at + n ≤ space.current.end

-- how many of n bytes the current range has
abbrev pub next_len : ℕ → Space → ℕ
next_len n space = min n (size space.current)

-- the room with this number
abbrev pub room_of : ℕ → Space → Range
room_of number space = slice_index_or space.rooms.items number (record { at = 0; end = 0 })

-- where it begins
abbrev pub room_at : ℕ → Space → ℕ
room_at number space = (room_of number space).at

-- how many of n bytes it has
abbrev pub room_len : ℕ → ℕ → Space → ℕ
room_len n number space = min n (size (room_of number space))

-- the room with this number begins at this place and has n bytes at least
pub record IsRoom (number at n : ℕ) (space : Space) : Type 0 where
  pub there : number < length space.rooms.items
  pub begins : room_at number space ≡ at
  pub fits : at + n ≤ (room_of number space).end

-- no room that has a byte begins at this place
abbrev pub HasNoRoom : ℕ → Space → Type 0
HasNoRoom at space = (number : ℕ) → ¬ IsRoom number at 1 space

-- the rooms that are kept: if there are too many, all except the one with the lowest place
abbrev pub limited : List Range → List Range
limited rooms = if nat_lt MAX_ROOMS (length rooms) then drop 1 rooms else rooms

-- the next n bytes become a room, or as many as there are, and the one with the lowest place may be given up for it
pub record MakesRoom (n : ℕ) (old new : Space) : Type 0 where
  pub some : 0 < next_len n old
  pub rooms : new.rooms.items ≡ limited (old.rooms.items ++ first (next_len n old) old.current ∷ [])
  pub current : new.current ≡ without (next_len n old) old.current
  pub later : new.later.items ≡ old.later.items

-- nothing changes: the room would have no bytes, or the list of the rooms would need more memory
pub record MakesNoRoom (n : ℕ) (old new : Space) : Type 0 where
  pub reason : (next_len n old ≡ 0) ⊎ (vec_capacity old.rooms ≤ vec_len old.rooms)
  pub rooms : new.rooms.items ≡ old.rooms.items
  pub current : new.current ≡ old.current
  pub later : new.later.items ≡ old.later.items

-- nothing is left to use, except rooms
pub record IsFull (space : Space) : Type 0 where
  pub current : space.current.end ≤ space.current.at
  pub later : space.later.items ≡ []
