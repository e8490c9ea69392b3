-- What is known of a reserve: this project's own choice.
use Rattle.std.specs.Prelude.{◌≡◌, ◌⊎◌, ◌+◌, ℕ, Bool, true, false, length, Result, MatchBool}
use Rattle.std.specs.declared.io.Error.{Error}
use Rattle.sqlite_disk.specs.declared.Disk.{Ghosts}
use Rattle.sqlite_disk.specs.Disk.{MoreFaults}
use Rattle.sqlite_disk.specs.Refusal.{finds_no_room}
use Rattle.dav_reserve.specs.declared.reserve.Reserve.{Reserve}
use Rattle.dav_reserve.specs.declared.reserve.Reserve.TheVariants.{Empty, Filled}

-- the file is known to have all the bytes that are to be kept back
abbrev pub is_known_filled : Reserve → Bool
is_known_filled Filled = true
is_known_filled _ = false

-- the file is known to have no bytes
abbrev pub is_known_empty : Reserve → Bool
is_known_empty Empty = true
is_known_empty _ = false

-- the file of the disk has no bytes now, or a call of the disk has failed
abbrev pub GivesBack : {R : Type 0} (g : Ghosts R) (old new : R) → Type 0
GivesBack g old new = (length (g.seen new) ≡ 0) ⊎ MoreFaults (g.faults old) (g.faults new)

-- A call of the disk has failed, and the file has no bytes now, or a second call has failed.
abbrev pub GivesUp : {R : Type 0} (g : Ghosts R) (old new : R) → Type 0
GivesUp g old new =
    MoreFaults (g.faults old) (g.faults new) × ((length (g.seen new) ≡ 0) ⊎ MoreFaults (g.faults old + 1) (g.faults new))

-- a call of the disk has found no room
abbrev pub FindsNoRoom : {R : Type 0} (g : Ghosts R) (old new : R) → Type 0
FindsNoRoom g old new = MoreFaults (g.tally_of old).refused (g.tally_of new).refused

-- the disk has found no room as often as before, or more often
abbrev pub StillCounts : {R : Type 0} (g : Ghosts R) (old new : R) → Type 0
StillCounts g old new = ((g.tally_of new).refused ≡ (g.tally_of old).refused) ⊎ FindsNoRoom g old new

-- a count rose exactly if the error says that there is no room
abbrev pub CountsNoRoom : Result Unit Error → ℕ → ℕ → Type 0
CountsNoRoom result old new = MatchBool (finds_no_room result) (MoreFaults old new) (new ≡ old)
