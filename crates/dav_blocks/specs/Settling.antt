-- What a start asks of a data file, and what that leaves: this project's own choice.
use Rattle.std.specs.Prelude.{◌≡◌, ◌⊎◌, ◌≤◌, ◌<◌, ℕ, ◌+◌, true, false, List, length}
use Rattle.std.specs.declared.io.Error.{Error}
use Rattle.sqlite_disk.specs.declared.Disk.{Ghosts}
use Rattle.sqlite_disk.specs.Disk.{MoreFaults, Only}
use Rattle.sqlite_disk.specs.Refusal.{is_no_room}
use Rattle.dav_pieces.specs.Pieces.{bytes_at}

-- unless the file ends before a place, the bytes before that place are the same, whatever the disk has answered
abbrev pub KeepsFirst : ℕ → List ℕ → List ℕ → Type 0
KeepsFirst end old new = end ≤ length old → (at n : ℕ) → at + n ≤ end → bytes_at new at n ≡ bytes_at old at n

module _ {D : Type 0} (g : Ghosts D) (old : D) where
  -- If no wrong answer was taken as true, the file has the contents that it had, and a crash leaves these if it left nothing else before.
  pub record IsUnharmed (new : D) : Type 0 where
    pub honest : g.is_clean new ≡ true → g.is_clean old ≡ true
    pub same : g.is_clean new ≡ true → g.seen new ≡ g.seen old
    pub crash : g.is_clean new ≡ true → Only (g.seen old) (g.may_leave old) → Only (g.seen old) (g.may_leave new)

  -- the file ends before a place, unless a wrong answer was taken as true, and the error is not that there is no room
  pub record IsTooShort (end : ℕ) (new : D) (e : Error) : Type 0 where
    pub short : g.is_clean new ≡ true → length (g.seen old) < end
    pub other : is_no_room e ≡ false

  -- the file is too short, or a call has failed; and if the disk counts that it has no room, the error says so
  pub record HasNotSettled (end : ℕ) (new : D) (e : Error) : Type 0 where
    pub cause : IsTooShort end new e ⊎ MoreFaults (g.faults old) (g.faults new)
    pub told : is_no_room e ≡ false → (g.tally_of new).refused ≡ (g.tally_of old).refused
