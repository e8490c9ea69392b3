-- What contracts see of a `BlockFile`: this project's own choice.
use Rattle.std.specs.Prelude.{◌≡◌, ◌⊎◌, ◌≤◌, ◌<◌, ℕ, ◌+◌, Bool, true, false, ◌&&◌, nat_le, List, take, length, Err}
use Rattle.std.specs.declared.io.Error.{Error}
use Rattle.sqlite_disk.specs.declared.Disk.{Ghosts}
use Rattle.sqlite_disk.specs.declared.tally.Tally.{Tally}
use Rattle.sqlite_disk.specs.Disk.{Torn, MoreFaults}
use Rattle.sqlite_disk.specs.Refusal.{is_no_room}
use Rattle.sqlite_disk.specs.Tally.{CountsRefusal}
use Rattle.dav_pieces.specs.Pieces.{bytes_at}
use Rattle.dav_blocks.specs.Runs.{are_clear}
use Rattle.dav_space.specs.Ranges.{is_clear, used_of}
use Rattle.dav_space.specs.Space.{unused, IsFull, MakesRoom, MakesNoRoom}
use Rattle.dav_blocks.specs.declared.run.Run.{Run}
use Rattle.dav_blocks.specs.declared.block_file.BlockFile.{BlockFile}

module _ {D : Type 0} {g : Ghosts D} where
  abbrev pub disk_of : BlockFile D g → D
  disk_of it = it.disk

  -- the contents of the data file
  abbrev pub data_of : BlockFile D g → List ℕ
  data_of it = g.seen it.disk

  -- the contents that a crash at this moment may leave
  abbrev pub may_leave : BlockFile D g → List ℕ → Type 0
  may_leave it = g.may_leave it.disk

  -- no sync has failed
  abbrev pub is_usable : BlockFile D g → Bool
  is_usable it = g.is_usable it.disk

  -- no wrong answer of the disk has been taken as true
  abbrev pub is_honest : BlockFile D g → Bool
  is_honest it = g.is_clean it.disk

  -- what the failed calls of the disk met
  abbrev pub tally_of : BlockFile D g → Tally
  tally_of it = g.tally_of it.disk

  -- nothing has been written since the last sync
  abbrev pub is_settled : BlockFile D g → Bool
  is_settled it = it.settled

  -- the n bytes from a place on have been written, and no other bytes will be written there
  abbrev pub in_use : BlockFile D g → ℕ → ℕ → Bool
  in_use it at n = nat_le (at + n) it.end && are_clear (unused it.space) at n

  -- how many bytes before the last unused range are in no unused range
  abbrev pub used_bytes : BlockFile D g → ℕ
  used_bytes it = used_of (unused it.space)

  -- a crash leaves them as they are
  abbrev pub is_safe : BlockFile D g → ℕ → ℕ → Bool
  is_safe it at n = nat_le (at + n) it.synced && are_clear (unused it.at_sync.value) at n

  -- where the bytes end that have been written
  abbrev pub end_of : BlockFile D g → ℕ
  end_of it = it.end

  -- the byte at a place may be written
  abbrev pub IsFree : BlockFile D g → ℕ → Type 0
  IsFree it i = is_clear (unused it.space) i 1 ≡ false

  -- no other bytes than these n have changed, and no others that were free are not free now
  pub record ChangesOnly (at n : ℕ) (old new : BlockFile D g) : Type 0 where
    pub bytes : Torn at n (data_of old) (data_of new)
    pub free : (i : ℕ) → (i < at) ⊎ (at + n ≤ i) → IsFree old i → IsFree new i

  -- what was in use still is, with the same bytes, and what was safe still is
  pub record KeepsBlocks (old new : BlockFile D g) : Type 0 where
    pub used : (at n : ℕ) → in_use old at n ≡ true → in_use new at n ≡ true
    pub same : (at n : ℕ) → in_use old at n ≡ true → bytes_at (data_of new) at n ≡ bytes_at (data_of old) at n
    pub safe : (at n : ℕ) → is_safe old at n ≡ true → is_safe new at n ≡ true

  -- the first of these bytes are at the run now, and in use
  pub record AreWritten (written : List ℕ) (run : Run) (new : BlockFile D g) : Type 0 where
    pub most : run.len ≤ length written
    pub bytes : bytes_at (data_of new) run.at run.len ≡ take run.len written
    pub used : in_use new run.at run.len ≡ true

  -- an earlier sync has failed, or a call of the disk has failed
  abbrev pub HasFailed : BlockFile D g → BlockFile D g → Type 0
  HasFailed old new = (is_usable old ≡ false) ⊎ MoreFaults (g.faults old.disk) (g.faults new.disk)

  -- an earlier sync has failed, or there is no place left below 2^63, or a call of the disk has failed
  abbrev pub HasCause : BlockFile D g → BlockFile D g → Type 0
  HasCause old new = (is_usable old ≡ false) ⊎ (IsFull new.space ⊎ MoreFaults (g.faults old.disk) (g.faults new.disk))

  -- the next n bytes, or as many as there are, become a room, or nothing changes, for which there is a reason
  unfoldable pub ReservesRoom : ℕ → BlockFile D g → BlockFile D g → Type 0
  ReservesRoom n old new = MakesRoom n old.space new.space ⊎ MakesNoRoom n old.space new.space

  -- a write's error says that there is no room exactly if the space is full, or the disk counts that it has none
  pub record TellsRoom (e : Error) (old new : BlockFile D g) : Type 0 where
    pub full : is_usable old ≡ true → IsFull new.space → is_no_room e ≡ true
    pub other : (is_usable old ≡ false) ⊎ (¬ IsFull new.space) → CountsRefusal {T = Unit} (Err e) (tally_of old) (tally_of new)

  -- an earlier sync has failed, or the disk has, which counts that if the n bytes are within the file
  abbrev pub HasReadCause : ℕ → ℕ → Error → BlockFile D g → BlockFile D g → Type 0
  HasReadCause at n e old new =
      (is_usable old ≡ false × is_no_room e ≡ false)
      ⊎ ((is_honest old ≡ true → at + n ≤ length (data_of old)) → MoreFaults (g.faults old.disk) (g.faults new.disk))

  -- the file ends where the bytes end that have been written, or a call of the disk has failed
  abbrev pub CutsOrFails : BlockFile D g → BlockFile D g → Type 0
  CutsOrFails old new = (length (data_of new) ≡ end_of new) ⊎ MoreFaults (g.faults old.disk) (g.faults new.disk)
