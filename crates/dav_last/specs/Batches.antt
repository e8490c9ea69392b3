-- What contracts see of a `LastBatch`: this project's own choice.
use Rattle.std.specs.Prelude.{◌≡◌, ◌<◌, ℕ, Bool, List, Result, MatchResult}
use Rattle.sqlite_disk.specs.declared.Disk.{Ghosts}
use Rattle.sqlite_wal.specs.Reads.{AreClean}
use Rattle.dav_last.specs.Images.{image_of_number}
use Rattle.dav_last.specs.Slots.{last_in, NamesAtLeast}
use Rattle.dav_last.specs.Crashes.{LeavesOnly, LeavesMixes, LeavesWhole, IsMixingType, faults_in}
use Rattle.dav_last.specs.declared.reading.Last.TheVariants.{Number}
use Rattle.dav_last.specs.declared.last_batch.LastBatch.{LastBatch}

module _ {D : Type 0} {g : Ghosts D} where
  -- the slot that is written
  abbrev pub unsynced_of : LastBatch D g → D
  unsynced_of it = it.unsynced

  -- the slot that stays as it is until the next sync
  abbrev pub synced_of : LastBatch D g → D
  synced_of it = it.synced

  -- the greatest number that was noted
  abbrev pub number_of : LastBatch D g → ℕ
  number_of it = it.number

  -- the number that the synced slot names
  abbrev pub kept_of : LastBatch D g → ℕ
  kept_of it = it.kept

  -- the key of the folder
  abbrev pub key_of : LastBatch D g → ℕ
  key_of it = it.key

  -- no sync has failed
  abbrev pub is_usable : LastBatch D g → Bool
  is_usable it = g.is_usable it.unsynced

  -- the slots name this number now, and no greater one
  abbrev pub Names : ℕ → LastBatch D g → Type 0
  Names number it = last_in it.key (g.seen it.unsynced) (g.seen it.synced) ≡ Number number

  -- both disks of the slots are clean
  abbrev pub HasCleanSlots : LastBatch D g → Type 0
  HasCleanSlots it = AreClean g it.unsynced it.synced

  -- the unsynced slot names the number now
  abbrev pub IsWritten : LastBatch D g → Type 0
  IsWritten it = g.seen it.unsynced ≡ image_of_number it.key it.number

  -- the slots name this number or a greater one after a crash, whatever that leaves
  abbrev pub Survives : ℕ → LastBatch D g → Type 0
  Survives number it = (c d : List ℕ) → g.may_leave it.unsynced c → g.may_leave it.synced d → NamesAtLeast it.key number c d

  -- a crash leaves this number in each slot, and nothing else
  abbrev pub IsInBoth : ℕ → LastBatch D g → Type 0
  IsInBoth number it = LeavesOnly g it.key number it.unsynced × LeavesOnly g it.key number it.synced

  -- A crash leaves the number that was synced last, or a greater one, and 16 bytes of each slot. If the disks mix, each byte is one of the image of a noted number.
  pub record IsCrashSafe (it : LastBatch D g) : Type 0 where
    pub survives : Survives it.kept it
    pub unsynced_whole : LeavesWhole g it.unsynced
    pub synced_whole : LeavesWhole g it.synced
    pub unsynced_mixes : IsMixingType g → LeavesMixes g it.key it.number it.unsynced
    pub synced_mixes : LeavesMixes g it.key it.number it.synced

  -- how many calls of the disks have failed
  abbrev pub faults_of : LastBatch D g → ℕ
  faults_of it = faults_in g (it.unsynced, it.synced)

  -- the synced slot stays as it is; a sync that had something to do makes it the unsynced one
  abbrev pub KeepsOther : {T E : Type 0} → Result T E → LastBatch D g → LastBatch D g → Type 0
  KeepsOther result old new =
      MatchResult result
      (λ _. (kept_of old < number_of old → unsynced_of new ≡ synced_of old) × (kept_of old ≡ number_of old → synced_of new ≡ synced_of old))
      (λ _. synced_of new ≡ synced_of old)
