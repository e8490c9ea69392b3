-- What a run over a folder leaves of its files, and what the next run there begins with.
use Rattle.std.specs.Prelude.{◌≡◌, ◌≤◌, ◌⊎◌, ℕ, true, false, IsTrue, List, [], ◌∷◌, ◌++◌, flat_map, Option, Some}
use Rattle.std.specs.Io.KnownBytes.{Appends}
use Rattle.std.specs.Option.{option_map}
use Rattle.dav_data.specs.declared.claim.Claim as claim
use Rattle.dav_data.specs.declared.claimed_file.ClaimedFile.{ClaimedFile}
use Rattle.dav_folder.specs.Claims.{IsKeyed}
use Rattle.dav_folder.specs.Files.{KeptStore, kept_at, Hold, Leave, LeaveWhole, LeaveEither}
use Rattle.dav_folder.specs.Lasting.{At, IsSameKept}
use Rattle.dav_last.specs.Batches.{IsInBoth, HasCleanSlots, number_of, key_of}
use Rattle.dav_last.specs.declared.last_batch.LastBatch.{LastBatch}
use Rattle.dav_memls.specs.MemLs.{locks_of}
use Rattle.dav_pieces.specs.declared.piece.Piece.{Piece}
use Rattle.dav_rows.specs.Contents.{Contents}
use Rattle.dav_rows_files.specs.Starting.{Keeps, IsVacant}
use Rattle.dav_seal.specs.Seals.{IsSealed}
use Rattle.dav_server.specs.Batches.{Exchange}
use Rattle.dav_server.specs.Exchanges.{bytes_out, InOrder, StopsBy}
use Rattle.dav_server.specs.Keeping.{snapshot_of, IsAnsweredAndSaved, AreSavedRun, RunsAndSaves, LeadThrough}
use Rattle.dav_server.specs.Snapshots.{state_at}
use Rattle.dav_server.specs.State.{Rules, ServerState}
use Rattle.dav_tree.specs.TreeFs.{memory_of, store_of, honest_of, reads_of}
use Rattle.dav_tree.specs.declared.medium.Medium.{Ghosts}
use Rattle.sqlite.specs.Recovery as database
use Rattle.sqlite_disk.specs.declared.Disk as disk
use Rattle.sqlite_store.specs.FileStore.{view}
use Rattle.sqlite_store.specs.declared.store.FileStore.{FileStore}
use Rattle.sqlite_trees.specs.View.{IsClean}
use Rattle.davd.specs.Folder.{Serving, state_now, state_from, first_kept, IsNotOlder, IsNumbered}
use Rattle.davd.specs.declared.folder.StartOptions.{StartOptions}

-- `g` says how the data file is a medium; an exchange is a batch with its answer
module _ {E C : Type 0} {e : disk.Ghosts E} {c : claim.Ghosts C} (g : Ghosts (ClaimedFile E C e c) (List Piece)) (rules : Rules) where
  -- a batch is served
  abbrev Serves : Exchange → ServerState → ServerState → Type 0
  Serves = IsAnsweredAndSaved (store_of {g = g}) reads_of rules

  -- these exchanges lead from one state to the other, and through what this snapshot has
  abbrev Pass : List Exchange → ServerState → At g → ServerState → Type 0
  Pass exchanges old snapshot new = LeadThrough store_of locks_of reads_of rules exchanges old snapshot new

  -- What was in the server after the first ones of these exchanges is left, with the time and the number of then. Of what is kept, the server has the same
  -- now.
  pub record LeavesAfter (exchanges : List Exchange) (old : ServerState) (last : Serving g) (IsLeft : KeptStore → Type 0) : Type 0 where
    pub snapshot : At g
    pub passed : Pass exchanges old snapshot (state_now last)
    pub now : At g
    pub is : snapshot_of last ≡ Some now
    pub unchanged : IsSameKept snapshot now
    pub left : IsLeft (kept_at snapshot)

-- Whatever a crash leaves of the files holds this store, also without the log of the database. The number that was noted last is that of its batch, and
-- each file of the number has it, and nothing else.
abbrev pub LeaveNumbered : {D E L C : Type 0} {d : disk.Ghosts D} {e : disk.Ghosts E} {l : disk.Ghosts L} {c : claim.Ghosts C} → FileStore D d × ClaimedFile E C e c
    → LastBatch L l → KeptStore → Type 0
LeaveNumbered files number kept = LeaveWhole files kept × IsInBoth kept.batch number × (number_of number ≡ kept.batch)

-- Whatever a crash leaves of the files holds this store, and the number that was noted is not greater than that of its batch.
abbrev pub LeaveNoted : {D E L C : Type 0} {d : disk.Ghosts D} {e : disk.Ghosts E} {l : disk.Ghosts L} {c : claim.Ghosts C} → FileStore D d × ClaimedFile E C e c
    → LastBatch L l → KeptStore → Type 0
LeaveNoted files number kept = Leave files kept × (number_of number ≤ kept.batch)

-- `D` is the disk of the database, and `E` that of the data file
module _ {D E C : Type 0} {d : disk.Ghosts D} {e : disk.Ghosts E} {c : claim.Ghosts C} (g : Ghosts (ClaimedFile E C e c) (List Piece)) (rules : Rules) where
  -- A crash leaves what is in the server now, or what was in it after the first ones of these exchanges; of what is kept, it had the same after all of
  -- them. Whichever it leaves, the number that was noted is not greater than that of its batch.
  pub record LeavesAfterOrNow {L : Type 0} {l : disk.Ghosts L} (exchanges : List Exchange) (old mid : ServerState) (last : Serving g) (files : FileStore D d × ClaimedFile E C e c)
      (number : LastBatch L l) : Type 0 where
    pub snapshot : At g
    pub passed : Pass g rules exchanges old snapshot mid
    pub after : At g
    pub was : state_at store_of locks_of mid.rights after ≡ mid
    pub unchanged : IsSameKept snapshot after
    pub now : At g
    pub is : snapshot_of last ≡ Some now
    pub left : LeaveEither files (number_of number) (kept_at snapshot) (kept_at now)

  -- ---- runs from this state; `If` is what has to hold at the start for the run to be kept

  module _ (If : Type 0) (old : ServerState) where
    -- A run to the end of the input. Whatever a crash leaves of the files then has all that was kept, also without the log, and the number of the last batch.
    -- Each file of the number has the number that was noted last, and nothing else.
    pub record RunsAndLeaves {L : Type 0} {l : disk.Ghosts L} (files : FileStore D d × ClaimedFile E C e c) (number : LastBatch L l)
        (input input' output output' : Option (List ℕ)) : Type 0 where
      pub last : Serving g
      pub run : RunsAndSaves (store_of {g = g}) reads_of rules old (state_now last) input input' output output'
      pub leaves : If → LeavesAfter g rules run.exchanges old last (LeaveNumbered files number)
      pub noted : IsInBoth (number_of number) number

    -- A run to the end of the input, after which the log is not copied into the database file, or the number of the last batch is not on the disk. What a
    -- crash leaves of the files has all that was kept, unless the store of the database stopped in a state in which it does not number its tables: SQLite's
    -- clauses do not exclude that.
    pub record RunsWithLog {L : Type 0} {l : disk.Ghosts L} (files : FileStore D d × ClaimedFile E C e c) (number : LastBatch L l)
        (input input' output output' : Option (List ℕ)) : Type 0 where
      pub last : Serving g
      pub run : RunsAndSaves (store_of {g = g}) reads_of rules old (state_now last) input input' output output'
      pub leaves : IsTrue (view files.0).is_numbered → If → LeavesAfter g rules run.exchanges old last (LeaveNoted files number)

    -- one more batch is served and kept after these exchanges
    pub record LeavesLast {L : Type 0} {l : disk.Ghosts L} (exchanges : List Exchange) (mid : ServerState) (last : Serving g) (files : FileStore D d × ClaimedFile E C e c)
        (number : LastBatch L l) : Type 0 where
      pub exchange : Exchange
      pub served : Serves g rules exchange mid (state_now last)
      pub leaves : If → LeavesAfter g rules (exchanges ++ exchange ∷ []) old last (LeaveNoted files number)

    -- An error stops a run, after these exchanges and in this state. Nothing changed since, or one more batch was served (`stopped`). Nothing but the
    -- answers of the exchanges was written, or the last batch was kept as well (`in_order`).
    pub record StopsAndLeaves {L : Type 0} {l : disk.Ghosts L} (files : FileStore D d × ClaimedFile E C e c) (number : LastBatch L l)
        (output output' : Option (List ℕ)) : Type 0 where
      pub exchanges : List Exchange
      pub mid : ServerState
      pub answered : InOrder (Serves g rules) exchanges old mid
      pub law : AreSavedRun (store_of {g = g}) reads_of rules exchanges old mid
      pub last : Serving g
      pub stopped : StopsBy (Serves g rules) mid (state_now last)
      pub leaves : If → LeavesAfterOrNow exchanges old mid last files number
      pub in_order : Appends output output' (flat_map bytes_out exchanges) ⊎ LeavesLast exchanges mid last files number

-- ---- runs over the files of a folder

-- `left` and `file` are what the files of the database and the data file held
module _ {D E C : Type 0} {d : disk.Ghosts D} {e : disk.Ghosts E} {c : claim.Ghosts C} (left : database.Image) (file : List ℕ) (files : FileStore D d × ClaimedFile E C e c) where
  -- the files held a store or had no table, and the disk of the database is clean at the end
  abbrev pub HeldAStore : Type 0
  HeldAStore = IsClean (view files.0) × (((kept : KeptStore) × Hold c left file kept) ⊎ IsVacant left)

  -- A run begins with what the files held, or with a new store if they had no table, and with this quota and this part of the entity tags. The
  -- store marks each directory that gains or loses a member. A new store is
  -- one whose data file had no byte, if the data file is honest. The tables that the files held are sealed under the key that the run has, which is the drawn
  -- one for a new store, and that of the claim, if it holds.
  pub record BeginsWith (start : StartOptions) {g : Ghosts (ClaimedFile E C e c) (List Piece)} (first : At g) : Type 0 where
    pub kept : (kept : KeptStore) → IsClean (view files.0) → Hold c left file kept → kept_at first ≡ kept
    pub new : IsClean (view files.0) → IsVacant left → kept_at first ≡ first_kept
    pub empty : IsClean (view files.0) → IsVacant left → honest_of first.store ≡ true → file ≡ []
    pub limit : HeldAStore → (memory_of first.store).limit ≡ option_map Some start.quota
    pub tags : (memory_of first.store).tag_part ≡ start.tag_part
    pub marks : (memory_of first.store).marks ≡ true
    pub key : ℕ
    pub sealed : (tables : Contents) → IsClean (view files.0) → Keeps left tables → IsSealed key tables
    pub keyed : IsClean (view files.0) → IsVacant left → key ≡ start.key
    pub claimed : IsKeyed c key

-- `number` is what is noted at the end, and `said` what the files of the number held at the start
module _ {D E L C : Type 0} {d : disk.Ghosts D} {e : disk.Ghosts E} {l : disk.Ghosts L} {c : claim.Ghosts C} (left : database.Image) (file : List ℕ) (files : FileStore D d × ClaimedFile E C e c)
    (said : database.Image) (number : LastBatch L l) where
  -- A run begins so, and notes the number under its key. Unless a loss is accepted, the last batch that the files held is not an earlier one than the files
  -- of the number said, and these named a number if a batch was kept, if their disks are clean at the end.
  pub record BeginsNumbered (start : StartOptions) {g : Ghosts (ClaimedFile E C e c) (List Piece)} (first : At g) : Type 0 where
    pub begins : BeginsWith left file files start first
    pub noted_under : key_of number ≡ begins.key
    pub up_to_date : start.accepts_loss ≡ false → HasCleanSlots number → IsNotOlder begins.key first.last said.log said.db
    pub numbered : start.accepts_loss ≡ false → HasCleanSlots number → (tables : Contents) → IsClean (view files.0) → Keeps left tables → IsNumbered begins.key first.last said

  module _ (g : Ghosts (ClaimedFile E C e c) (List Piece)) (rules : Rules) (start : StartOptions) where
    -- a run goes on from what the files held, and what a crash leaves of them then
    pub record GoesOn (input input' output output' : Option (List ℕ)) : Type 0 where
      pub first : At g
      pub begins : BeginsNumbered start first
      pub goes : RunsAndLeaves g rules (HeldAStore left file files) (state_from first) files number input input' output output'

    -- such a run, after which the log is not copied into the database file, or the number is not on the disk
    pub record GoesOnWithLog (input input' output output' : Option (List ℕ)) : Type 0 where
      pub first : At g
      pub begins : BeginsNumbered start first
      pub goes : RunsWithLog g rules (HeldAStore left file files) (state_from first) files number input input' output output'

    -- an error stops such a run
    pub record GoesOnAndStops (output output' : Option (List ℕ)) : Type 0 where
      pub first : At g
      pub begins : BeginsNumbered start first
      pub stops : StopsAndLeaves g rules (HeldAStore left file files) (state_from first) files number output output'
