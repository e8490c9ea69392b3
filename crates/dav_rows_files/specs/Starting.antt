-- What the files hold.
use Rattle.std.specs.Prelude.{◌≡◌, ◌⊎◌, ◌<◌, false, List, [], Any, IsTrue}
use Rattle.sqlite_disk.specs.declared.Disk.{Ghosts}
use Rattle.sqlite_disk.specs.declared.Files.{Files}
use Rattle.sqlite_wal.specs.Files.{outcomes}
use Rattle.sqlite_pool.specs.Stored.{is_summed}
use Rattle.sqlite_store.specs.declared.store.FileStore.{FileStore}
use Rattle.sqlite_store.specs.FileStore as store
use Rattle.sqlite_store.specs.Unopened.{state_of}
use Rattle.sqlite_trees.specs.View.{IsClean}
use Rattle.sqlite_trees.specs.Objects.{catalog_tree}
use Rattle.sqlite_catalog.specs.Listing.{IsSound}
use Rattle.sqlite.specs.Recovery.{Image}
use Rattle.sqlite.specs.Files.{HoldsDatabase, IsNothing, AreFoundIn, IsCleanLeft, IsFullLeft, faults_left, image_of}
use Rattle.sqlite.specs.Tree.{Trees}
use Rattle.sqlite.specs.State.{State, HasCleanDisk, is_disk_error}
use Rattle.sqlite.specs.declared.file.Leftover.{Leftover}
use Rattle.sqlite.specs.declared.file.Leftover.TheVariants as left
use Rattle.sqlite.specs.declared.error.ErrorCode.TheVariants.{DiskFull, TooBig}
use Rattle.sqlite.specs.declared.error.Error.{Error}
use Rattle.sqlite.specs.declared.error.Error.TheVariants.{SqliteFailure}
use Rattle.dav_rows.specs.declared.opening.StartError.{StartError}
use Rattle.dav_rows.specs.declared.opening.StartError.TheVariants.{Foreign, Sqlite}
use Rattle.dav_rows.specs.Contents.{Contents, Holds}
use Rattle.dav_rows.specs.Saving.{IsAt}
use Rattle.dav_rows.specs.Tables.{rows_schema, older_schema}
use Rattle.dav_rows.specs.Upgrading.{HoldsOlder}
use Rattle.dav_rows.specs.Failing.{IsOutOfMemory, HasUtf8, PutsTooLong}
use Rattle.dav_rows.specs.declared.change.Change.{Change}

-- the files hold a database whose tables stand for the maps
pub record Keeps (image : Image) (m : Contents) : Type 0 where
  pub db : Trees
  pub database : HoldsDatabase image db
  pub holds : Holds db m

-- the files hold a database with the tables of version 1, which stand for the maps with no note
pub record KeepsOlder (image : Image) (m : Contents) : Type 0 where
  pub db : Trees
  pub database : HoldsDatabase image db
  pub sound : IsSound older_schema db
  pub holds : HoldsOlder db m

abbrev pub KeepsEither : Image → Contents → Contents → Type 0
KeepsEither image m n = Keeps image m ⊎ Keeps image n

-- an open finds no table, index or view in the files
abbrev pub IsVacant : Image → Type 0
IsVacant image = (db : Trees) → AreFoundIn image db → db catalog_tree ≡ []

-- the files are new, or hold a database with no table, index or view
abbrev pub IsUnused : Image → Type 0
IsUnused image = (IsNothing image × IsVacant image) ⊎ ((db : Trees) × HoldsDatabase image db × (db catalog_tree ≡ []))

-- an open finds no table, or those of version 1 or the current ones, and nothing else
abbrev pub HoldsNoneOrOurs : Image → Type 0
HoldsNoneOrOurs image = IsVacant image ⊎ ((db : Trees) × AreFoundIn image db × (IsSound older_schema db ⊎ IsSound rows_schema db))

-- ---- what a start finds

-- the connection begins at the maps that the files keep
abbrev pub BeginsAt : Image → State → Type 0
BeginsAt image s = HasCleanDisk s → (m : Contents) → Keeps image m → IsAt s m

-- where the files had no table, it begins at these maps
abbrev pub BeginsFirst : Image → State → Contents → Type 0
BeginsFirst image s m = HasCleanDisk s → IsVacant image → IsAt s m

-- where the files had the tables of version 1, it begins at what `f` makes of their maps
abbrev pub BeginsUpgraded : Image → State → (Contents → Contents) → Type 0
BeginsUpgraded image s f = HasCleanDisk s → (m : Contents) → KeepsOlder image m → IsAt s (f m)

-- ---- how a start fails

module _ {D : Type 0} {g : Ghosts D} where
  -- the disk reported a fault after the files were opened, and the error is that of a fault
  abbrev pub IsFaultLeft : Leftover D g → Error → Type 0
  IsFaultLeft left e = IsTrue (is_disk_error e) × (0 < faults_left left)

  -- Memory ran out, the disk reported a fault, or a file is as long as SQLite allows.
  abbrev pub IsStopped : Leftover D g → StartError → Type 0
  IsStopped left Foreign = ⊥
  IsStopped left (Sqlite e) = IsOutOfMemory e ⊎ (IsFaultLeft left e ⊎ ((e ≡ SqliteFailure DiskFull) × IsFullLeft left))

  -- the same causes, or a row of the changes is too long
  abbrev pub IsStoppedFirst : Leftover D g → List Change → StartError → Type 0
  IsStoppedFirst left changes Foreign = ⊥
  IsStoppedFirst left changes (Sqlite e) = IsStopped left (Sqlite e) ⊎ ((e ≡ SqliteFailure TooBig) × Any PutsTooLong changes)

  -- Where the files keep maps whose texts are UTF-8, and the disk has returned what was written, nothing else stops a start.
  abbrev pub FailsToStart : Image → StartError × Leftover D g → Type 0
  FailsToStart image e = IsCleanLeft e.1 → (m : Contents) → Keeps image m → HasUtf8 m → IsStopped e.1 e.0

  -- The same, where the files are unused.
  abbrev pub FailsToStartFirst : Image → List Change → StartError × Leftover D g → Type 0
  FailsToStartFirst image changes e = IsCleanLeft e.1 → IsUnused image → IsStoppedFirst e.1 changes e.0

-- ---- what a start that fails leaves

-- the files hold a database whose pages end in the sums of SQLite's cksumvfs
abbrev pub HasSums : Image → Type 0
HasSums image = (db : Trees) × (held : HoldsDatabase image db) × IsTrue (is_summed held.0)

module _ {D : Type 0} {g : Ghosts D} where
  -- what a crash may leave of what is left of the files
  abbrev pub MayLeave : Leftover D g → Image → Type 0
  MayLeave (left.Files files) image = outcomes g files.log files.db image
  MayLeave (left.Unopened files) image = (state_of files).may_leave image
  MayLeave (left.Store it) image = (store.state it).may_leave image

  -- Two cases are exempt, since SQLite's clauses do not exclude them: the open took pages that end in sums for pages that do not, or it stopped in a
  -- store that does not number its tables.
  abbrev pub IsExempt : Image → Leftover D g → Type 0
  IsExempt image (left.Files files) = ⊥
  IsExempt image (left.Unopened files) = HasSums image × (is_summed (state_of files).page_size ≡ false)
  IsExempt image (left.Store it) = (store.view it).is_numbered ≡ false

  -- If the disks did what their calls promise, whatever a crash leaves it might have left before the start, or `P` holds of it.
  abbrev pub LeavesOldOr : Files D → (Image → Type 0) → Leftover D g → Type 0
  LeavesOldOr files P rest =
      IsCleanLeft rest → (image : Image) → MayLeave rest image → outcomes g files.log files.db image ⊎ (∥ P image ∥₁ ⊎ IsExempt (image_of g files) rest)

  -- Files that keep the tables of a store keep the same maps.
  abbrev pub FailsUnharmed : Files D → Leftover D g → Type 0
  FailsUnharmed files rest = (m : Contents) → Keeps (image_of g files) m → LeavesOldOr files (λ image. Keeps image m) rest

  -- Files with no table have none, or have new tables with these maps.
  abbrev pub FailsUnharmedFirst : Files D → Contents → Leftover D g → Type 0
  FailsUnharmedFirst files first rest = IsUnused (image_of g files) → LeavesOldOr files (λ image. IsUnused image ⊎ Keeps image first) rest

  -- Files with the tables of version 1 keep these, or what `f` makes of their maps.
  abbrev pub FailsUnharmedOlder : Files D → (Contents → Contents) → Leftover D g → Type 0
  FailsUnharmedOlder files f rest =
      (m : Contents) → KeepsOlder (image_of g files) m → LeavesOldOr files (λ image. KeepsOlder image m ⊎ Keeps image (f m)) rest

-- ---- what the files keep after a run

module _ {D : Type 0} {g : Ghosts D} where
  -- whatever files a crash leaves hold a database that a crash of the connection may leave
  abbrev pub LeavesDatabases : State → FileStore D g → Type 0
  LeavesDatabases s last =
      IsClean (store.view last) → (left : Image) → (store.state last).may_leave left → ∥ ((db : Trees) × HoldsDatabase left db × s.may_leave db) ∥₁

  -- whatever trees the files stand for after a crash, a crash of the connection may leave them
  abbrev pub LeavesNoOther : State → FileStore D g → Type 0
  LeavesNoOther s last = IsClean (store.view last) → (db : Trees) → store.recovers last db → s.may_leave db

  -- whatever files a crash leaves hold a database that a crash of the connection may leave, and so does the database file without its log
  abbrev pub LeavesWhole : State → FileStore D g → Type 0
  LeavesWhole s last =
      IsClean (store.view last) → (left : Image) → (store.state last).may_leave left
      → ∥ ((db : Trees) × HoldsDatabase left db × HoldsDatabase (record left { log = [] }) db × s.may_leave db) ∥₁

  -- whatever a crash leaves keeps the old maps, or what `f` makes of them
  abbrev pub NextKeepsEither : State → FileStore D g → (Contents → Contents) → Type 0
  NextKeepsEither s last f = IsClean (store.view last) → (m : Contents) → IsAt s m → (left : Image) → (store.state last).may_leave left → ∥ KeepsEither left m (f m) ∥₁

  -- whatever a crash leaves keeps what `f` makes of the old maps
  abbrev pub NextKeeps : State → FileStore D g → (Contents → Contents) → Type 0
  NextKeeps s last f = IsClean (store.view last) → (m : Contents) → IsAt s m → (left : Image) → (store.state last).may_leave left → ∥ Keeps left (f m) ∥₁

  -- The same, where the files keep the tables of version 1.
  abbrev pub FailsToStartOlder : Image → List Change → StartError × Leftover D g → Type 0
  FailsToStartOlder image changes e = IsCleanLeft e.1 → (m : Contents) → KeepsOlder image m → IsStoppedFirst e.1 changes e.0
