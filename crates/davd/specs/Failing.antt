-- What a start that fails leaves of a folder.
use Rattle.std.specs.Prelude.{◌≡◌, ◌⊎◌, true, List, ℕ, Option, Some, IfSome}
use Rattle.dav_data.specs.declared.claim.Claim as claim
use Rattle.dav_data.specs.declared.claimed_file.ClaimedFile.{ClaimedFile}
use Rattle.dav_folder.specs.Failing.{is_clean_data, may_leave_data}
use Rattle.dav_folder.specs.Failing.{LeavesOnly as LeavesOnlyData}
use Rattle.dav_folder.specs.Opening.{AreOnlyRead}
use Rattle.dav_folder.specs.declared.failing.DataLeft.{DataLeft}
use Rattle.sqlite.specs.declared.file.Leftover.TheVariants as leftover
use Rattle.sqlite_disk.specs.Disk.{Only}
use Rattle.davd.specs.declared.folder.Unserved.{Unserved}
use Rattle.dav_folder.specs.Files.{KeptStore, Hold}
use Rattle.dav_folder.specs.declared.failing.Remains.{Remains}
use Rattle.dav_folder.specs.declared.opening.Opened.{Opened}
use Rattle.dav_pieces.specs.declared.piece.Piece.{Piece}
use Rattle.dav_rows_files.specs.Starting.{MayLeave, IsExempt}
use Rattle.sqlite.specs.Files.{IsCleanLeft, image_of}
use Rattle.sqlite.specs.Recovery as database
use Rattle.sqlite_disk.specs.declared.Disk as disk
use Rattle.sqlite_disk.specs.declared.Files.{Files}
use Rattle.sqlite_store.specs.declared.store.FileStore.{FileStore}
use Rattle.sqlite_trees.specs.declared.store.Store as store
use Rattle.dav_tree.specs.declared.medium.Medium.{Ghosts}
use Rattle.davd.specs.Folder.{FindsHeld}
use Rattle.dav_last.specs.Crashes.{LeavesOnly, StillNames}
use Rattle.sqlite_wal.specs.Files.{outcomes}
use Rattle.sqlite_wal.specs.Reads.{OnlyReadsBoth}

-- a crash leaves only what the files show
abbrev pub HasOnly : {D : Type 0} → disk.Ghosts D → Files D → Type 0
HasOnly g files = (image : database.Image) → outcomes g files.log files.db image → image ≡ image_of g files

-- a crash leaves this number in each file of the number, and nothing else
abbrev pub HaveNumber : {L : Type 0} → disk.Ghosts L → ℕ → ℕ → Files L → Type 0
HaveNumber l key number files = LeavesOnly l key number files.log × LeavesOnly l key number files.db

-- the files of the number stayed as they were, or one of them still names what it did, or this number under this key
abbrev pub KeepsOrNames : {L : Type 0} → disk.Ghosts L → ℕ → ℕ → Files L → Files L → Type 0
KeepsOrNames l key number old new = (new ≡ old) ⊎ StillNames l key number (old.log, old.db) (new.log, new.db)

-- The files of the number were only read. Or, before an upgrade, a number was then written: one of them still names what it did, or that number.
pub record KeepsNumber {L : Type 0} (l : disk.Ghosts L) (old new : Files L) : Type 0 where
  pub read : Files L
  pub reads : OnlyReadsBoth l (old.log, old.db) (read.log, read.db)
  pub still : (new ≡ read) ⊎ ((key : ℕ) × (number : ℕ) × StillNames l key number (read.log, read.db) (new.log, new.db))

-- `left` and `file` are what the files of the database and the data file held
module _ {D E C : Type 0} {d : disk.Ghosts D} {e : disk.Ghosts E} {c : claim.Ghosts C} (left : database.Image) (file : List ℕ) where
  -- If the disks did what their calls promise, whatever a crash leaves holds this store, but for two cases that SQLite's clauses do not exclude.
  abbrev pub StillHolds : KeptStore → Remains D E C d e c → Type 0
  StillHolds kept remains =
      IsCleanLeft remains.database → is_clean_data remains.data_file ≡ true → (now : database.Image) (contents : List ℕ) → MayLeave remains.database now
      → may_leave_data remains.data_file contents → ∥ Hold c now contents kept ∥₁ ⊎ IsExempt left remains.database

  -- so it is of each store that they held
  abbrev pub HoldsOn : Remains D E C d e c → Type 0
  HoldsOn remains = (kept : KeptStore) → Hold c left file kept → StillHolds kept remains

  -- whatever a crash leaves of the files is what they held, if the disk of the data file did what its calls promise
  pub record StaysAsHeld (remains : Remains D E C d e c) : Type 0 where
    pub database : (now : database.Image) → MayLeave remains.database now → now ≡ left
    pub data_file : is_clean_data remains.data_file ≡ true → (contents : List ℕ) → may_leave_data remains.data_file contents → contents ≡ file

  -- there are files, and so it is of them
  abbrev pub StaysAsHeldLeft : Option (Remains D E C d e c) → Type 0
  StaysAsHeldLeft remains = (rest : Remains D E C d e c) × (remains ≡ Some rest) × StaysAsHeld rest

  -- there are files, and they hold on
  abbrev pub HoldsOnLeft : Option (Remains D E C d e c) → Type 0
  HoldsOnLeft remains = (rest : Remains D E C d e c) × (remains ≡ Some rest) × HoldsOn rest

  -- so it is if there are files
  abbrev pub HoldsOnIfOpened : Option (Remains D E C d e c) → Type 0
  HoldsOnIfOpened remains = IfSome remains HoldsOn

-- ---- a folder that is refused for what its files hold

-- The files of the database were only read. A crash leaves of the data file only what its disk showed, if that was so before.
pub record AreOnlyJudged {D E F C : Type 0} (e : disk.Ghosts E) {d : disk.Ghosts D} {f : disk.Ghosts F} {c : claim.Ghosts C} (files : Files D) (file : E) (rest : Option (Remains D F C d f c)) : Type 0 where
  pub database : Files D
  pub data_file : DataLeft F C f c
  pub is : rest ≡ Some (record { database = leftover.Files database; data_file = data_file })
  pub only : AreOnlyRead d files database
  pub unharmed : Only (e.seen file) (e.may_leave file) → LeavesOnlyData (e.seen file) data_file

-- there are the files of the number, and whatever a crash leaves of them is what they held
abbrev pub StaysAsSaid : {L : Type 0} → disk.Ghosts L → database.Image → Option (Files L) → Type 0
StaysAsSaid {L} l said last = (files : Files L) × (last ≡ Some files) × ((image : database.Image) → outcomes l files.log files.db image → image ≡ said)

-- whatever a crash leaves of the files of the folder is what they held
pub record IsUntouched {D E L C : Type 0} (l : disk.Ghosts L) {d : disk.Ghosts D} {e : disk.Ghosts E} {c : claim.Ghosts C} (left : database.Image) (file : List ℕ) (said : database.Image) (unserved : Unserved D E L C d e c) : Type 0 where
  pub files : StaysAsHeldLeft left file unserved.start.left
  pub number : StaysAsSaid l said unserved.last

-- ---- a store that was found

-- if a start has found the store that the files held, whatever a crash leaves of these holds it
abbrev pub HoldsFound : {D E C : Type 0} {d : disk.Ghosts D} {e : disk.Ghosts E} {c : claim.Ghosts C} {rows : store.Ghosts (FileStore D d)} {g : Ghosts (ClaimedFile E C e c) (List Piece)}
    → Opened (FileStore D d) (ClaimedFile E C e c) (List Piece) rows g → Remains D E C d e c → Type 0
HoldsFound opened remains = (left : database.Image) (file : List ℕ) (limit : Option (Option ℕ)) → FindsHeld left file limit opened → HoldsOn left file remains

-- so it is of files that are given up
abbrev pub HoldsFoundLeft : {D E C : Type 0} {d : disk.Ghosts D} {e : disk.Ghosts E} {c : claim.Ghosts C} {rows : store.Ghosts (FileStore D d)} {g : Ghosts (ClaimedFile E C e c) (List Piece)}
    → Opened (FileStore D d) (ClaimedFile E C e c) (List Piece) rows g → Option (Remains D E C d e c) → Type 0
HoldsFoundLeft opened remains = IfSome remains (HoldsFound opened)
