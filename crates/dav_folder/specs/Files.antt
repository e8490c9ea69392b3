-- What the files of a folder hold, and what a crash leaves there: this project's own choice.
use Rattle.std.specs.Prelude.{◌≡◌, ◌⊎◌, ◌≤◌, ℕ, List, [], length, map}
use Rattle.sqlite.specs.Recovery as database
use Rattle.sqlite_disk.specs.declared.Disk as disk
use Rattle.sqlite_store.specs.FileStore.{view, state}
use Rattle.sqlite_store.specs.declared.store.FileStore.{FileStore}
use Rattle.sqlite_trees.specs.View.{IsClean}
use Rattle.dav_cells.specs.Locks.{kept_lock}
use Rattle.dav_data.specs.Claimed.{file_of}
use Rattle.dav_data.specs.Data.{may_leave}
use Rattle.dav_data.specs.declared.claim.Claim as claim
use Rattle.dav_data.specs.declared.claimed_file.ClaimedFile.{ClaimedFile}
use Rattle.dav_keep.specs.Images.{Image, StandForImage}
use Rattle.dav_keep.specs.Loading.{IsWholeImage}
use Rattle.dav_memls.specs.MemLs.{list_of}
use Rattle.dav_pieces.specs.Pieces.{bytes_of}
use Rattle.dav_pieces.specs.declared.piece.Piece.{Piece}
use Rattle.dav_rows.specs.Contents.{Contents}
use Rattle.dav_rows.specs.Failing.{HasUtf8}
use Rattle.dav_rows_files.specs.Starting.{Keeps}
use Rattle.dav_store.specs.declared.lock.DavLock.{DavLock}
use Rattle.dav_tree.specs.Kept.{resources_by}
use Rattle.dav_tree.specs.Memory.{Resources, IsSound}
use Rattle.dav_tree.specs.TreeFs.{memory_of}
use Rattle.dav_tree.specs.declared.medium.Medium.{Ghosts}
use Rattle.dav_folder.specs.Claims.{IsClaimed}
use Rattle.dav_folder.specs.Lasting.{At}

-- What is kept of a store and its locks: the resources with their bytes and properties, how many changes there were, the locks (the oldest first, and the
-- path of the root with its trailing slash), and the time and the number of the last batch that changed something.
pub record KeptStore : Type 0 where
  pub resources : Resources
  pub counter : ℕ
  pub locks : List DavLock
  pub time : ℕ
  pub batch : ℕ

-- what is kept of a snapshot
abbrev pub kept_at : {M : Type 0} {g : Ghosts M (List Piece)} → At g → KeptStore
kept_at snapshot = record {
  resources = (memory_of snapshot.store).resources;
  counter = (memory_of snapshot.store).version;
  locks = map kept_lock (list_of snapshot.locks);
  time = snapshot.now;
  batch = snapshot.last;
}

module _ {C : Type 0} (c : claim.Ghosts C) where
  -- The files of a database and a data file hold a store: the tables are those of an image of it, and the bytes of its files are in the data file. If the
  -- claim holds, their blocks have their digests there, under the key of the image.
  pub record Hold (left : database.Image) (file : List ℕ) (kept : KeptStore) : Type 0 where
    pub tables : Contents
    pub keeps : Keeps left tables
    pub image : Image
    pub stand : StandForImage tables image
    pub whole : IsWholeImage image
    pub within : whole.end ≤ length file
    pub bytes : resources_by (bytes_of file) image.tree ≡ kept.resources
    pub claimed : IsClaimed c file image
    pub sound : IsSound kept.resources
    pub counter : image.numbers.counter ≡ kept.counter
    pub locks_are : map kept_lock image.locks ≡ kept.locks
    pub time : image.numbers.time ≡ kept.time
    pub batch_is : image.numbers.batch ≡ kept.batch

  -- the same, and so do the database file without its log and the data file
  pub record HoldWhole (left : database.Image) (file : List ℕ) (kept : KeptStore) : Type 0 where
    pub both : Hold left file kept
    pub alone : Hold (record left { log = [] }) file kept

  -- they hold it, and it is not of an earlier batch than this one
  abbrev pub HoldFrom : ℕ → database.Image → List ℕ → KeptStore → Type 0
  HoldFrom batch left file kept = Hold left file kept × (batch ≤ kept.batch)

  -- Each text in the tables of a store that was kept is UTF-8.
  abbrev pub HoldsUtf8 : Type 0
  HoldsUtf8 = (left : database.Image) (file : List ℕ) (kept : KeptStore) (hold : Hold left file kept) → HasUtf8 hold.tables

-- ---- what a crash leaves

module _ {D E C : Type 0} {g : disk.Ghosts D} {h : disk.Ghosts E} {c : claim.Ghosts C} (files : FileStore D g × ClaimedFile E C h c) where
  -- if the database's disk is clean, this holds of whatever a crash leaves of its files and of the data file
  abbrev LeaveSuch : (database.Image → List ℕ → Type 0) → Type 0
  LeaveSuch Such = IsClean (view files.0) → (left : database.Image) (file : List ℕ) → (state files.0).may_leave left → may_leave (file_of files.1) file → ∥ Such left file ∥₁

  -- whatever a crash leaves holds this store
  abbrev pub Leave : KeptStore → Type 0
  Leave kept = LeaveSuch (λ left file. Hold c left file kept)

  -- the same, without the log too
  abbrev pub LeaveWhole : KeptStore → Type 0
  LeaveWhole kept = LeaveSuch (λ left file. HoldWhole c left file kept)

  -- whatever a crash leaves holds one of these stores, and not one of an earlier batch than this
  abbrev pub LeaveEither : ℕ → KeptStore → KeptStore → Type 0
  LeaveEither batch one other = LeaveSuch (λ left file. HoldFrom c batch left file one ⊎ HoldFrom c batch left file other)
