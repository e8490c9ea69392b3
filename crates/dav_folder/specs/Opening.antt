-- What is opened of a folder.
use Rattle.std.specs.Prelude.{◌≡◌, ◌⊎◌, ◌≤◌, ℕ, false, List, length}
use Rattle.std.specs.declared.io.Error.{Error}
use Rattle.sqlite_disk.specs.Disk.{MoreFaults}
use Rattle.sqlite_disk.specs.declared.Disk as disk
use Rattle.sqlite_disk.specs.declared.Files.{Files}
use Rattle.sqlite_wal.specs.Reads.{OnlyReads}
use Rattle.dav_data.specs.declared.claim.Claim as claim
use Rattle.dav_keep.specs.Images.{Image}
use Rattle.dav_keep.specs.Loading.{IsWholeImage}
use Rattle.dav_pieces.specs.declared.piece.Piece.{Piece}
use Rattle.dav_server.specs.Snapshots.{snapshot_at}
use Rattle.dav_pieces.specs.Pieces.{bytes_of}
use Rattle.dav_tree.specs.Kept.{resources_by}
use Rattle.dav_tree.specs.Memory.{IsSound}
use Rattle.dav_tree.specs.TreeFs.{before_of}
use Rattle.dav_tree.specs.declared.medium.Medium.{Ghosts}
use Rattle.sqlite_trees.specs.declared.store.Store as store
use Rattle.dav_folder.specs.Claims.{IsClaimed}
use Rattle.dav_folder.specs.Lasting.{At, Lasts, HasCleanDatabase}
use Rattle.dav_folder.specs.declared.error.OpenError.{OpenError}
use Rattle.dav_folder.specs.declared.error.OpenError.TheVariants.{Data, Memory}
use Rattle.dav_folder.specs.declared.opening.Opened.{Opened}

module _ {S M : Type 0} {rows : store.Ghosts S} {g : Ghosts M (List Piece)} where
  -- the store and the locks, the time and the number from which a server goes on
  abbrev pub opened_at : Opened S M (List Piece) rows g → At g
  opened_at opened = snapshot_at opened.store opened.locks opened.now opened.last

  -- an image is opened: it is that of the store and the locks, and it is kept, with the key of the claim
  pub record Opens {C : Type 0} (c : claim.Ghosts C) (image : Image) (opened : Opened S M (List Piece) rows g) : Type 0 where
    pub lasts : Lasts c opened.folder (before_of opened.store) (opened_at opened)
    pub is : lasts.image ≡ image

  -- if the disk of the database is clean, an image is opened
  abbrev pub OpensImage : {C : Type 0} → claim.Ghosts C → Image → Opened S M (List Piece) rows g → Type 0
  OpensImage c image opened = HasCleanDatabase opened.folder → Opens c image opened

-- the log and the database file were only read
abbrev pub AreOnlyRead : {D : Type 0} → disk.Ghosts D → Files D → Files D → Type 0
AreOnlyRead g old new = OnlyReads g old.log new.log × OnlyReads g old.db new.db

-- ---- when a start fails

-- the data file has the blocks of an image's files, as claimed, and the resources with these bytes are sound
pub record HasFiles {C : Type 0} (c : claim.Ghosts C) (file : List ℕ) (image : Image) (whole : IsWholeImage image) : Type 0 where
  pub within : whole.end ≤ length file
  pub claimed : IsClaimed c file image
  pub sound : IsSound (resources_by (bytes_of file) image.tree)

-- a call of the disk failed, or it has not done what its calls promise
abbrev pub HasDiskFailed : {D : Type 0} → disk.Ghosts D → D → Type 0
HasDiskFailed {D} g old = (new : D) × ((g.is_clean new ≡ false) ⊎ MoreFaults (g.faults old) (g.faults new))

-- memory ran out, or the disk of the data file failed
abbrev pub IsMemoryOrDisk : {D : Type 0} → disk.Ghosts D → D → OpenError → Type 0
IsMemoryOrDisk g old e = (e ≡ Memory) ⊎ ((cause : Error) × (e ≡ Data cause) × HasDiskFailed g old)
