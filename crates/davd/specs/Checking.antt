-- What a check of a folder has seen if it ends without an error.
use Rattle.std.specs.Prelude.{◌≡◌, ◌≢◌, ℕ, List, None}
use Rattle.dav_check.specs.Checking.{IsFile}
use Rattle.dav_check.specs.Reading.{IsRead}
use Rattle.dav_folder.specs.Reading.{ReadsImage}
use Rattle.dav_folder.specs.declared.reading.Found.{Found}
use Rattle.dav_keep.specs.Images.{Image, StandForImage}
use Rattle.dav_keep.specs.Loading.{IsWholeImage}
use Rattle.dav_key.specs.Key.{Key}
use Rattle.dav_pieces.specs.declared.piece.Piece.{Piece}
use Rattle.dav_rows.specs.Contents.{Contents}
use Rattle.dav_rows.specs.declared.opening.Version.TheVariants.{New}
use Rattle.dav_rows_files.specs.Starting.{Keeps}
use Rattle.dav_seal.specs.Seals.{IsSealed}
use Rattle.dav_tree.specs.TreeFs.{store_of, reads_of}
use Rattle.dav_tree.specs.declared.medium.Medium.{Ghosts}
use Rattle.sqlite.specs.Recovery as files
use Rattle.sqlite_disk.specs.declared.Disk as disks
use Rattle.sqlite_disk.specs.declared.Files.{Files}
use Rattle.sqlite_wal.specs.Reads.{IsClean, AreClean}
use Rattle.davd.specs.Folder.{IsNotOlder, FoundNumbered}

-- `left` is what the files of the database held, `file` what the data file held, and `said` what those of the last number held
module _ {D E L M : Type 0} (d : disks.Ghosts D) (e : disks.Ghosts E) (l : disks.Ghosts L) (g : Ghosts M (List Piece)) (left : files.Image) (file : List ℕ) (said : files.Image) where
  -- A store was read of the files: all rows, which have their seal, and each byte of each file. It is not older than the last number says, and there is such a number. These are the
  -- files after it, of which that of the data file showed these bytes.
  pub record IsVerified (of : Files D) (last : Files L) : Type 0 where
    pub disk : E
    pub shown : List ℕ
    pub found : Found M (List Piece) g
    pub same : IsClean e disk → shown ≡ file
    pub store : found.version ≢ New
    pub rows : (image : Image) (tables : Contents) → Keeps left tables → StandForImage tables image → (whole : IsWholeImage image) → AreClean d of.log of.db → ReadsImage shown None image whole tables found
    pub sealed : (tables : Contents) → Keeps left tables → AreClean d of.log of.db → IsSealed found.key tables
    pub read : (key : Key) → IsFile (store_of found.store).contents key → IsRead (store_of {g = g}) (reads_of {g = g}) (store_of found.store).contents key
    pub up_to_date : AreClean l last.log last.db → IsNotOlder found.key found.last said.log said.db
    pub numbered : AreClean d of.log of.db → AreClean l last.log last.db → FoundNumbered left said found

  -- the same, over files that nobody has any more
  pub record ChecksFolder : Type 0 where
    pub of : Files D
    pub last : Files L
    pub verified : IsVerified of last
