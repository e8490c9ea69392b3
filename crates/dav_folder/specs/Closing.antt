-- What a crash leaves of the files of a folder, given up at the end of a run.
use Rattle.std.specs.Prelude.{◌≡◌, List}
use Rattle.sqlite_disk.specs.declared.Disk as disk
use Rattle.sqlite_store.specs.declared.store.FileStore.{FileStore}
use Rattle.sqlite_trees.specs.declared.store.Store as store
use Rattle.dav_data.specs.declared.claim.Claim as claim
use Rattle.dav_data.specs.declared.claimed_file.ClaimedFile.{ClaimedFile}
use Rattle.dav_pieces.specs.declared.piece.Piece.{Piece}
use Rattle.dav_tree.specs.TreeFs.{before_of}
use Rattle.dav_tree.specs.declared.medium.Medium.{Ghosts}
use Rattle.dav_tree.specs.declared.tree_fs.TreeFs.{TreeFs}
use Rattle.dav_folder.specs.Files.{Leave, LeaveEither, LeaveWhole, kept_at}
use Rattle.dav_folder.specs.Folders.{batch_of}
use Rattle.dav_folder.specs.Lasting.{At, LastsAlone, LastsEither}
use Rattle.dav_folder.specs.declared.folder.Folder.{Folder}

module _ {D E C : Type 0} {d : disk.Ghosts D} {e : disk.Ghosts E} {c : claim.Ghosts C} {rows : store.Ghosts (FileStore D d)}
    {g : Ghosts (ClaimedFile E C e c) (List Piece)} where
  -- what lasts alone is what a crash leaves of the files
  abbrev pub LeavesAlone : Folder (FileStore D d) rows → TreeFs (ClaimedFile E C e c) (List Piece) g → FileStore D d × ClaimedFile E C e c → Type 0
  LeavesAlone folder store files = (snapshot : At g) → LastsAlone c folder (before_of store) snapshot → Leave files (kept_at snapshot)

  -- the same, and the database file is whole without its log
  abbrev pub LeavesWhole : Folder (FileStore D d) rows → TreeFs (ClaimedFile E C e c) (List Piece) g → FileStore D d × ClaimedFile E C e c → Type 0
  LeavesWhole folder store files = (snapshot : At g) → LastsAlone c folder (before_of store) snapshot → LeaveWhole files (kept_at snapshot)

  -- of two snapshots of which one lasts, a crash leaves one that is not of an earlier batch than the folder's last one, if the second is that of the store
  abbrev pub LeavesOneOf : Folder (FileStore D d) rows → TreeFs (ClaimedFile E C e c) (List Piece) g → FileStore D d × ClaimedFile E C e c → Type 0
  LeavesOneOf folder store files =
      (one other : At g) → LastsEither c folder (before_of store) one other → other.store ≡ store → LeaveEither files (batch_of folder) (kept_at one) (kept_at other)
