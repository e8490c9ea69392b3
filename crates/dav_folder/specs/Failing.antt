-- What a start that fails leaves of the data file of a folder.
use Rattle.std.specs.Prelude.{◌≡◌, Bool, true, List, ℕ, Some}
use Rattle.dav_data.specs.Claimed.{file_of}
use Rattle.dav_data.specs.Data.{is_honest, may_leave}
use Rattle.dav_data.specs.declared.claim.Claim as claim
use Rattle.dav_pieces.specs.declared.piece.Piece.{Piece}
use Rattle.dav_tree.specs.TreeFs.{honest_of, settled_of}
use Rattle.dav_tree.specs.declared.medium.Medium.{Ghosts}
use Rattle.sqlite_disk.specs.Disk.{Only}
use Rattle.sqlite_disk.specs.declared.Disk as disk
use Rattle.dav_folder.specs.declared.failing.DataLeft.{DataLeft}
use Rattle.dav_folder.specs.declared.failing.DataLeft.TheVariants as left
use Rattle.dav_folder.specs.declared.reading.Found.{Found}

module _ {E C : Type 0} {e : disk.Ghosts E} {c : claim.Ghosts C} where
  -- no wrong answer of the disk was taken as true
  abbrev pub is_clean_data : DataLeft E C e c → Bool
  is_clean_data (left.Disk disk) = e.is_clean disk
  is_clean_data (left.File file) = is_honest (file_of file)

  -- what a crash may leave of the data file
  abbrev pub may_leave_data : DataLeft E C e c → List ℕ → Type 0
  may_leave_data (left.Disk disk) = e.may_leave disk
  may_leave_data (left.File file) = may_leave (file_of file)

  -- if no wrong answer was taken as true, a crash leaves these contents and no others
  abbrev pub LeavesOnly : List ℕ → DataLeft E C e c → Type 0
  LeavesOnly contents rest = is_clean_data rest ≡ true → Only contents (may_leave_data rest)

  -- a crash leaves only what the disk showed, if that was so before
  abbrev pub LeavesAsBefore : E → DataLeft E C e c → Type 0
  LeavesAsBefore old rest = Only (e.seen old) (e.may_leave old) → LeavesOnly (e.seen old) rest

-- if the data file from which this was read is honest, a crash leaves these contents of it and no others
abbrev pub IsOnlyRead : {M : Type 0} {g : Ghosts M (List Piece)} → List ℕ → Found M (List Piece) g → Type 0
IsOnlyRead contents found = honest_of found.store ≡ true → settled_of found.store ≡ Some contents
