-- What contracts see of a `ClaimedFile`: this project's own choice.
use Rattle.std.specs.Prelude.{◌≡◌, ◌≤◌, ℕ, Bool, true, not, ◌&&◌, ◌||◌, List, length}
use Rattle.sqlite_disk.specs.declared.Disk.{Ghosts}
use Rattle.dav_pieces.specs.declared.piece.Piece.{Piece}
use Rattle.dav_data.specs.declared.claim.Claim as claim
use Rattle.dav_data.specs.declared.claimed_file.ClaimedFile.{ClaimedFile}
use Rattle.dav_data.specs.declared.data_file.DataFile.{DataFile}
use Rattle.dav_data.specs.Digests.{are_right}
use Rattle.dav_data.specs.Data.{data_of, body_bytes, is_below, is_held, is_synced, is_marked}

module _ {D C : Type 0} {g : Ghosts D} {c : claim.Ghosts C} where
  abbrev pub file_of : ClaimedFile D C g c → DataFile D g
  file_of it = it.file

  -- the contents of the data file
  abbrev pub contents_of : ClaimedFile D C g c → List ℕ
  contents_of it = data_of it.file

  -- the bytes of a body
  abbrev pub bytes_in : ClaimedFile D C g c → List Piece → List ℕ
  bytes_in it body = body_bytes it.file body

  -- the blocks of a body have their digests under the key of the claim, if the claim holds
  abbrev pub meets_claim : ClaimedFile D C g c → List Piece → Bool
  meets_claim it body = not c.holds || are_right c.key (contents_of it) body

  -- the file holds a body, and this is so
  abbrev pub is_kept : ClaimedFile D C g c → List Piece → Bool
  is_kept it body = is_held it.file body && meets_claim it body

  -- a crash leaves the bytes of a body as they are, and this is so
  abbrev pub is_safe : ClaimedFile D C g c → List Piece → Bool
  is_safe it body = is_synced it.file body && meets_claim it body

  -- a sweep that ends now does not give up a body, and this is so
  abbrev pub is_spared : ClaimedFile D C g c → List Piece → Bool
  is_spared it body = is_marked it.file body && meets_claim it body

  -- Each body below a place is safe, if its blocks had their digests in the file that was opened, or nothing is claimed. The file has the place.
  abbrev pub OpensRight : ℕ → List ℕ → ClaimedFile D C g c → Type 0
  OpensRight end file it =
      (body : List Piece) → is_below end body ≡ true → (c.holds ≡ true → (end ≤ length file) × (are_right c.key file body ≡ true)) → is_safe it body ≡ true

  -- contents in which the blocks of each safe body have their digests under the key of the claim
  abbrev pub LeavesRight : ClaimedFile D C g c → List ℕ → Type 0
  LeavesRight it left = (body : List Piece) → is_safe it body ≡ true → are_right c.key left body ≡ true

  -- the blocks of each body that the file holds have their digests under the key of the claim
  abbrev pub AreRight : ClaimedFile D C g c → Type 0
  AreRight it = (body : List Piece) → is_kept it body ≡ true → are_right c.key (contents_of it) body ≡ true
