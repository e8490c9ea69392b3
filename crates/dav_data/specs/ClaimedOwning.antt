-- What the store has to know of the bodies of a `ClaimedFile`.
use Rattle.std.specs.Prelude.{◌≡◌, ◌<◌, ◌^◌, true, List, length}
use Rattle.std.proofs.lemmas.Bool.{and_parts, and_from}
use Rattle.sqlite_disk.specs.declared.Disk.{Ghosts}
use Rattle.dav_pieces.specs.declared.piece.Piece.{Piece}
use Rattle.dav_data.specs.declared.claim.Claim as claim
use Rattle.dav_data.specs.declared.claimed_file.ClaimedFile.{ClaimedFile}
use Rattle.dav_data.specs.Data.{is_held, is_synced}
use Rattle.dav_data.specs.Owning.{synced_held, held_small}
use Rattle.dav_data.specs.Claimed.{bytes_in, meets_claim, is_kept, is_safe}

module _ {D C : Type 0} {g : Ghosts D} {c : claim.Ghosts C} (it : ClaimedFile D C g c) (body : List Piece) where
  -- a body that is safe is held
  pub safe_kept : is_safe it body ≡ true → is_kept it body ≡ true
  safe_kept safe =
      let both = and_parts (is_synced it.file body) (meets_claim it body) safe in
      and_from _ _ (synced_held it.file body both.0) both.1

  -- a body that it holds has fewer than 2^63 bytes
  pub kept_small : is_kept it body ≡ true → length (bytes_in it body) < 2 ^ 63
  kept_small kept = held_small it.file body (and_parts (is_held it.file body) (meets_claim it body) kept).0
