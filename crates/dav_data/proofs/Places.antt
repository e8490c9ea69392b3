-- Where safe bodies end.
use Rattle.std.proofs.Common.{◌≡◌, ℕ, ◌+◌, ◌≤◌, true, leb, List, refl, arith}
use Rattle.std.proofs.lemmas.Bool.{and_parts, and_from, leb-true, le-leb}
use Rattle.sqlite_disk.specs.declared.Disk.{Ghosts}
use Rattle.dav_pieces.specs.declared.piece.Piece.{Piece}
use Rattle.dav_space.specs.Space.{unused}
use Rattle.dav_blocks.specs.Runs.{are_clear}
use Rattle.dav_blocks.specs.Blocks.{is_safe}
use Rattle.dav_data.specs.declared.data_file.DataFile.{DataFile}
use Rattle.dav_data.specs.Data.{is_below, nothing_at, is_synced}
use Rattle.dav_data.proofs.Bodies.{body-kept}

-- a place where a body of no bytes is below another
pub place-below : (end place : ℕ) → is_below end (nothing_at place) ≡ true → place ≤ end
place-below end place is =
    let here = leb-true (place + 0) end (and_parts (leb (place + 0) end) true is).0 in
    omega arith

module _ {D : Type 0} {g : Ghosts D} where
  pub synced-below : (it : DataFile D g) (end : ℕ) → it.file.synced ≤ end → (body : List Piece) → is_synced it body ≡ true → is_below end body ≡ true
  synced-below it end longer body synced =
      body-kept (is_safe it.file) (λ at n. leb (at + n) end)
      (λ at n safe.
      let both = and_parts (leb (at + n) it.file.synced) (are_clear (unused it.file.at_sync.value) at n) safe in
      let here = leb-true (at + n) it.file.synced both.0 in
      le-leb (at + n) end (omega arith))
      body synced

  pub synced-place : (it : DataFile D g) (place : ℕ) → place ≤ it.file.synced → is_synced it (nothing_at place) ≡ true
  synced-place it place below =
      let here = le-leb (place + 0) it.file.synced (omega arith) in
      and_from (is_safe it.file place 0) true (and_from (leb (place + 0) it.file.synced) true here refl) refl
