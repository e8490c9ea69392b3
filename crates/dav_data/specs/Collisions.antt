-- Bytes that pass the test of a block and are not its bytes: this project's own choice.
use Rattle.std.specs.Prelude.{◌≡◌, ◌≢◌, ◌⊎◌, ◌≤◌, ◌+◌, ℕ, Bool, true, List, length}
use Rattle.sqlite_disk.specs.Digest.{digest}
use Rattle.dav_pieces.specs.declared.piece.Block.{Block}
use Rattle.dav_pieces.specs.declared.piece.Piece.{Piece}
use Rattle.dav_pieces.specs.Pieces.{bytes_at, are_sound}
use Rattle.dav_store.specs.Calls.{bytes_from}

-- these are not the bytes of the block, and have the same length and the same digest as those
pub record Collides (key : ℕ) (file : List ℕ) (block : Block) (bytes : List ℕ) : Type 0 where
  pub size : length bytes ≡ block.size
  pub other : bytes ≢ bytes_at file block.at block.size
  pub same : digest key bytes ≡ digest key (bytes_at file block.at block.size)

-- a test that each block of the body passes, this block passes too
abbrev pub IsAmong : List Piece → Block → Type 0
IsAmong body block = (test : Block → Bool) → are_sound test body ≡ true → test block ≡ true

-- what was found differs from the right bytes where these are a part of a block of the body: it has that part of bytes that collide
pub record HasCollision (key : ℕ) (file : List ℕ) (body : List Piece) (right found : List ℕ) : Type 0 where
  pub block : Block
  pub among : IsAmong body block
  pub bytes : List ℕ
  pub collides : Collides key file block bytes
  pub from : ℕ
  pub len : ℕ
  pub place : ℕ
  pub within : place + len ≤ length found
  pub right_is : bytes_from place len right ≡ bytes_from from len (bytes_at file block.at block.size)
  pub found_is : bytes_from place len found ≡ bytes_from from len bytes
  pub differ : bytes_from place len found ≢ bytes_from place len right

-- what was found is right, or differs by a collision
abbrev pub IsRightOrCollides : ℕ → List ℕ → List Piece → List ℕ → List ℕ → Type 0
IsRightOrCollides key file body right found = (found ≡ right) ⊎ HasCollision key file body right found
