-- What a data file says of bytes that it has read: this project's own choice.
use Rattle.std.specs.Prelude.{◌≡◌, ◌⊎◌, ℕ, Bool, true, false, List}
use Rattle.dav_data.specs.Collisions.{HasCollision}
use Rattle.dav_data.specs.declared.claim.Claim as claim
use Rattle.dav_pieces.specs.Pieces.{bytes_of}
use Rattle.dav_pieces.specs.declared.piece.Piece.{Piece}
use Rattle.dav_resource.specs.declared.error.FsError.{FsError}
use Rattle.dav_store.specs.Calls.{Reading, are_exact, bytes_from}

-- they are those of the file, if the disk is honest
abbrev pub are_honest : Bool → Reading
are_honest honest bytes place count found = honest ≡ true → are_exact bytes place count found

-- they differ where the file is made of a part of a block: there they are that part of bytes that collide, under a key, with those of the block
pub record AreOfCollision (key : ℕ) (bytes : List ℕ) (place count : ℕ) (found : List ℕ) : Type 0 where
  pub contents : List ℕ
  pub body : List Piece
  pub made : bytes_of contents body ≡ bytes
  pub collision : HasCollision key contents body (bytes_from place count bytes) found

-- they are those of the file, or they collide, whatever the disk has answered
abbrev pub are_checked : ℕ → Reading
are_checked key bytes place count found = are_exact bytes place count found ⊎ AreOfCollision key bytes place count found

module _ {C : Type 0} (c : claim.Ghosts C) where
  -- they are those of the file, if the disk is honest; if the claim holds, they are so checked under its key
  pub record AreRead (honest : Bool) (bytes : List ℕ) (place count : ℕ) (found : List ℕ) : Type 0 where
    pub exact : are_honest honest bytes place count found
    pub checked : c.holds ≡ true → are_checked c.key bytes place count found

  -- a data file of which the claim holds fails to read for its own reasons only if it is not faultless
  abbrev pub FailsWithFault : Bool → FsError → Type 0
  FailsWithFault faultless e = c.holds ≡ true → faultless ≡ false
