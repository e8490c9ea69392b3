-- How a call changes a list of pieces, for any contents of the data file and any test of its blocks: this project's own choice.
use Rattle.std.specs.Prelude.{◌≡◌, ℕ, Bool, true, List, ◌++◌, Option}
use Rattle.dav_store.specs.Calls.{written_at}
use Rattle.dav_pieces.specs.declared.piece.Block.{Block}
use Rattle.dav_pieces.specs.declared.piece.Piece.{Piece}
use Rattle.dav_pieces.specs.Pieces.{bytes_of, is_sound, are_sound, last_block}
use Rattle.dav_pieces.specs.Growth.{grown_bytes, is_grown_in}

-- ---- the bytes

-- a part of the bytes of the others comes after the bytes of the old pieces
abbrev pub AddsPart : (List ℕ → List ℕ) → List Piece → List Piece → List Piece → Type 0
AddsPart part old more new = (file : List ℕ) → bytes_of file new ≡ bytes_of file old ++ part (bytes_of file more)

-- the bytes of the others are written at an offset
abbrev pub IsWrittenOver : List Piece → ℕ → List Piece → List Piece → Type 0
IsWrittenOver old place more new = (file : List ℕ) → bytes_of file new ≡ written_at (bytes_of file old) place (bytes_of file more)

-- the last block has grown, and then the bytes of the others are appended
abbrev pub IsAppended : List Piece → Option Block → List Piece → List Piece → Type 0
IsAppended old grown more new = (file : List ℕ) → bytes_of file new ≡ bytes_of file old ++ grown_bytes file (last_block old) grown ++ bytes_of file more

-- ---- the blocks

-- under each test, the new pieces are sound if the old ones and the piece are
abbrev pub KeepsSoundPiece : List Piece → Piece → List Piece → Type 0
KeepsSoundPiece old piece new = (test : Block → Bool) → are_sound test old ≡ true → is_sound test piece ≡ true → are_sound test new ≡ true

-- under each test, the new pieces are sound if the old ones and the others are
abbrev pub KeepsSound : List Piece → List Piece → List Piece → Type 0
KeepsSound old more new = (test : Block → Bool) → are_sound test old ≡ true → are_sound test more ≡ true → are_sound test new ≡ true

-- the same, where the grown block, if there is one, passes the test too
abbrev pub KeepsSoundGrown : List Piece → Option Block → List Piece → List Piece → Type 0
KeepsSoundGrown old grown more new =
    (test : Block → Bool) → are_sound test old ≡ true → is_grown_in test grown ≡ true → are_sound test more ≡ true → are_sound test new ≡ true
