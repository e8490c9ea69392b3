-- What the bytes of a file are, where the file is a list of pieces of blocks of a data file: this project's own choice.
use Rattle.std.specs.Prelude.{ℕ, zero, suc, ◌+◌, Bool, true, ◌&&◌, List, [], ◌∷◌, replicate, slice_index, Option, Some, None, nat_le, ◌==◌, refl, ◌≡◌, if◌then◌else◌, ◌⊎◌}
use Rattle.std.specs.List.{flat_map, list_all}
use Rattle.std.specs.Coded.{Coded, code_by, coded×, coded⊎, coded_ℕ}
use Rattle.std.proofs.Common.{inl, inr}
use Rattle.dav_pieces.specs.declared.piece.Block.{Block}
use Rattle.dav_pieces.specs.declared.piece.Piece.{Piece}
use Rattle.dav_pieces.specs.declared.piece.Piece.TheVariants.{Part, Zeros}

-- n bytes of a data file from a place on; past its end they are zeros
abbrev pub bytes_at : List ℕ → ℕ → ℕ → List ℕ
bytes_at file at zero = []
bytes_at file at (suc n) = slice_index file at ∷ bytes_at file (suc at) n

abbrev pub piece_len : Piece → ℕ
piece_len (Part block from len) = len
piece_len (Zeros len) = len

-- the bytes of a piece, where the data file has these contents
abbrev pub piece_bytes : List ℕ → Piece → List ℕ
piece_bytes file (Part block from len) = bytes_at file (block.at + from) len
piece_bytes file (Zeros len) = replicate len 0

-- the bytes of a file, where the data file has these contents
abbrev pub bytes_of : List ℕ → List Piece → List ℕ
bytes_of file pieces = flat_map (piece_bytes file) pieces

-- how many bytes a file has
abbrev pub size_of : List Piece → ℕ
size_of [] = 0
size_of (piece ∷ pieces) = piece_len piece + size_of pieces

-- a piece is within its block
abbrev pub is_within : Piece → Bool
is_within (Part block from len) = nat_le (from + len) block.size
is_within (Zeros len) = true

-- a piece is within its block, and the block passes the test, by its place, its size and its digest
abbrev pub is_sound : (Block → Bool) → Piece → Bool
is_sound test (Part block from len) = nat_le (from + len) block.size && test block
is_sound test (Zeros len) = true

abbrev pub are_within : List Piece → Bool
are_within pieces = list_all is_within pieces

abbrev pub are_sound : (Block → Bool) → List Piece → Bool
are_sound test pieces = list_all (is_sound test) pieces

-- the block whose last byte is the last of the piece
abbrev pub block_ended : Piece → Option Block
block_ended (Part block from len) = if from + len == block.size then Some block else None
block_ended (Zeros len) = None

-- the block whose last byte is the last of the file
abbrev pub last_block : List Piece → Option Block
last_block [] = None
last_block (piece ∷ []) = block_ended piece
last_block (piece ∷ next ∷ pieces) = last_block (next ∷ pieces)

-- ---- a code by which proofs distinguish pieces

abbrev fields : Piece → (ℕ × (ℕ × (ℕ × (ℕ × ℕ)))) ⊎ ℕ
fields (Part block from len) = inl (block.at, (block.size, (block.digest, (from, len))))
fields (Zeros len) = inr len

abbrev with_fields : (ℕ × (ℕ × (ℕ × (ℕ × ℕ)))) ⊎ ℕ → Piece
with_fields (inl p) = Part (record { at = p.0; size = p.1.0; digest = p.1.1.0 }) p.1.1.1.0 p.1.1.1.1
with_fields (inr len) = Zeros len

pub fields_back : (piece : Piece) → with_fields (fields piece) ≡ piece
fields_back (Part block from len) = refl
fields_back (Zeros len) = refl

abbrev pub piece_code : Coded Piece
piece_code = code_by _ (coded⊎ (coded× coded_ℕ (coded× coded_ℕ (coded× coded_ℕ (coded× coded_ℕ coded_ℕ)))) coded_ℕ) fields with_fields fields_back
