-- The pieces of a part of a file as bytes: this project's own choice.
use Rattle.std.specs.Prelude.{◌≡◌, ℕ, ◌^◌, nat_lt, List, [], ◌∷◌, Option, Some, None, refl}
use Rattle.dav_pieces.specs.declared.piece.Block.{Block}
use Rattle.dav_pieces.specs.declared.piece.Piece.{Piece}
use Rattle.dav_pieces.specs.declared.piece.Piece.TheVariants.{Part, Zeros}
use Rattle.dav_wire.specs.Codec.{Codec}
use Rattle.dav_wire.specs.Combine.{pair, as_type, variant, only}
use Rattle.dav_wire.specs.Numbers.{number}
use Rattle.dav_wire.specs.Values.{list, one_of}

-- a number below 2 ^ 32, as 8 bytes
unfoldable pub small_number : Codec ℕ
small_number = only (λ n. nat_lt n (2 ^ 32)) number

-- ---- blocks

abbrev pub block_of : ℕ × (ℕ × ℕ) → Block
block_of p = record { at = p.0; size = p.1.0; digest = p.1.1 }

abbrev pub parts_of_block : Block → ℕ × (ℕ × ℕ)
parts_of_block b = (b.at, (b.size, b.digest))

-- where it begins, its size and its digest
unfoldable pub block_codec : Codec Block
block_codec = as_type (pair number (pair small_number number)) block_of parts_of_block (λ p. refl) (λ b. refl)

-- ---- pieces

abbrev pub piece_position : Piece → ℕ
piece_position (Part block from len) = 0
piece_position (Zeros len) = 1

abbrev pub part_of : Block × (ℕ × ℕ) → Piece
part_of p = Part p.0 p.1.0 p.1.1

abbrev pub from_part : Piece → Option (Block × (ℕ × ℕ))
from_part (Part block from len) = Some (block, (from, len))
from_part (Zeros len) = None

abbrev pub from_zeros : Piece → Option ℕ
from_zeros (Part block from len) = None
from_zeros (Zeros len) = Some len

pub part_exact : (x : Piece) (p : Block × (ℕ × ℕ)) → from_part x ≡ Some p → part_of p ≡ x
part_exact (Part block from len) p e = cc
part_exact (Zeros len) p e = cc

pub zeros_exact : (x : Piece) (n : ℕ) → from_zeros x ≡ Some n → Zeros n ≡ x
zeros_exact (Part block from len) n e = cc
zeros_exact (Zeros len) n e = cc

-- the block, how many of its bytes come before the piece, and how many bytes the piece has
unfoldable pub part_codec : Codec (Block × (ℕ × ℕ))
part_codec = pair block_codec (pair small_number small_number)

abbrev pub part_piece : Codec Piece
part_piece = variant part_codec part_of from_part (λ p. refl) (λ x p e. part_exact x p e)

abbrev pub zeros_piece : Codec Piece
zeros_piece = variant number Zeros from_zeros (λ n. refl) (λ x n e. zeros_exact x n e)

-- byte 0 and a part of a block, or byte 1 and the number of zeros
unfoldable pub piece_codec : Codec Piece
piece_codec = one_of piece_position (part_piece ∷ zeros_piece ∷ [])

-- how many pieces, and then each
unfoldable pub pieces_codec : Codec (List Piece)
pieces_codec = list piece_codec
