use Rattle.std.proofs.Common.{refl, true, ℕ, [], ◌∷◌}
use Rattle.std.proofs.lemmas.Bool.{and_from}
use Rattle.dav_pieces.specs.declared.piece.Block.{Block}
use Rattle.dav_pieces.specs.declared.piece.Piece.TheVariants.{Part, Zeros}
use Rattle.dav_wire.specs.Numbers.{number}
use Rattle.dav_wire.proofs.WriteLemmas.{writes_after}
use Rattle.dav_cells.specs.Pieces.{part_codec, piece_codec}
use Rattle.dav_cells.proofs.pieces.write_piece.Goals as goal

pub returns-in_ok-write_u8-in-Part : goal.returns-in_ok-write_u8-in-Part
unfolding piece_codec
returns-in_ok-write_u8-in-Part c =
    let part : Block × (ℕ × ℕ) = (c.in-Part.block, (c.in-Part.from, c.in-Part.len)) in
    rw c.in-Part.is
    (writes_after part_codec piece_codec part (Part c.in-Part.block c.in-Part.from c.in-Part.len) c.args.writer.now c.write_u8.new.self c.write_part.new.writer (0 ∷ []) c.write_part.result
    c.in_ok-write_u8-in-Part.ensures.is (λ ok. and_from (part_codec.is_valid part) true ok refl) refl c.write_part.ensures)

pub returns-in_ok-write_u8-in-Zeros : goal.returns-in_ok-write_u8-in-Zeros
unfolding piece_codec
returns-in_ok-write_u8-in-Zeros c =
    rw c.in-Zeros.is
    (writes_after number piece_codec c.in-Zeros.len (Zeros c.in-Zeros.len) c.args.writer.now c.write_u8-in-Zeros.new.self c.write_number.new.self (1 ∷ []) c.write_number.result
    c.in_ok-write_u8-in-Zeros.ensures.is (λ ok. and_from (number.is_valid c.in-Zeros.len) true ok refl) refl c.write_number.ensures)
