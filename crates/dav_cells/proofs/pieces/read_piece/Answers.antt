use Rattle.std.proofs.Common.{refl, arith, ◌≤◌, [], ◌∷◌}
use Rattle.dav_wire.specs.Numbers.{byte, number}
use Rattle.dav_wire.proofs.ListLemmas.{unknown_variant}
use Rattle.dav_wire.proofs.NodeLemmas.{is_read}
use Rattle.dav_wire.proofs.ReadLemmas.{stops}
use Rattle.dav_cells.specs.Pieces.{part_codec, piece_codec, piece_position, part_piece, zeros_piece}
use Rattle.dav_cells.proofs.pieces.read_piece.Goals as goal

pub returns-in_err-read_u8 : goal.returns-in_err-read_u8
unfolding piece_codec
returns-in_err-read_u8 c =
    stops byte piece_codec (λ x. x) c.args.reader.now c.args.reader.now _ c.from_residual.result c.in_err-read_u8.field-0.0 c.from_residual.ensures.1
    (λ none. rw none refl) c.in_err-read_u8.ensures

pub returns-in_err-block-in-0 : goal.returns-in_err-block-in-0
unfolding piece_codec
returns-in_err-block-in-0 c =
    stops part_codec piece_codec (λ x. x) c.args.reader.now c.read_u8.new.self _ c.from_residual-in_err-block-in-0.result c.in_err-block-in-0.field-0.0 c.from_residual-in_err-block-in-0.ensures.1
    (λ none. rw (is_read c.args.reader.now _ 0 _ c.in-0.is c.in_ok-read_u8.ensures, none) refl) c.in_err-block-in-0.ensures

pub returns-in_ok-block-in-0 : goal.returns-in_ok-block-in-0
unfolding piece_codec
returns-in_ok-block-in-0 c =
    rw (is_read c.args.reader.now _ 0 _ c.in-0.is c.in_ok-read_u8.ensures, c.in_ok-block-in-0.ensures) refl

pub returns-in_err-read_number-in-1 : goal.returns-in_err-read_number-in-1
unfolding piece_codec
returns-in_err-read_number-in-1 c =
    stops number piece_codec (λ x. x) c.args.reader.now c.read_u8.new.self _ c.from_residual-in_err-read_number-in-1.result c.in_err-read_number-in-1.field-0.0 c.from_residual-in_err-read_number-in-1.ensures.1
    (λ none. rw (is_read c.args.reader.now _ 1 _ c.in-1.is c.in_ok-read_u8.ensures, none) refl) c.in_err-read_number-in-1.ensures

pub returns-in_ok-read_number-in-1 : goal.returns-in_ok-read_number-in-1
unfolding piece_codec
returns-in_ok-read_number-in-1 c =
    rw (is_read c.args.reader.now _ 1 _ c.in-1.is c.in_ok-read_u8.ensures, c.in_ok-read_number-in-1.ensures) refl

pub returns-in_default : goal.returns-in_default
unfolding piece_codec
returns-in_default c =
    let other : 2 ≤ c.in_ok-read_u8.field-0 = omega arith in
    unknown_variant piece_position (part_piece ∷ zeros_piece ∷ []) c.args.reader.now c.in_ok-read_u8.field-0 c.read_u8.new.self c.in_ok-read_u8.ensures other
