use Rattle.std.proofs.Common.{refl}
use Rattle.dav_wire.proofs.ReadLemmas.{stops}
use Rattle.dav_cells.specs.Pieces.{small_number, block_codec, part_codec}
use Rattle.dav_cells.proofs.pieces.read_part.Goals as goal

pub returns-in_err-block : goal.returns-in_err-block
unfolding part_codec
returns-in_err-block c =
    stops block_codec part_codec (λ p. (p.0, (p.1, p.2))) c.args.reader.now c.args.reader.now _ c.from_residual.result c.in_err-block.field-0.0 c.from_residual.ensures.1
    (λ none. rw none refl) c.in_err-block.ensures

pub returns-in_err-from : goal.returns-in_err-from
unfolding part_codec
returns-in_err-from c =
    stops small_number part_codec (λ p. (p.0, (p.1, p.2))) c.args.reader.now c.read_block.new.reader _ c.from_residual-in_err-from.result c.in_err-from.field-0.0 c.from_residual-in_err-from.ensures.1
    (λ none. rw (c.in_ok-block.ensures, none) refl) c.in_err-from.ensures

pub returns-in_err-len : goal.returns-in_err-len
unfolding part_codec
returns-in_err-len c =
    stops small_number part_codec (λ p. (p.0, (p.1, p.2))) c.args.reader.now c.read_small_number.new.reader _ c.from_residual-in_err-len.result c.in_err-len.field-0.0 c.from_residual-in_err-len.ensures.1
    (λ none. rw (c.in_ok-block.ensures, c.in_ok-from.ensures, none) refl) c.in_err-len.ensures

pub returns : goal.returns
unfolding part_codec
returns c = rw (c.in_ok-block.ensures, c.in_ok-from.ensures, c.in_ok-len.ensures) refl
