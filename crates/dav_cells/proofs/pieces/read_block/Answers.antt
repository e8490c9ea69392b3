use Rattle.std.proofs.Common.{refl}
use Rattle.dav_wire.specs.Numbers.{number}
use Rattle.dav_wire.proofs.ReadLemmas.{stops}
use Rattle.dav_cells.specs.Pieces.{small_number, block_codec}
use Rattle.dav_cells.proofs.pieces.read_block.Goals as goal

pub returns-in_err-at : goal.returns-in_err-at
unfolding block_codec
returns-in_err-at c =
    stops number block_codec (λ b. b) c.args.reader.now c.args.reader.now _ c.from_residual.result c.in_err-at.field-0.0 c.from_residual.ensures.1
    (λ none. rw none refl) c.in_err-at.ensures

pub returns-in_err-size : goal.returns-in_err-size
unfolding block_codec
returns-in_err-size c =
    stops small_number block_codec (λ b. b) c.args.reader.now c.read_number.new.self _ c.from_residual-in_err-size.result c.in_err-size.field-0.0 c.from_residual-in_err-size.ensures.1
    (λ none. rw (c.in_ok-at.ensures, none) refl) c.in_err-size.ensures

pub returns-in_err-digest : goal.returns-in_err-digest
unfolding block_codec
returns-in_err-digest c =
    stops number block_codec (λ b. b) c.args.reader.now c.read_small_number.new.reader _ c.from_residual-in_err-digest.result c.in_err-digest.field-0.0 c.from_residual-in_err-digest.ensures.1
    (λ none. rw (c.in_ok-at.ensures, c.in_ok-size.ensures, none) refl) c.in_err-digest.ensures

pub returns : goal.returns
unfolding block_codec
returns c = rw (c.in_ok-at.ensures, c.in_ok-size.ensures, c.in_ok-digest.ensures) refl
