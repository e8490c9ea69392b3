use Rattle.std.proofs.Common.{ap}
use Rattle.dav_wire.specs.Codec.{whole}
use Rattle.dav_cells.specs.Elements.{element_codec}
use Rattle.dav_cells.proofs.Exits.{exit_decoding}
use Rattle.dav_cells.proofs.elements.decode_element.Goals as goal

pub returns-in_err-element : goal.returns-in_err-element
returns-in_err-element c =
    exit_decoding element_codec element_codec c.args.bytes.now c.args.bytes.now c.from_residual.result c.in_err-element.field-0.0 c.from_residual.ensures.1
    (λ none. ap whole none) (rw c.new-reader.ensures at c.in_err-element.ensures)
