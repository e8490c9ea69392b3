use Rattle.std.proofs.Common.{map, option_map}
use Rattle.dav_resource.specs.Element.{text_pair}
use Rattle.dav_wire.proofs.AttributeLemmas.{AttributesSoFar}
use Rattle.dav_wire.proofs.reader.Reader.read_attributes.Given as goal

abbrev pub invariant-loop-left : goal.invariant-loop-left
invariant-loop-left l =
    AttributesSoFar l.fn.self (map text_pair l.attributes.entries) (option_map (λ s. s.now) l.last) l.left l.self

abbrev pub decreases-loop-left : goal.decreases-loop-left
decreases-loop-left l = l.left
