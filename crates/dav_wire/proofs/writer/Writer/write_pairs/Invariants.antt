use Rattle.std.proofs.Common.{map}
use Rattle.std.specs.Map.Iter.{deref_pair}
use Rattle.dav_resource.specs.Element.{text_pair}
use Rattle.dav_wire.specs.Trees.{attribute}
use Rattle.dav_wire.proofs.WriteLemmas.{Run}
use Rattle.dav_wire.proofs.writer.Writer.write_pairs.Given as goal

abbrev pub invariant-loop-key : goal.invariant-loop-key
invariant-loop-key l = Run attribute (map text_pair (map deref_pair l.yielded)) l.initial.self l.self
