use Rattle.std.proofs.Common.{map}
use Rattle.dav_wire.specs.Fields.{field}
use Rattle.dav_wire.specs.Views.{field_of}
use Rattle.dav_wire.proofs.ListLemmas.{ListSoFar}
use Rattle.dav_wire.proofs.reader.Reader.read_fields.Given as goal

abbrev pub invariant-loop-left : goal.invariant-loop-left
invariant-loop-left l = ListSoFar field l.fn.self (map field_of l.fields.items) l.left l.self

abbrev pub decreases-loop-left : goal.decreases-loop-left
decreases-loop-left l = l.left
