use Rattle.std.proofs.Common.{map}
use Rattle.dav_wire.specs.Values.{text}
use Rattle.dav_wire.proofs.ListLemmas.{ListSoFar}
use Rattle.dav_wire.proofs.reader.Reader.read_batch.Given as goal

abbrev pub invariant-loop-left : goal.invariant-loop-left
invariant-loop-left l = ListSoFar text l.fn.self (map (λ s. s.now) l.frames.items) l.left l.self

abbrev pub decreases-loop-left : goal.decreases-loop-left
decreases-loop-left l = l.left
