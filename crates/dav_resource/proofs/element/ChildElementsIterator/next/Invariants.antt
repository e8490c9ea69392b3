use Rattle.std.proofs.Common.{◌≡◌, length}
use Rattle.dav_resource.specs.Element.{child_elements}
use Rattle.dav_resource.proofs.element.ChildElementsIterator.next.Given as goal

abbrev pub invariant-loop-self : goal.invariant-loop-self
invariant-loop-self l = child_elements l.self ≡ child_elements l.initial.self

abbrev pub decreases-loop-self : goal.decreases-loop-self
decreases-loop-self l = length l.self.nodes.now
