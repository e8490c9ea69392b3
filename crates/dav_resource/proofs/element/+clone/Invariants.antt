use Rattle.std.proofs.Common.{◌≡◌, take}
use Rattle.dav_resource.specs.Element.{nodes_of}
use Rattle.dav_resource.proofs.element.+clone.Given as goal

abbrev pub invariant-Element::clone-loop-child : goal.invariant-Element::clone-loop-child
invariant-Element::clone-loop-child l = nodes_of l.children.items ≡ nodes_of (take l.child-index l.child-items)
