use Rattle.std.proofs.Common.{◌≡◌}
use Rattle.std.specs.List.{find}
use Rattle.dav_resource.specs.Element.{child_elements}
use Rattle.dav_resource.specs.Tree.{elements_of}
use Rattle.dav_find.specs.Asked.{says_kind}
use Rattle.dav_find.proofs.search.said_in.Given as goal

-- it is the first of those that are left
abbrev pub invariant-loop-child : goal.invariant-loop-child
invariant-loop-child l = find says_kind (child_elements l.child-iterator) ≡ find says_kind (elements_of l.root.children)
