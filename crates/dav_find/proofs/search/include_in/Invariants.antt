use Rattle.std.proofs.Common.{◌≡◌, codes}
use Rattle.std.specs.List.{find}
use Rattle.dav_resource.specs.Element.{child_elements}
use Rattle.dav_resource.specs.Tree.{elements_of}
use Rattle.dav_messages.specs.DavElement.{is_named}
use Rattle.dav_find.proofs.search.include_in.Given as goal

-- it is the first of those that are left
abbrev pub invariant-loop-child : goal.invariant-loop-child
invariant-loop-child l = find (is_named (codes "include")) (child_elements l.child-iterator) ≡ find (is_named (codes "include")) (elements_of l.root.children)
