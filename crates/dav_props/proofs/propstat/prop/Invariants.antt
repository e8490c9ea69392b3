use Rattle.std.proofs.Common.{◌≡◌}
use Rattle.std.specs.Prelude.{codes}
use Rattle.dav_resource.specs.Tree.{prefixed_element}
use Rattle.dav_messages.specs.DavElement.{with_elements}
use Rattle.dav_props.proofs.propstat.prop.Given as goal

-- the properties so far
abbrev pub invariant-loop-element : goal.invariant-loop-element
invariant-loop-element l = l.prop ≡ with_elements (prefixed_element (codes "D:prop")) l.yielded
