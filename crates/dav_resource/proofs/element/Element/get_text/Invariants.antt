use Rattle.std.proofs.Common.{◌≡◌, take, option_map, string_bytes}
use Rattle.dav_resource.specs.Tree.{texts_of}
use Rattle.dav_resource.specs.Element.{nodes_of}
use Rattle.dav_resource.proofs.element.Element.get_text.Given as goal

abbrev pub invariant-loop-child : goal.invariant-loop-child
invariant-loop-child l = option_map string_bytes l.joined ≡ texts_of (nodes_of (take l.child-index l.child-items))
