-- The largest measure of an element's children is at most the element's number of nodes: this project's own choice, for recursions over elements.
use Rattle.std.specs.Prelude.{◌≤◌, List, [], ◌∷◌}
use Rattle.std.proofs.Common.{arith}
use denote.Param.Weighed.{most}
use Rattle.dav_resource.specs.TreeCode.{nodes_size}
use Rattle.dav_resource.specs.Element.{nodes_of}
use Rattle.dav_resource.specs.declared.element.XMLNode.{XMLNode}
use Rattle.dav_resource.specs.declared.element.XMLNode.TheVariants as node
use Rattle.dav_resource.specs.declared.element.Element.TheDeep.{deep-XMLNode}

pub most_le-nodes_size : (xs : List XMLNode) → most deep-XMLNode xs ≤ nodes_size (nodes_of xs)
most_le-nodes_size [] = omega arith
most_le-nodes_size (node.Text s ∷ xs) = omega (arith, most_le-nodes_size xs)
most_le-nodes_size (node.Element t ∷ xs) = omega (arith, most_le-nodes_size xs)
