-- Which elements name a time.
use Rattle.std.proofs.Common.{◌≡◌, ◌≤◌, ℕ, List, [], ◌∷◌, Option, None, length, refl, arith}
use Rattle.dav_resource.specs.Element.{nodes_of}
use Rattle.dav_resource.specs.declared.element.XMLNode.{XMLNode}
use Rattle.dav_resource.specs.declared.element.XMLNode.TheVariants as node
use Rattle.dav_props.specs.Live.{only_time}

-- an element with several nodes names none
pub several_name_none : (nodes : List XMLNode) → 2 ≤ length nodes → only_time (nodes_of nodes) ≡ None
several_name_none [] many = absurd (omega arith)
several_name_none (first ∷ []) many = absurd (omega arith)
several_name_none (node.Text text ∷ node.Text other ∷ nodes) many = refl
several_name_none (node.Text text ∷ node.Element element ∷ nodes) many = refl
several_name_none (node.Element element ∷ second ∷ nodes) many = refl
