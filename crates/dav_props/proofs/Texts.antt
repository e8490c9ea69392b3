-- The texts among nodes.
use Rattle.std.proofs.Common.{◌≡◌, ◌++◌, List, [], ◌∷◌, refl, ap}
use Rattle.std.specs.Prelude.{is_some}
use Rattle.std.specs.List.{list_any, concat, flat_map}
use Rattle.dav_resource.specs.Element.{nodes_of}
use Rattle.dav_resource.specs.Tree.{texts, texts_of}
use Rattle.dav_resource.specs.declared.element.XMLNode.{XMLNode}
use Rattle.dav_resource.specs.declared.element.XMLNode.TheVariants as nodes
use Rattle.dav_props.specs.Live.{node_is_text, node_text}

-- some node is a text exactly where there are joined texts
pub any-text : (xs : List XMLNode) → list_any node_is_text xs ≡ is_some (texts_of (nodes_of xs))
any-text [] = refl
any-text (nodes.Text text ∷ xs) = refl
any-text (nodes.Element element ∷ xs) = any-text xs

-- the texts of the nodes in order are their joined texts
pub joined-texts : (xs : List XMLNode) → flat_map node_text xs ≡ concat (texts (nodes_of xs))
joined-texts [] = refl
joined-texts (nodes.Text text ∷ xs) = ap (λ l. text ++ l) (joined-texts xs)
joined-texts (nodes.Element element ∷ xs) = joined-texts xs
