-- What contracts see of the fields of an `Element` and of its nodes: this project's own choice.
use Rattle.std.specs.Prelude.{Bool, false, bytes_eq, ℕ, List, [], ◌∷◌, map, Option, Some, None, string_bytes, String}
use Rattle.std.specs.BTreeMap.{BTreeMap}
use Rattle.std.specs.declared.alloc.Global.{Global}
use Rattle.dav_resource.specs.Tree.{Tag, Nodes, no_nodes, text_then, element_then, Tree, elements_of, prefixed_element}
use Rattle.dav_resource.specs.ElementNames.{name_text}
use Rattle.dav_resource.specs.declared.element.ChildElements.{ChildElements}
use Rattle.dav_resource.specs.declared.element.Element.TheInside.{Inside}
use Rattle.dav_resource.specs.declared.element.SharedTag.{SharedTag}
use Rattle.dav_resource.specs.declared.element.SharedTag.TheVariants as tag
use Rattle.dav_resource.specs.declared.element.XMLNode.{XMLNode}
use Rattle.dav_resource.specs.declared.element.XMLNode.TheVariants as node
use Rattle.dav_resource.specs.declared.start_tag.StartTag.TheInside as inside

-- the content of an element, without the vectors that hold it
abbrev pub nodes_of : List XMLNode → Nodes
nodes_of [] = no_nodes
nodes_of (node.Text s ∷ xs) = text_then s (nodes_of xs)
nodes_of (node.Element t ∷ xs) = element_then t.tag t.children (nodes_of xs)

-- the name and the value of an attribute
abbrev pub text_pair : String Global × String Global → List ℕ × List ℕ
text_pair p = (string_bytes p.0, string_bytes p.1)

abbrev pub start_tag : inside.Inside → Tag
start_tag t =
    record {
      name = t.name;
      prefix = t.prefix;
      namespace = t.namespace;
      attributes = map text_pair t.attributes.entries;
    }

abbrev pub tag_of : SharedTag → Tag
tag_of (tag.Constant name) = (prefixed_element (name_text name)).tag
tag_of (tag.Shared shared) = shared.value

abbrev pub tree_of : Inside → Tree
tree_of e = record { tag = tag_of e.tag; children = nodes_of e.children.items }

-- what a borrowed map of attributes holds; without one there are none
abbrev pub attributes_in : Option (BTreeMap (String Global) (String Global)) → List (List ℕ × List ℕ)
attributes_in None = []
attributes_in (Some attributes) = map text_pair attributes.entries

-- the node is an element with this local name
abbrev pub node_is_named : List ℕ → XMLNode → Bool
node_is_named name (node.Text s) = false
node_is_named name (node.Element t) = bytes_eq t.tag.name name

-- the elements that the iterator has not returned yet
abbrev pub child_elements : ChildElements → List Tree
child_elements it = elements_of (nodes_of it.nodes.now)
