-- XML trees: an element is its tag, its content, and the byte 0.
use Rattle.std.specs.Prelude.{◌≡◌, ℕ, zero, suc, Bool, true, ◌&&◌, List, [], ◌∷◌, Option, Some, None, refl}
use Rattle.std.specs.Ordering.{nat_cmp, is_lt}
use Rattle.std.specs.Cmp.Lexicographic.{slice_cmp}
use Rattle.std.proofs.Common.{ap}
use Rattle.dav_resource.specs.Tree.{Tag, Nodes, no_nodes, text_then, element_then, Tree}
use Rattle.dav_resource.specs.Element.{nodes_of}
use Rattle.dav_resource.specs.declared.element.XMLNode.{XMLNode}
use Rattle.dav_resource.specs.declared.element.XMLNode.TheVariants as node
use Rattle.dav_wire.specs.Codec.{Codec}
use Rattle.dav_wire.specs.Parts.{NeverZero}
use Rattle.dav_wire.specs.Combine.{never, pair, as_type, variant, only, terminated}
use Rattle.dav_wire.specs.Values.{utf8_text, list, optional, tagged}

-- ---- tags

-- the first key is less than the second, byte by byte
abbrev pub is_key_before : List ℕ → List ℕ → Bool
is_key_before key next = is_lt (slice_cmp nat_cmp key next)

-- a key may follow the last one, if there is one
abbrev pub may_follow : Option (List ℕ) → List ℕ → Bool
may_follow None key = true
may_follow (Some last) key = is_key_before last key

-- every key is less than the next
abbrev pub is_ascending : List (List ℕ × List ℕ) → Bool
is_ascending [] = true
is_ascending (e ∷ []) = true
is_ascending (e ∷ f ∷ es) = is_key_before e.0 f.0 && is_ascending (f ∷ es)

-- a key and its value
unfoldable pub attribute : Codec (List ℕ × List ℕ)
attribute = pair utf8_text utf8_text

-- attributes in strictly ascending order of keys
unfoldable pub attributes : Codec (List (List ℕ × List ℕ))
attributes = only is_ascending (list attribute)

abbrev pub TagParts : Type 0
TagParts = List ℕ × (Option (List ℕ) × (Option (List ℕ) × List (List ℕ × List ℕ)))

abbrev pub tag_of : TagParts → Tag
tag_of p = record { name = p.0; prefix = p.1.0; namespace = p.1.1.0; attributes = p.1.1.1 }

abbrev pub parts_of_tag : Tag → TagParts
parts_of_tag t = (t.name, (t.prefix, (t.namespace, t.attributes)))

-- name, prefix, namespace and attributes
unfoldable pub tag : Codec Tag
tag =
    as_type (pair utf8_text (pair (optional utf8_text) (pair (optional utf8_text) attributes)))
    tag_of parts_of_tag (λ p. refl) (λ t. refl)

-- ---- nodes

abbrev pub node_tag : XMLNode → ℕ
node_tag (node.Element t) = 1
node_tag (node.Text s) = 2

abbrev pub from_element : XMLNode → Option Tree
from_element (node.Element t) = Some t
from_element (node.Text s) = None

abbrev pub from_text : XMLNode → Option (List ℕ)
from_text (node.Element t) = None
from_text (node.Text s) = Some s

pub element_exact : (x : XMLNode) (t : Tree) → from_element x ≡ Some t → node.Element t ≡ x
element_exact (node.Element u) t e = cc
element_exact (node.Text s) t e = cc

pub text_exact : (x : XMLNode) (s : List ℕ) → from_text x ≡ Some s → node.Text s ≡ x
text_exact (node.Element u) s e = cc
text_exact (node.Text r) s e = cc

abbrev pub node_variant : Codec Tree → ℕ → Codec XMLNode
node_variant t zero = never
node_variant t (suc zero) = variant t node.Element from_element (λ x. refl) (λ x u e. element_exact x u e)
node_variant t (suc (suc zero)) = variant utf8_text node.Text from_text (λ x. refl) (λ x s e. text_exact x s e)
node_variant t (suc (suc (suc n))) = never

-- byte 1 and an element, or byte 2 and a string
unfoldable pub one_node : Codec Tree → Codec XMLNode
one_node t = tagged node_tag (node_variant t)

pub node_never_zero : (t : Codec Tree) → NeverZero (one_node t)
unfolding one_node
node_never_zero t rest = refl

abbrev pub node_list : Nodes → List XMLNode
node_list no_nodes = []
node_list (text_then s ns) = node.Text s ∷ node_list ns
node_list (element_then t inner ns) = node.Element (record { tag = t; children = inner }) ∷ node_list ns

pub node_list-of : (xs : List XMLNode) → node_list (nodes_of xs) ≡ xs
node_list-of [] = refl
node_list-of (node.Text s ∷ xs) = ap (λ ys. node.Text s ∷ ys) (node_list-of xs)
node_list-of (node.Element t ∷ xs) = ap (λ ys. node.Element t ∷ ys) (node_list-of xs)

pub nodes_of-list : (ns : Nodes) → nodes_of (node_list ns) ≡ ns
nodes_of-list no_nodes = refl
nodes_of-list (text_then s ns) = ap (text_then s) (nodes_of-list ns)
nodes_of-list (element_then t inner ns) = ap (element_then t inner) (nodes_of-list ns)

-- the content of an element, and the byte 0
unfoldable pub nodes : Codec Tree → Codec Nodes
nodes t =
    as_type (terminated (one_node t) (node_never_zero t)) nodes_of node_list (λ xs. node_list-of xs) (λ ns. nodes_of-list ns)

-- ---- trees

abbrev pub tree_of_parts : Tag × Nodes → Tree
tree_of_parts p = record { tag = p.0; children = p.1 }

abbrev pub parts_of_tree : Tree → Tag × Nodes
parts_of_tree t = (t.tag, t.children)

-- an element whose child elements are written by this codec
unfoldable pub element_over : Codec Tree → Codec Tree
element_over t = as_type (pair tag (nodes t)) tree_of_parts parts_of_tree (λ p. refl) (λ u. refl)

-- an element with at most so many levels of elements, of which it is the first
unfoldable pub tree : ℕ → Codec Tree
tree zero = never
tree (suc levels) = element_over (tree levels)
