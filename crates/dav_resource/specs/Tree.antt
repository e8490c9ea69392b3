-- What contracts see of an element: names, attributes, and content in order (RFC 4918, section 14; Namespaces in XML 1.0, sections 3 to 5).
use Rattle.std.specs.Prelude.{ℕ, ◌++◌, List, [], ◌∷◌, Option, Some, None, Bool, ◌==◌, if◌then◌else◌, bytes_eq, nat_lt, length, codes}
use Rattle.std.specs.List.{position_or_len, before_first, after_first, concat}
use Rattle.std.specs.Ordering.{nat_cmp}
use Rattle.std.specs.Cmp.Lexicographic.{slice_cmp}
use Rattle.std.specs.BTreeMap.{insert_entry}

-- the start tag; an attribute is a name with its value, and attributes are in ascending order of names
pub record Tag : Type 0 where
  pub name : List ℕ
  pub prefix : Option (List ℕ)
  pub namespace : Option (List ℕ)
  pub attributes : List (List ℕ × List ℕ)

-- the content of an element, in order: text nodes, and elements with their content
pub data Nodes : Type 0 where
  no_nodes : Nodes
  text_then : List ℕ → Nodes → Nodes
  element_then : Tag → Nodes → Nodes → Nodes

-- an element
pub record Tree : Type 0 where
  pub tag : Tag
  pub children : Nodes

-- ---- nodes

-- one list of nodes followed by another
abbrev pub append_nodes : Nodes → Nodes → Nodes
append_nodes no_nodes ns = ns
append_nodes (text_then t ms) ns = text_then t (append_nodes ms ns)
append_nodes (element_then tag inner ms) ns = element_then tag inner (append_nodes ms ns)

-- one text node, and one element, as the content of an element
abbrev pub one_text : List ℕ → Nodes
one_text t = text_then t no_nodes

abbrev pub one_element : Tree → Nodes
one_element t = element_then t.tag t.children no_nodes

-- a list of elements, as the content of an element
abbrev pub elements : List Tree → Nodes
elements [] = no_nodes
elements (t ∷ ts) = element_then t.tag t.children (elements ts)

-- the elements directly among the nodes, in order
abbrev pub elements_of : Nodes → List Tree
elements_of no_nodes = []
elements_of (text_then t ns) = elements_of ns
elements_of (element_then tag inner ns) = record { tag = tag; children = inner } ∷ elements_of ns

-- the text nodes directly among the nodes, in order
abbrev pub texts : Nodes → List (List ℕ)
texts no_nodes = []
texts (text_then t ns) = t ∷ texts ns
texts (element_then tag inner ns) = texts ns

-- the strings joined, if there are any
abbrev pub joined : List (List ℕ) → Option (List ℕ)
joined [] = None
joined (t ∷ ts) = Some (t ++ concat ts)

-- the text nodes directly among the nodes, joined, if there are any
abbrev pub texts_of : Nodes → Option (List ℕ)
texts_of ns = joined (texts ns)

-- ---- elements that the calls build

-- a tag without namespace and attributes, an element without content, and one without all of them
abbrev pub named_tag : List ℕ → Option (List ℕ) → Tag
named_tag name prefix = record { name = name; prefix = prefix; namespace = None; attributes = [] }

abbrev pub tagged : Tag → Tree
tagged tag = record { tag = tag; children = no_nodes }

abbrev pub empty_element : List ℕ → Option (List ℕ) → Tree
empty_element name prefix = tagged (named_tag name prefix)

-- a string with `:` is a prefix and a name, split at the first `:`: `D:x` is the prefix D and the name x
abbrev pub has_colon : List ℕ → Bool
has_colon text = nat_lt (position_or_len (λ b. b == 58) text) (length text)

abbrev pub prefixed_element : List ℕ → Tree
prefixed_element text =
    if has_colon text
    then empty_element (after_first (λ b. b == 58) text) (Some (before_first (λ b. b == 58) text))
    else empty_element text None

-- the attributes with this one set, in ascending order of names
abbrev pub put_attribute : List (List ℕ × List ℕ) → List ℕ → List ℕ → List (List ℕ × List ℕ)
put_attribute attributes name value = insert_entry (slice_cmp nat_cmp) attributes name value

abbrev pub with_attribute : Tree → List ℕ → List ℕ → Tree
with_attribute t name value =
    record t { tag = record t.tag { attributes = put_attribute t.tag.attributes name value } }

-- the name of the attribute that declares a prefix: `xmlns:prefix`, or `xmlns` for the empty prefix
abbrev pub xmlns_name : List ℕ → List ℕ
xmlns_name [] = codes "xmlns"
xmlns_name (b ∷ bs) = codes "xmlns:" ++ b ∷ bs

-- the element with these nodes appended to its content
abbrev pub with_children : Tree → Nodes → Tree
with_children t ns = record t { children = append_nodes t.children ns }

-- ---- children by name

-- the first element with this local name
abbrev pub first_named : List ℕ → Nodes → Option Tree
first_named name no_nodes = None
first_named name (text_then t ns) = first_named name ns
first_named name (element_then tag inner ns) =
    if bytes_eq tag.name name then Some (record { tag = tag; children = inner }) else first_named name ns

-- the nodes without that element
abbrev pub without_first_named : List ℕ → Nodes → Nodes
without_first_named name no_nodes = no_nodes
without_first_named name (text_then t ns) = text_then t (without_first_named name ns)
without_first_named name (element_then tag inner ns) =
    if bytes_eq tag.name name then ns else element_then tag inner (without_first_named name ns)
