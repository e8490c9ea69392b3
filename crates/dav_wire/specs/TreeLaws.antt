-- The number of levels of a tree decides at which `levels` it can be written, and its bytes do not depend on them.
use Rattle.std.specs.Prelude.{◌≡◌, ℕ, zero, suc, max, ◌≤◌, true, List, ◌++◌, [], ◌∷◌, refl}
use Rattle.std.specs.List.{list_all}
use Rattle.std.proofs.Common.{ap, arith}
use Rattle.std.proofs.lemmas.Bool.{and_parts, and_from}
use Rattle.dav_resource.specs.Tree.{Nodes, no_nodes, text_then, element_then, Tree}
use Rattle.dav_resource.specs.declared.element.XMLNode.TheVariants as node
use Rattle.dav_wire.specs.Codec.{Codec}
use Rattle.dav_wire.specs.Parts.{encode_all}
use Rattle.dav_wire.specs.PartLaws.{false_true}
use Rattle.dav_wire.specs.Trees.{tag, one_node, node_list, nodes, element_over, tree}

-- the levels of elements among nodes
abbrev pub levels_of : Nodes → ℕ
levels_of no_nodes = 0
levels_of (text_then s ns) = levels_of ns
levels_of (element_then t inner ns) = max (suc (levels_of inner)) (levels_of ns)

-- the levels of a tree, of which its root is the first
abbrev pub tree_levels : Tree → ℕ
tree_levels x = suc (levels_of x.children)

-- what `t` writes and has at most n levels, `u` writes as the same bytes
abbrev pub WritesAlike : Codec Tree → Codec Tree → ℕ → Type 0
WritesAlike t u n =
    (x : Tree) → t.is_valid x ≡ true → tree_levels x ≤ n → (u.is_valid x ≡ true) × (u.encode x ≡ t.encode x)

valid_element : (t : Codec Tree) (x : Tree) → (one_node t).is_valid (node.Element x) ≡ true → t.is_valid x ≡ true
unfolding one_node
valid_element t x ok = (and_parts (t.is_valid x) true ok).0

element_alike :
    (t u : Codec Tree) (x : Tree) → (u.is_valid x ≡ true) × (u.encode x ≡ t.encode x)
    → ((one_node u).is_valid (node.Element x) ≡ true) × ((one_node u).encode (node.Element x) ≡ (one_node t).encode (node.Element x))
unfolding one_node
element_alike t u x h = (and_from (u.is_valid x) true h.0 refl, ap (λ bs. (1 ∷ []) ++ bs) h.1)

text_alike :
    (t u : Codec Tree) (s : List ℕ) → (one_node t).is_valid (node.Text s) ≡ true
    → ((one_node u).is_valid (node.Text s) ≡ true) × ((one_node u).encode (node.Text s) ≡ (one_node t).encode (node.Text s))
unfolding one_node
text_alike t u s ok = (ok, refl)

nodes_alike :
    (t u : Codec Tree) (n : ℕ) → WritesAlike t u n
    → (ns : Nodes) → list_all (one_node t).is_valid (node_list ns) ≡ true → levels_of ns ≤ n
    → (list_all (one_node u).is_valid (node_list ns) ≡ true) × (encode_all (one_node u) (node_list ns) ≡ encode_all (one_node t) (node_list ns))
nodes_alike t u n alike no_nodes ok h = (refl, refl)
nodes_alike t u n alike (text_then s ns) ok h =
    let parts = and_parts ((one_node t).is_valid (node.Text s)) (list_all (one_node t).is_valid (node_list ns)) ok in
    let first = text_alike t u s parts.0 in
    let others = nodes_alike t u n alike ns parts.1 h in
    (and_from ((one_node u).is_valid (node.Text s)) (list_all (one_node u).is_valid (node_list ns)) first.0 others.0, λ i. first.1 i ++ others.1 i)
nodes_alike t u n alike (element_then tag inner ns) ok h =
    let x : Tree = record { tag = tag; children = inner } in
    let parts = and_parts ((one_node t).is_valid (node.Element x)) (list_all (one_node t).is_valid (node_list ns)) ok in
    let first = element_alike t u x (alike x (valid_element t x parts.0) (omega arith)) in
    let others = nodes_alike t u n alike ns parts.1 (omega arith) in
    (and_from ((one_node u).is_valid (node.Element x)) (list_all (one_node u).is_valid (node_list ns)) first.0 others.0, λ i. first.1 i ++ others.1 i)

over_alike : (t u : Codec Tree) (n : ℕ) → WritesAlike t u n → WritesAlike (element_over t) (element_over u) (suc n)
unfolding element_over nodes
over_alike t u n alike x ok h =
    let parts = and_parts (tag.is_valid x.tag) ((nodes t).is_valid x.children) ok in
    let content = nodes_alike t u n alike x.children parts.1 (omega arith) in
    (and_from (tag.is_valid x.tag) ((nodes u).is_valid x.children) parts.0 content.0, ap (λ bs. tag.encode x.tag ++ (bs ++ 0 ∷ [])) content.1)

-- what can be written at some number of levels can be written at each that its own levels do not exceed, as the same bytes
pub tree_alike : (levels n : ℕ) → WritesAlike (tree levels) (tree n) n
unfolding tree
tree_alike zero n x ok h = false_true ok
tree_alike (suc levels) zero x ok h = absurd (omega arith)
tree_alike (suc levels) (suc n) x ok h = over_alike (tree levels) (tree n) n (tree_alike levels n) x ok h

-- what can be written has at most so many levels
abbrev pub IsBounded : Codec Tree → ℕ → Type 0
IsBounded t n = (x : Tree) → t.is_valid x ≡ true → tree_levels x ≤ n

nodes_bounded :
    (t : Codec Tree) (n : ℕ) → IsBounded t n
    → (ns : Nodes) → list_all (one_node t).is_valid (node_list ns) ≡ true → levels_of ns ≤ n
nodes_bounded t n bounded no_nodes ok = omega arith
nodes_bounded t n bounded (text_then s ns) ok =
    nodes_bounded t n bounded ns (and_parts ((one_node t).is_valid (node.Text s)) (list_all (one_node t).is_valid (node_list ns)) ok).1
nodes_bounded t n bounded (element_then tag inner ns) ok =
    let x : Tree = record { tag = tag; children = inner } in
    let parts = and_parts ((one_node t).is_valid (node.Element x)) (list_all (one_node t).is_valid (node_list ns)) ok in
    let first : suc (levels_of inner) ≤ n = bounded x (valid_element t x parts.0) in
    let others = nodes_bounded t n bounded ns parts.1 in
    omega arith

over_bounded : (t : Codec Tree) (n : ℕ) → IsBounded t n → IsBounded (element_over t) (suc n)
unfolding element_over nodes
over_bounded t n bounded x ok =
    let parts = and_parts (tag.is_valid x.tag) ((nodes t).is_valid x.children) ok in
    let content : levels_of x.children ≤ n = nodes_bounded t n bounded x.children parts.1 in
    omega arith

pub tree_bounded : (levels : ℕ) → IsBounded (tree levels) levels
unfolding tree
tree_bounded zero x ok = false_true ok
tree_bounded (suc levels) x ok = over_bounded (tree levels) levels (tree_bounded levels) x ok
