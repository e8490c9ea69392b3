-- An injective code of elements, by which proofs compare them, and the size of an element: this project's own choice.
use Rattle.std.specs.Prelude.{◌≡◌, ℕ, suc, ◌+◌, List, Option, refl}
use Rattle.std.specs.Coded.{Coded, code_by, coded×, coded_ℕ, coded_list, coded_option}
use Rattle.std.proofs.Common.{ap}
use Rattle.dav_resource.specs.Tree.{Tag, Nodes, no_nodes, text_then, element_then, Tree}
use base.Stored.{Gv, gnil, gnum, gcons}

-- the number of nodes, at every level
abbrev pub nodes_size : Nodes → ℕ
nodes_size no_nodes = 0
nodes_size (text_then t ms) = suc (nodes_size ms)
nodes_size (element_then tag inner ms) = suc (nodes_size inner + nodes_size ms)

abbrev pub tree_size : Tree → ℕ
tree_size t = nodes_size t.children

abbrev pub text_code : Coded (List ℕ)
text_code = coded_list coded_ℕ

abbrev pub tag_code : Coded Tag
tag_code =
    code_by (List ℕ × (Option (List ℕ) × (Option (List ℕ) × List (List ℕ × List ℕ))))
    (coded× text_code (coded× (coded_option text_code) (coded× (coded_option text_code) (coded_list (coded× text_code text_code)))))
    (λ t. (t.name, (t.prefix, (t.namespace, t.attributes))))
    (λ p. record { name = p.0; prefix = p.1.0; namespace = p.1.1.0; attributes = p.1.1.1 })
    (λ _. refl)

abbrev pub stored_nodes : Nodes → Gv
stored_nodes no_nodes = gnil
stored_nodes (text_then t ms) = gcons (gnum 0) (gcons (text_code.code t) (stored_nodes ms))
stored_nodes (element_then tag inner ms) =
    gcons (gnum 1) (gcons (tag_code.code tag) (gcons (stored_nodes inner) (stored_nodes ms)))

abbrev first : Gv → Gv
first gnil = gnil
first (gnum n) = gnil
first (gcons a b) = a

abbrev rest : Gv → Gv
rest gnil = gnil
rest (gnum n) = gnil
rest (gcons a b) = b

pub stored_nodes-one : (x y : Nodes) → stored_nodes x ≡ stored_nodes y → x ≡ y
stored_nodes-one no_nodes no_nodes e = refl
stored_nodes-one no_nodes (text_then u ns) e = cc
stored_nodes-one no_nodes (element_then tag inner ns) e = cc
stored_nodes-one (text_then t ms) no_nodes e = cc
stored_nodes-one (text_then t ms) (text_then u ns) e =
    λ i. text_then (text_code.inj t u (ap (λ g. first (rest g)) e) i) (stored_nodes-one ms ns (ap (λ g. rest (rest g)) e) i)
stored_nodes-one (text_then t ms) (element_then tag inner ns) e = cc
stored_nodes-one (element_then tag inner ms) no_nodes e = cc
stored_nodes-one (element_then tag inner ms) (text_then u ns) e = cc
stored_nodes-one (element_then tag inner ms) (element_then gat renni ns) e =
    λ i. element_then (tag_code.inj tag gat (ap (λ g. first (rest g)) e) i)
    (stored_nodes-one inner renni (ap (λ g. first (rest (rest g))) e) i)
    (stored_nodes-one ms ns (ap (λ g. rest (rest (rest g))) e) i)

abbrev pub nodes_code : Coded Nodes
nodes_code = record { code = stored_nodes; inj = stored_nodes-one }

abbrev pub tree_code : Coded Tree
tree_code = code_by (Tag × Nodes) (coded× tag_code nodes_code) (λ t. (t.tag, t.children)) (λ p. record { tag = p.0; children = p.1 }) (λ _. refl)
