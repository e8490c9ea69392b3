-- The laws of nodes: how what is read of them follows one list of nodes put after another.
use Rattle.std.proofs.Common.{◌≡◌, ◌∙◌, ℕ, refl, ap, sym, List, [], ◌∷◌, ◌++◌, append_assoc, Some, unwrap_or}
use Rattle.std.proofs.lemmas.List.{append-nil}
use Rattle.std.proofs.lemmas.List.Folds.{concat-append}
use Rattle.std.specs.List.{concat}
use Rattle.dav_resource.specs.Tree.{Tree, Nodes, no_nodes, append_nodes, text_then, element_then, one_text, one_element, elements, elements_of, texts, texts_of, joined}

pub append_nodes-none : (ns : Nodes) → append_nodes ns no_nodes ≡ ns
append_nodes-none no_nodes = refl
append_nodes-none (text_then t ns) = ap (text_then t) (append_nodes-none ns)
append_nodes-none (element_then tag inner ns) = ap (element_then tag inner) (append_nodes-none ns)

pub append_nodes_assoc : (ks ms ns : Nodes) → append_nodes (append_nodes ks ms) ns ≡ append_nodes ks (append_nodes ms ns)
append_nodes_assoc no_nodes ms ns = refl
append_nodes_assoc (text_then t ks) ms ns = ap (text_then t) (append_nodes_assoc ks ms ns)
append_nodes_assoc (element_then tag inner ks) ms ns = ap (element_then tag inner) (append_nodes_assoc ks ms ns)

-- ---- elements

pub elements_of-elements : (ts : List Tree) → elements_of (elements ts) ≡ ts
elements_of-elements [] = refl
elements_of-elements (t ∷ ts) = ap (λ us. t ∷ us) (elements_of-elements ts)

pub elements_of-append : (ms ns : Nodes) → elements_of (append_nodes ms ns) ≡ elements_of ms ++ elements_of ns
elements_of-append no_nodes ns = refl
elements_of-append (text_then t ms) ns = elements_of-append ms ns
elements_of-append (element_then tag inner ms) ns = ap (λ ts. record { tag = tag; children = inner } ∷ ts) (elements_of-append ms ns)

-- ---- texts

pub texts-append : (ms ns : Nodes) → texts (append_nodes ms ns) ≡ texts ms ++ texts ns
texts-append no_nodes ns = refl
texts-append (text_then t ms) ns = ap (λ ts. t ∷ ts) (texts-append ms ns)
texts-append (element_then tag inner ms) ns = texts-append ms ns

joined-snoc : (ts : List (List ℕ)) (t : List ℕ) → joined (ts ++ t ∷ []) ≡ Some (unwrap_or (joined ts) [] ++ t)
joined-snoc [] t = simp append-nil
joined-snoc (u ∷ ts) t =
    ap (λ z. Some (u ++ z)) (concat-append ts (t ∷ []) ∙ ap (λ z. concat ts ++ z) (append-nil t))
    ∙ ap Some (sym (append_assoc u (concat ts) t))

-- one more text
pub texts_of-text : (ns : Nodes) (t : List ℕ) → texts_of (append_nodes ns (one_text t)) ≡ Some (unwrap_or (texts_of ns) [] ++ t)
texts_of-text ns t = rw texts-append (joined-snoc (texts ns) t)

-- one more element leaves the texts as they are
pub texts_of-element : (ns : Nodes) (t : Tree) → texts_of (append_nodes ns (one_element t)) ≡ texts_of ns
texts_of-element ns t = rw texts-append (simp append-nil)
