-- Laws of lists of elements.
use Rattle.std.specs.Prelude.{◌≡◌, List, [], ◌∷◌, ◌++◌, refl}
use Rattle.std.proofs.Common.{ap, sym}
use Rattle.dav_resource.specs.Tree.{Tree, element_then, append_nodes, one_element, elements}

pub elements_append : (ts us : List Tree) → elements (ts ++ us) ≡ append_nodes (elements ts) (elements us)
elements_append [] us = refl
elements_append (t ∷ ts) us = ap (element_then t.tag t.children) (elements_append ts us)

-- a list of elements with one more at its end
pub elements_snoc : (ts : List Tree) (t : Tree) → append_nodes (elements ts) (one_element t) ≡ elements (ts ++ t ∷ [])
elements_snoc ts t = sym (elements_append ts (t ∷ []))
