-- How an element that holds one element for each item of a list grows.
use Rattle.std.proofs.Common.{◌≡◌, ◌∙◌, ◌+◌, ◌++◌, ◌<◌, ℕ, List, [], ◌∷◌, length, take, get_or, map, ap, sym}
use Rattle.std.proofs.lemmas.List.{take_more, map-append}
use Rattle.dav_resource.specs.Tree.{Tree, append_nodes, one_element, elements}
use Rattle.dav_resource.specs.TreeLaws.{elements_snoc}

-- one more item
pub elements-next : {A : Type 0} (f : A → Tree) (xs : List A) (i : ℕ) (x : A) → i < length xs → x ≡ get_or xs i x → append_nodes (elements (map f (take i xs))) (one_element (f x)) ≡ elements (map f (take (i + 1) xs))
elements-next f xs i x inside is =
    elements_snoc (map f (take i xs)) (f x)
    ∙ ap elements (sym (map-append f (take i xs) (x ∷ [])))
    ∙ ap (λ y. elements (map f (take i xs ++ y ∷ []))) is
    ∙ ap (λ ys. elements (map f ys)) (sym (take_more xs i x inside))
