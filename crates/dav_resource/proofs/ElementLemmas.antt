-- How what an element is seen as follows its fields.
use Rattle.std.proofs.Common.{◌≡◌, ◌∙◌, ◌+◌, ◌<◌, ◌≤◌, ℕ, refl, ap, sym, List, [], ◌∷◌, ◌++◌, map, string_bytes, length, take, get_or, arith, Some, None, remove, cond, if◌then◌else◌, not, bytes_eq, suc, Bool, position, subst, true, false, one-add}
use Rattle.std.proofs.lemmas.List.{take_more}
use Rattle.std.proofs.lemmas.List.Sums.{prefix_len_stops}
use Rattle.std.proofs.lemmas.Option.{cond_some}
use Rattle.std.proofs.lemmas.Bool.Decides.{nat_tests}
use borrow.Author.Tests.{ltb-true}
use Rattle.std.proofs.Math.Dec.{ltb}
use Rattle.std.specs.List.{AllZip, position_or_len}
use Rattle.std.specs.Prelude.{String}
use Rattle.std.specs.declared.alloc.Global.{Global}
use Rattle.std.specs.declared.cmp.Ordering.{Ordering}
use Rattle.std.specs.declared.cmp.Ordering.TheVariants.{Less, Equal, Greater}
use Rattle.std.specs.Ordering.{match_ordering}
use Rattle.std.specs.String.{string_cmp}
use Rattle.std.specs.BTreeMap.{insert_entry}
use Rattle.dav_resource.specs.Tree.{Tree, Nodes, append_nodes, text_then, element_then, put_attribute, texts_of, first_named, without_first_named}
use Rattle.dav_resource.proofs.TreeLemmas.{texts_of-element}
use Rattle.dav_resource.specs.Element.{nodes_of, text_pair, node_is_named}
use Rattle.dav_resource.specs.declared.element.XMLNode.{XMLNode}
use Rattle.dav_resource.specs.declared.element.XMLNode.TheVariants as node

pub nodes_of-append : (xs ys : List XMLNode) → nodes_of (xs ++ ys) ≡ append_nodes (nodes_of xs) (nodes_of ys)
nodes_of-append [] ys = refl
nodes_of-append (node.Text s ∷ xs) ys = ap (text_then s) (nodes_of-append xs ys)
nodes_of-append (node.Element t ∷ xs) ys = ap (element_then t.tag t.children) (nodes_of-append xs ys)

-- a function goes through a choice by order
map-match_ordering : {A B : Type 0} (f : A → B) (o : Ordering) (x y z : A) → f (match_ordering o x y z) ≡ match_ordering o (f x) (f y) (f z)
map-match_ordering f Less x y z = refl
map-match_ordering f Equal x y z = refl
map-match_ordering f Greater x y z = refl

pub text_pairs-insert : (es : List (String Global × String Global)) (k v : String Global) → map text_pair (insert_entry string_cmp es k v) ≡ put_attribute (map text_pair es) (string_bytes k) (string_bytes v)
text_pairs-insert [] k v = refl
text_pairs-insert (e ∷ es) k v =
    map-match_ordering (map text_pair) (string_cmp k e.0) ((k, v) ∷ e ∷ es) ((e.0, v) ∷ es) (e ∷ insert_entry string_cmp es k v)
    ∙ ap (λ rest. match_ordering (string_cmp k e.0) ((string_bytes k, string_bytes v) ∷ text_pair e ∷ map text_pair es) ((string_bytes e.0, string_bytes v) ∷ map text_pair es) (text_pair e ∷ rest))
    (text_pairs-insert es k v)

-- one more node
pub nodes_of-next : (xs : List XMLNode) (i : ℕ) (x : XMLNode) → i < length xs → x ≡ get_or xs i x → nodes_of (take (i + 1) xs) ≡ append_nodes (nodes_of (take i xs)) (nodes_of (x ∷ []))
nodes_of-next xs i x inside is =
    ap nodes_of (take_more xs i x inside) ∙ nodes_of-append (take i xs) (get_or xs i x ∷ []) ∙ ap (λ y. append_nodes (nodes_of (take i xs)) (nodes_of (y ∷ []))) (sym is)

-- a node that is no text leaves the texts as they are
pub texts_of-other : (ns : Nodes) (x : XMLNode) → ((s : List ℕ) → x ≡ node.Text s → ⊥) → texts_of (append_nodes ns (nodes_of (x ∷ []))) ≡ texts_of ns
texts_of-other ns (node.Text s) other = absurd (other s refl)
texts_of-other ns (node.Element t) other = texts_of-element ns t

-- ---- a child by its name

-- where the first element of this name stands, or the length
abbrev pub place_of : List ℕ → List XMLNode → ℕ
place_of name xs = position_or_len (node_is_named name) xs

-- what the first element of a name is, and what is left without it, by where it stands
pub record Found (name : List ℕ) (xs : List XMLNode) (t : Tree) (i : ℕ) : Type 0 where
  pub first : first_named name (nodes_of xs) ≡ Some t
  pub left : without_first_named name (nodes_of xs) ≡ nodes_of (remove xs i)

pub record NotFound (name : List ℕ) (xs : List XMLNode) : Type 0 where
  pub first : first_named name (nodes_of xs) ≡ None
  pub left : without_first_named name (nodes_of xs) ≡ nodes_of xs

-- one step past a node that is not the one
past : (name : List ℕ) (x : XMLNode) (xs : List XMLNode) (t : Tree) (n : ℕ) → 1 + n < suc (length xs) → node.Element t ≡ get_or (x ∷ xs) (1 + n) (node.Element t) → (n < length xs) × (node.Element t ≡ get_or xs n (node.Element t)) × (remove (x ∷ xs) (1 + n) ≡ x ∷ remove xs n)
past name x xs t n inside is = (omega arith, rw one-add at is, rw one-add)

none_step : (b : Bool) (name : List ℕ) (u : Tree) (xs : List XMLNode) (n : ℕ) → suc (length xs) ≤ cond (not b) (1 + n) 0 → (length xs ≤ n → NotFound name xs) → ((if b then Some u else first_named name (nodes_of xs)) ≡ None) × ((if b then nodes_of xs else element_then u.tag u.children (without_first_named name (nodes_of xs))) ≡ element_then u.tag u.children (nodes_of xs))
none_step true name u xs n none rest = absurd (omega arith)
none_step false name u xs n none rest =
    let r : NotFound name xs = rest (omega arith) in
    (r.first, ap (element_then u.tag u.children) r.left)

pub none_named : (name : List ℕ) (xs : List XMLNode) → length xs ≤ place_of name xs → NotFound name xs
none_named name [] none = record { first = refl; left = refl }
none_named name (node.Text s ∷ xs) none =
    let r : NotFound name xs = none_named name xs (omega arith) in
    record { first = r.first; left = ap (text_then s) r.left }
none_named name (node.Element u ∷ xs) none =
    let r = none_step (bytes_eq u.tag.name name) name u xs (place_of name xs) none (none_named name xs) in
    record { first = r.0; left = r.1 }

found_step : (b : Bool) (name : List ℕ) (u t : Tree) (xs : List XMLNode) (n : ℕ) → cond (not b) (1 + n) 0 < suc (length xs) → node.Element t ≡ get_or (node.Element u ∷ xs) (cond (not b) (1 + n) 0) (node.Element t) → (n < length xs → node.Element t ≡ get_or xs n (node.Element t) → Found name xs t n) → ((if b then Some u else first_named name (nodes_of xs)) ≡ Some t) × ((if b then nodes_of xs else element_then u.tag u.children (without_first_named name (nodes_of xs))) ≡ nodes_of (remove (node.Element u ∷ xs) (cond (not b) (1 + n) 0)))
found_step true name u t xs n inside is rest = (cc, refl)
found_step false name u t xs n inside is rest =
    let p = past name (node.Element u) xs t n inside is in
    let r : Found name xs t n = rest p.0 p.1 in
    (r.first, ap (element_then u.tag u.children) r.left ∙ ap nodes_of (sym p.2))

pub found_named : (name : List ℕ) (xs : List XMLNode) (t : Tree) → place_of name xs < length xs → node.Element t ≡ get_or xs (place_of name xs) (node.Element t) → Found name xs t (place_of name xs)
found_named name [] t inside is = absurd (omega arith)
found_named name (node.Text s ∷ xs) t inside is =
    let p = past name (node.Text s) xs t (place_of name xs) inside is in
    let r : Found name xs t (place_of name xs) = found_named name xs t p.0 p.1 in
    record { first = r.first; left = ap (text_then s) r.left ∙ ap nodes_of (sym p.2) }
found_named name (node.Element u ∷ xs) t inside is =
    let r = found_step (bytes_eq u.tag.name name) name u t xs (place_of name xs) inside is (found_named name xs t) in
    record { first = r.0; left = r.1 }

-- what stands where the search for a name ended
abbrev pub IsFoundNode : List ℕ → List XMLNode → ℕ → XMLNode → Type 0
IsFoundNode name xs i (node.Text s) = ⊥
IsFoundNode name xs i (node.Element t) = Found name xs t i

at_place : (name : List ℕ) (xs : List XMLNode) (x : XMLNode) → place_of name xs < length xs → x ≡ get_or xs (place_of name xs) x → node_is_named name x ≡ true → IsFoundNode name xs (place_of name xs) x
at_place name xs (node.Text s) inside is named = cc
at_place name xs (node.Element t) inside is named = found_named name xs t inside is

not-false : (b : Bool) → not b ≡ false → b ≡ true
not-false true e = refl
not-false false e = cc

pub found_node : (name : List ℕ) (xs : List XMLNode) (i : ℕ) (x : XMLNode) → Some i ≡ position (node_is_named name) xs → x ≡ get_or xs i x → IsFoundNode name xs i x
found_node name xs i x found is =
    let some = cond_some (ltb (place_of name xs) (length xs)) (place_of name xs) i (sym found) in
    let inside : place_of name xs < length xs = omega (arith, ltb-true, some.0) in
    let here : x ≡ get_or xs (place_of name xs) x = rw some.1 is in
    let named : node_is_named name x ≡ true = not-false (node_is_named name x) (ap (λ y. not (node_is_named name y)) here ∙ prefix_len_stops (λ y. not (node_is_named name y)) xs x inside) in
    subst (λ j. IsFoundNode name xs j x) some.1 (at_place name xs x inside here named)

outside : (m n : ℕ) → None ≡ cond (ltb m n) (Some m) None → n ≤ m
outside m n none = grind (arith, nat_tests)

pub not_found_node : (name : List ℕ) (xs : List XMLNode) → None ≡ position (node_is_named name) xs → NotFound name xs
not_found_node name xs none = none_named name xs (outside (place_of name xs) (length xs) none)

-- ---- copies

pub text_pairs-clone : (es fs : List (String Global × String Global)) → AllZip (λ p q. (string_bytes q.0 ≡ string_bytes p.0) × (string_bytes q.1 ≡ string_bytes p.1)) es fs → map text_pair fs ≡ map text_pair es
text_pairs-clone [] [] same = refl
text_pairs-clone [] (f ∷ fs) same = absurd same
text_pairs-clone (e ∷ es) [] same = absurd same
text_pairs-clone (e ∷ es) (f ∷ fs) same = λ i. (same.0.0 i, same.0.1 i) ∷ text_pairs-clone es fs same.1 i

-- what a call that builds an element is proved by
pub ruleset building = (nodes_of-append, text_pairs-insert)

-- what a walk over the children is proved by
pub ruleset walking = (nodes_of-append, nodes_of-next, text_pairs-clone)
