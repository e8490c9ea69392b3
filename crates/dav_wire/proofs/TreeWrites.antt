-- Writes of the parts of a tree.
use Rattle.std.proofs.Common.{◌≡◌, ◌∙◌, ℕ, zero, suc, ◌≤◌, arith, ◌-◌, true, ◌&&◌, refl, ap, sym, List, [], ◌∷◌, ◌++◌, map, length, string_bytes, String, Global, get_or, ◌<◌, Result}
use Rattle.std.proofs.lemmas.Bool.{and_from}
use Rattle.dav_resource.specs.Tree.{Tag, Tree}
use Rattle.dav_resource.specs.Element.{nodes_of}
use Rattle.dav_resource.specs.declared.element.XMLNode.{XMLNode}
use Rattle.dav_resource.specs.declared.element.XMLNode.TheVariants as node
use Rattle.std.specs.List.{list_all, flat_map}
use Rattle.std.specs.List.Sorted.{IsStrictlySortedBy}
use Rattle.std.specs.String.{string_cmp}
use Rattle.std.specs.Map.{keys_of}
use Rattle.std.specs.Ordering.{is_lt}
use Rattle.std.proofs.lemmas.Map.Keys.{sorted_head, sorted_tail}
use Rattle.std.proofs.lemmas.List.{append-nil, append_assoc, length-map}
use Rattle.dav_resource.specs.Element.{text_pair}
use Rattle.dav_wire.specs.Codec.{Codec}
use Rattle.dav_wire.specs.Numbers.{byte, number}
use Rattle.dav_wire.specs.Writes.{Writes, Appends}
use Rattle.dav_wire.proofs.WriteLemmas.{Run, writes_after, writes_as, list_written}
use Rattle.dav_wire.specs.Values.{utf8_text, list, optional}
use Rattle.dav_wire.specs.Trees.{attribute, attributes, is_ascending, is_key_before, one_node, node_list-of, nodes, tag, tree, element_over}
use Rattle.dav_wire.specs.TreeLaws.{levels_of}
use Rattle.dav_wire.proofs.NodeLemmas.{tree_at}

-- ---- one node

pub valid_element : (t : Codec Tree) (x : Tree) → t.is_valid x ≡ true → (one_node t).is_valid (node.Element x) ≡ true
unfolding one_node
valid_element t x ok = and_from (t.is_valid x) true ok refl

pub encode_element : (t : Codec Tree) (x : Tree) → (one_node t).encode (node.Element x) ≡ (1 ∷ []) ++ t.encode x
unfolding one_node
encode_element t x = refl

pub valid_text : (t : Codec Tree) (s : List ℕ) → utf8_text.is_valid s ≡ true → (one_node t).is_valid (node.Text s) ≡ true
unfolding one_node
valid_text t s ok = and_from (utf8_text.is_valid s) true ok refl

pub encode_text : (t : Codec Tree) (s : List ℕ) → (one_node t).encode (node.Text s) ≡ (2 ∷ []) ++ utf8_text.encode s
unfolding one_node
encode_text t s = refl

-- ---- the content of an element

pub valid_nodes : (t : Codec Tree) (xs : List XMLNode) → list_all (one_node t).is_valid xs ≡ true → (nodes t).is_valid (nodes_of xs) ≡ true
unfolding nodes
valid_nodes t xs ok = rw node_list-of ok

pub encode_nodes : (t : Codec Tree) (xs : List XMLNode) → (nodes t).encode (nodes_of xs) ≡ flat_map (one_node t).encode xs ++ 0 ∷ []
unfolding nodes
encode_nodes t xs = rw node_list-of refl

-- ---- elements

over_valid : (t : Codec Tree) (x : Tree) → tag.is_valid x.tag ≡ true → (nodes t).is_valid x.children ≡ true → (element_over t).is_valid x ≡ true
unfolding element_over
over_valid t x tag_ok ok = and_from (tag.is_valid x.tag) ((nodes t).is_valid x.children) tag_ok ok

over_encode : (t : Codec Tree) (x : Tree) → (element_over t).encode x ≡ tag.encode x.tag ++ (nodes t).encode x.children
unfolding element_over
over_encode t x = refl

pub valid_tree : (levels : ℕ) (x : Tree) → (levels ≡ 0 → ⊥) → tag.is_valid x.tag ≡ true → (nodes (tree (levels - 1))).is_valid x.children ≡ true → (tree levels).is_valid x ≡ true
valid_tree levels x not_zero tag_ok ok = rw (tree_at levels not_zero) (over_valid (tree (levels - 1)) x tag_ok ok)

pub encode_tree : (levels : ℕ) (x : Tree) → (levels ≡ 0 → ⊥) → (tree levels).encode x ≡ tag.encode x.tag ++ (nodes (tree (levels - 1))).encode x.children
encode_tree levels x not_zero = rw (tree_at levels not_zero) (over_encode (tree (levels - 1)) x)

-- the levels of a node among others
pub node_levels : (xs : List XMLNode) (i : ℕ) (d : XMLNode) → i < length xs → levels_of (nodes_of (get_or xs i d ∷ [])) ≤ levels_of (nodes_of xs)
node_levels [] i d inside = absurd (omega arith)
node_levels (node.Element x ∷ xs) zero d inside = omega arith
node_levels (node.Text s ∷ xs) zero d inside = omega arith
node_levels (node.Element x ∷ xs) (suc i) d inside = let others = node_levels xs i d (omega arith) in omega arith
node_levels (node.Text s ∷ xs) (suc i) d inside = node_levels xs i d (omega arith)

-- ---- attributes

string_pairs_ascend : (es : List (String Global × String Global)) → IsStrictlySortedBy string_cmp (keys_of es) → is_ascending (map text_pair es) ≡ true
string_pairs_ascend [] sorted = refl
string_pairs_ascend (e ∷ []) sorted = refl
string_pairs_ascend (e ∷ f ∷ es) sorted =
    let first = sorted_head string_cmp e.0 (f.0 ∷ keys_of es) sorted in
    let others = sorted_tail string_cmp e.0 (f.0 ∷ keys_of es) sorted in
    and_from (is_key_before (string_bytes e.0) (string_bytes f.0)) (is_ascending (map text_pair (f ∷ es)))
    (ap is_lt first.0) (string_pairs_ascend (f ∷ es) others)

pub attributes_written : (es : List (String Global × String Global)) (n : ℕ) (old mid new : List ℕ) → n ≡ length es → IsStrictlySortedBy string_cmp (keys_of es) → Appends number n old mid → Run attribute (map text_pair es) mid new → Appends attributes (map text_pair es) old new
unfolding attributes
attributes_written es n old mid new count sorted h g =
    let pairs : List (List ℕ × List ℕ) = map text_pair es in
    let all = list_written attribute pairs n old mid new (count ∙ sym (length-map es text_pair)) h g in
    record { valid = and_from ((list attribute).is_valid pairs) (is_ascending pairs) all.valid (string_pairs_ascend es sorted); is = all.is }

pub no_attributes : {U E : Type 0} (old new : List ℕ) (r : Result U E) → Writes number 0 old r new → Writes attributes [] old r new
unfolding attributes
no_attributes old new r h =
    writes_as number attributes 0 [] old new r (λ ok. and_from ((list attribute).is_valid []) true (and_from (number.is_valid 0) true ok refl) refl) (append-nil (number.encode 0)) h

-- ---- what was written part by part

pub nodes_written : (t : Codec Tree) (xs : List XMLNode) (old mid new : List ℕ) → Run (one_node t) xs old mid → Appends byte 0 mid new → Appends (nodes t) (nodes_of xs) old new
nodes_written t xs old mid new h g =
    record {
      valid = valid_nodes t xs h.valid;
      is =
          g.is ∙ ap (λ (bs : List ℕ). bs ++ 0 ∷ []) h.is ∙ append_assoc old (flat_map (one_node t).encode xs) (0 ∷ [])
          ∙ ap (λ (bs : List ℕ). old ++ bs) (sym (encode_nodes t xs));
    }

tag_valid : (x : Tag) → utf8_text.is_valid x.name ≡ true → (optional utf8_text).is_valid x.prefix ≡ true → (optional utf8_text).is_valid x.namespace ≡ true → attributes.is_valid x.attributes ≡ true → tag.is_valid x ≡ true
unfolding tag
tag_valid x name prefix namespace pairs =
    and_from (utf8_text.is_valid x.name) ((optional utf8_text).is_valid x.prefix && ((optional utf8_text).is_valid x.namespace && attributes.is_valid x.attributes)) name
    (and_from ((optional utf8_text).is_valid x.prefix) ((optional utf8_text).is_valid x.namespace && attributes.is_valid x.attributes) prefix
    (and_from ((optional utf8_text).is_valid x.namespace) (attributes.is_valid x.attributes) namespace pairs))

tag_encode : (x : Tag) → tag.encode x ≡ ((utf8_text.encode x.name ++ (optional utf8_text).encode x.prefix) ++ (optional utf8_text).encode x.namespace) ++ attributes.encode x.attributes
unfolding tag
tag_encode x =
    sym (append_assoc (utf8_text.encode x.name) ((optional utf8_text).encode x.prefix) ((optional utf8_text).encode x.namespace ++ attributes.encode x.attributes))
    ∙ sym (append_assoc (utf8_text.encode x.name ++ (optional utf8_text).encode x.prefix) ((optional utf8_text).encode x.namespace) (attributes.encode x.attributes))

pub tag_written : {U E : Type 0} (x : Tag) (old first second third new : List ℕ) (r : Result U E) → Appends utf8_text x.name old first → Appends (optional utf8_text) x.prefix first second → Appends (optional utf8_text) x.namespace second third → Writes attributes x.attributes third r new → Writes tag x old r new
tag_written x old first second third new r name prefix namespace h =
    let n : List ℕ = utf8_text.encode x.name in
    let p : List ℕ = (optional utf8_text).encode x.prefix in
    let s : List ℕ = (optional utf8_text).encode x.namespace in
    let before : third ≡ old ++ ((n ++ p) ++ s) =
    namespace.is ∙ ap (λ (bs : List ℕ). bs ++ s) (prefix.is ∙ ap (λ (bs : List ℕ). bs ++ p) name.is ∙ append_assoc old n p)
    ∙ append_assoc old (n ++ p) s in
    writes_after attributes tag x.attributes x old third new ((n ++ p) ++ s) r before
    (tag_valid x name.valid prefix.valid namespace.valid) (tag_encode x) h
