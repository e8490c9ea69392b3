-- The content of an element, read one node after the other.
use Rattle.std.proofs.Common.{◌≡◌, ◌∙◌, ℕ, zero, suc, ◌-◌, ◌<◌, ◌≤◌, refl, ap, sym, subst, List, [], ◌∷◌, ◌++◌, length, Some, None, Option, arith, append-nil}
use Rattle.std.proofs.lemmas.List.{length-append}
use Rattle.dav_resource.specs.Tree.{Tag, Tree, Nodes}
use Rattle.dav_resource.specs.Element.{nodes_of}
use Rattle.dav_resource.specs.declared.element.XMLNode.{XMLNode}
use Rattle.dav_resource.specs.declared.element.XMLNode.TheVariants as node
use Rattle.dav_wire.specs.Codec.{Codec, and_then}
use Rattle.dav_wire.specs.Numbers.{byte}
use Rattle.dav_wire.specs.NumberLaws.{byte-exact}
use Rattle.dav_wire.specs.Values.{utf8_text}
use Rattle.dav_wire.specs.Parts.{NeverZero, put_first, parse_until, parse_terminated}
use Rattle.dav_wire.specs.TerminatedLaws.{Begins, begins}
use Rattle.dav_wire.specs.Trees.{one_node, node_never_zero, nodes, tag, tree, element_over}
use Rattle.dav_wire.proofs.ListLemmas.{put_front, put_front-more, put_front-none}

-- ---- lengths

pub shorter : {A : Type 0} (a : Codec A) (bytes : List ℕ) (x : A) (rest : List ℕ) → a.parse bytes ≡ Some (x, rest) → length rest ≤ length bytes
shorter a bytes x rest e =
    let exact = a.is_exact bytes x rest e in
    omega (arith, ap length exact.1, length-append (a.encode x) rest)

pub shorter_by_one : (bytes : List ℕ) (x : ℕ) (rest : List ℕ) → byte.parse bytes ≡ Some (x, rest) → length rest < length bytes
shorter_by_one bytes x rest e =
    let exact = byte-exact bytes x rest e in
    omega (arith, ap length exact.1)

shorter_item : {A : Type 0} (a : Codec A) → NeverZero a → (bytes : List ℕ) (x : A) (rest : List ℕ) → a.parse bytes ≡ Some (x, rest) → length rest < length bytes
shorter_item a no_zero bytes x rest e =
    let exact = a.is_exact bytes x rest e in
    let at = begins a no_zero x exact.0 in
    omega (arith, ap length exact.1, length-append (a.encode x) rest, ap length at.is)

-- the byte that was read, by its value
pub is_read : (bytes : List ℕ) (b n : ℕ) (rest : List ℕ) → b ≡ n → byte.parse bytes ≡ Some (b, rest) → byte.parse bytes ≡ Some (n, rest)
is_read bytes b n rest same e = e ∙ ap (λ (m : ℕ). Some (m, rest)) same

-- ---- steps enough are as good as more

same_then : {A B : Type 0} (o : Option (A × List ℕ)) (f g : A → List ℕ → Option (B × List ℕ)) → ((x : A) (rest : List ℕ) → o ≡ Some (x, rest) → f x rest ≡ g x rest) → and_then o f ≡ and_then o g
same_then None f g same = refl
same_then (Some p) f g same = same p.0 p.1 refl

stable : {A : Type 0} (a : Codec A) → NeverZero a → (n m : ℕ) (bytes : List ℕ) → length bytes ≤ n → length bytes ≤ m → parse_until a n bytes ≡ parse_until a m bytes
stable a no_zero zero zero bytes h g = refl
stable a no_zero zero (suc m) [] h g = refl
stable a no_zero zero (suc m) (b ∷ bytes) h g = absurd (omega arith)
stable a no_zero (suc n) zero [] h g = refl
stable a no_zero (suc n) zero (b ∷ bytes) h g = absurd (omega arith)
stable a no_zero (suc n) (suc m) [] h g = refl
stable a no_zero (suc n) (suc m) (zero ∷ bytes) h g = refl
stable a no_zero (suc n) (suc m) (suc b ∷ bytes) h g =
    same_then (a.parse (suc b ∷ bytes)) (λ x after. put_first x (parse_until a n after)) (λ x after. put_first x (parse_until a m after))
    (λ x rest e.
    let less : length rest < length (suc b ∷ bytes) = shorter_item a no_zero (suc b ∷ bytes) x rest e in
    ap (put_first x) (stable a no_zero n m rest (omega arith) (omega arith)))

terminated_step : {A : Type 0} (a : Codec A) → NeverZero a → (b : ℕ) (bytes : List ℕ) → parse_terminated a (suc b ∷ bytes) ≡ and_then (a.parse (suc b ∷ bytes)) (λ x after. put_first x (parse_terminated a after))
terminated_step a no_zero b bytes =
    same_then (a.parse (suc b ∷ bytes)) (λ x after. put_first x (parse_until a (length bytes) after)) (λ x after. put_first x (parse_terminated a after))
    (λ x rest e.
    let less : length rest < length (suc b ∷ bytes) = shorter_item a no_zero (suc b ∷ bytes) x rest e in
    ap (put_first x) (stable a no_zero (length bytes) (length rest) rest (omega arith) (omega arith)))

terminated_at : {A : Type 0} (a : Codec A) → NeverZero a → (bytes : List ℕ) → Begins bytes → parse_terminated a bytes ≡ and_then (a.parse bytes) (λ x after. put_first x (parse_terminated a after))
terminated_at a no_zero bytes at =
    subst (λ bs. parse_terminated a bs ≡ and_then (a.parse bs) (λ x after. put_first x (parse_terminated a after))) (sym at.is)
    (terminated_step a no_zero at.first at.others)

-- ---- what is read so far

pub record NodesSoFar (t : Codec Tree) (old : List ℕ) (done : List XMLNode) (bytes : List ℕ) : Type 0 where
  pub so_far : parse_terminated (one_node t) old ≡ put_front done (parse_terminated (one_node t) bytes)

pub nodes_begin : (t : Codec Tree) (bytes : List ℕ) → NodesSoFar t bytes [] bytes
nodes_begin t bytes = record { so_far = sym (put_front-none (parse_terminated (one_node t) bytes)) }

-- the first byte is b, which is not 0
begins_with : (bytes : List ℕ) (b : ℕ) (rest : List ℕ) → byte.parse bytes ≡ Some (b, rest) → (b ≡ 0 → ⊥) → Begins bytes
begins_with bytes zero rest e not_zero = absurd (not_zero refl)
begins_with bytes (suc b) rest e not_zero = record { first = b; others = rest; is = (byte-exact bytes (suc b) rest e).1 }

more : (t : Codec Tree) (old : List ℕ) (done : List XMLNode) (bytes : List ℕ) (x : XMLNode) (rest : List ℕ) → NodesSoFar t old done bytes → Begins bytes → (one_node t).parse bytes ≡ Some (x, rest) → NodesSoFar t old (done ++ x ∷ []) rest
more t old done bytes x rest h at e =
    record {
      so_far =
          h.so_far ∙ ap (put_front done) (terminated_at (one_node t) (node_never_zero t) bytes at)
          ∙ ap (λ (o : Option (XMLNode × List ℕ)). put_front done (and_then o (λ y after. put_first y (parse_terminated (one_node t) after)))) e
          ∙ put_front-more done x (parse_terminated (one_node t) rest);
    }

fail : (t : Codec Tree) (old : List ℕ) (done : List XMLNode) (bytes : List ℕ) → NodesSoFar t old done bytes → parse_terminated (one_node t) bytes ≡ None → (nodes t).parse old ≡ None
unfolding nodes
fail t old done bytes h none = rw (h.so_far, none) refl

fail_at : (t : Codec Tree) (old : List ℕ) (done : List XMLNode) (bytes : List ℕ) → NodesSoFar t old done bytes → Begins bytes → (one_node t).parse bytes ≡ None → (nodes t).parse old ≡ None
fail_at t old done bytes h at none =
    fail t old done bytes h
    (terminated_at (one_node t) (node_never_zero t) bytes at
    ∙ ap (λ (o : Option (XMLNode × List ℕ)). and_then o (λ y after. put_first y (parse_terminated (one_node t) after))) none)

-- ---- the ways a step goes on

pub nodes_end : (t : Codec Tree) (old : List ℕ) (done : List XMLNode) (bytes rest : List ℕ) → NodesSoFar t old done bytes → byte.parse bytes ≡ Some (0, rest) → (nodes t).parse old ≡ Some (nodes_of done, rest)
unfolding nodes
nodes_end t old done bytes rest h e =
    let at : bytes ≡ 0 ∷ rest = (byte-exact bytes 0 rest e).1 in
    rw (h.so_far, at, append-nil) refl

no_byte : (t : Codec Tree) (bytes : List ℕ) → byte.parse bytes ≡ None → (one_node t).parse bytes ≡ None
unfolding one_node
no_byte t bytes none = rw none refl

none_at : (t : Codec Tree) (bytes : List ℕ) → byte.parse bytes ≡ None → parse_terminated (one_node t) bytes ≡ None
none_at t [] none = refl
none_at t (zero ∷ bytes) none = cc
none_at t (suc b ∷ bytes) none =
    terminated_step (one_node t) (node_never_zero t) b bytes
    ∙ ap (λ (o : Option (XMLNode × List ℕ)). and_then o (λ y after. put_first y (parse_terminated (one_node t) after))) (no_byte t (suc b ∷ bytes) none)

pub nodes_cut : (t : Codec Tree) (old : List ℕ) (done : List XMLNode) (bytes : List ℕ) → NodesSoFar t old done bytes → byte.parse bytes ≡ None → (nodes t).parse old ≡ None
nodes_cut t old done bytes h none = fail t old done bytes h (none_at t bytes none)

one_element : (t : Codec Tree) (bytes mid : List ℕ) (x : Tree) (rest : List ℕ) → byte.parse bytes ≡ Some (1, mid) → t.parse mid ≡ Some (x, rest) → (one_node t).parse bytes ≡ Some (node.Element x, rest)
unfolding one_node
one_element t bytes mid x rest e f = rw (e, f) refl

pub nodes_element : (t : Codec Tree) (old : List ℕ) (done : List XMLNode) (bytes mid : List ℕ) (x : Tree) (rest : List ℕ) → NodesSoFar t old done bytes → byte.parse bytes ≡ Some (1, mid) → t.parse mid ≡ Some (x, rest) → NodesSoFar t old (done ++ node.Element x ∷ []) rest
nodes_element t old done bytes mid x rest h e f =
    more t old done bytes (node.Element x) rest h (begins_with bytes 1 mid e (λ z. omega (arith, z))) (one_element t bytes mid x rest e f)

no_element : (t : Codec Tree) (bytes mid : List ℕ) → byte.parse bytes ≡ Some (1, mid) → t.parse mid ≡ None → (one_node t).parse bytes ≡ None
unfolding one_node
no_element t bytes mid e none = rw (e, none) refl

pub nodes_no_element : (t : Codec Tree) (old : List ℕ) (done : List XMLNode) (bytes mid : List ℕ) → NodesSoFar t old done bytes → byte.parse bytes ≡ Some (1, mid) → t.parse mid ≡ None → (nodes t).parse old ≡ None
nodes_no_element t old done bytes mid h e none =
    fail_at t old done bytes h (begins_with bytes 1 mid e (λ z. omega (arith, z))) (no_element t bytes mid e none)

one_text : (t : Codec Tree) (bytes mid s rest : List ℕ) → byte.parse bytes ≡ Some (2, mid) → utf8_text.parse mid ≡ Some (s, rest) → (one_node t).parse bytes ≡ Some (node.Text s, rest)
unfolding one_node
one_text t bytes mid s rest e f = rw (e, f) refl

pub nodes_text : (t : Codec Tree) (old : List ℕ) (done : List XMLNode) (bytes mid s rest : List ℕ) → NodesSoFar t old done bytes → byte.parse bytes ≡ Some (2, mid) → utf8_text.parse mid ≡ Some (s, rest) → NodesSoFar t old (done ++ node.Text s ∷ []) rest
nodes_text t old done bytes mid s rest h e f =
    more t old done bytes (node.Text s) rest h (begins_with bytes 2 mid e (λ z. omega (arith, z))) (one_text t bytes mid s rest e f)

no_text : (t : Codec Tree) (bytes mid : List ℕ) → byte.parse bytes ≡ Some (2, mid) → utf8_text.parse mid ≡ None → (one_node t).parse bytes ≡ None
unfolding one_node
no_text t bytes mid e none = rw (e, none) refl

pub nodes_no_text : (t : Codec Tree) (old : List ℕ) (done : List XMLNode) (bytes mid : List ℕ) → NodesSoFar t old done bytes → byte.parse bytes ≡ Some (2, mid) → utf8_text.parse mid ≡ None → (nodes t).parse old ≡ None
nodes_no_text t old done bytes mid h e none =
    fail_at t old done bytes h (begins_with bytes 2 mid e (λ z. omega (arith, z))) (no_text t bytes mid e none)

unknown : (t : Codec Tree) (bytes mid : List ℕ) (b : ℕ) → byte.parse bytes ≡ Some (b, mid) → (b ≡ 0 → ⊥) → (b ≡ 1 → ⊥) → (b ≡ 2 → ⊥) → (one_node t).parse bytes ≡ None
unfolding one_node
unknown t bytes mid zero e not_0 not_1 not_2 = absurd (not_0 refl)
unknown t bytes mid (suc zero) e not_0 not_1 not_2 = absurd (not_1 refl)
unknown t bytes mid (suc (suc zero)) e not_0 not_1 not_2 = absurd (not_2 refl)
unknown t bytes mid (suc (suc (suc b))) e not_0 not_1 not_2 = rw e refl

pub nodes_unknown : (t : Codec Tree) (old : List ℕ) (done : List XMLNode) (bytes mid : List ℕ) (b : ℕ) → NodesSoFar t old done bytes → byte.parse bytes ≡ Some (b, mid) → (b ≡ 0 → ⊥) → (b ≡ 1 → ⊥) → (b ≡ 2 → ⊥) → (nodes t).parse old ≡ None
nodes_unknown t old done bytes mid b h e not_0 not_1 not_2 =
    fail_at t old done bytes h (begins_with bytes b mid e not_0) (unknown t bytes mid b e not_0 not_1 not_2)

-- ---- elements

pub tree_at : (levels : ℕ) → (levels ≡ 0 → ⊥) → tree levels ≡ element_over (tree (levels - 1))
unfolding tree
tree_at zero not_zero = absurd (not_zero refl)
tree_at (suc levels) not_zero = let e : suc levels - 1 ≡ levels = omega arith in rw e refl

pub no_levels : (levels : ℕ) (old : List ℕ) → levels ≡ 0 → (tree levels).parse old ≡ None
unfolding tree
no_levels levels old e = rw e refl

over_reads : (t : Codec Tree) (old mid rest : List ℕ) (x : Tag) (ns : Nodes) → tag.parse old ≡ Some (x, mid) → (nodes t).parse mid ≡ Some (ns, rest) → (element_over t).parse old ≡ Some (record { tag = x; children = ns }, rest)
unfolding element_over
over_reads t old mid rest x ns e f = rw (e, f) refl

over_no_tag : (t : Codec Tree) (old : List ℕ) → tag.parse old ≡ None → (element_over t).parse old ≡ None
unfolding element_over
over_no_tag t old none = rw none refl

over_no_nodes : (t : Codec Tree) (old mid : List ℕ) (x : Tag) → tag.parse old ≡ Some (x, mid) → (nodes t).parse mid ≡ None → (element_over t).parse old ≡ None
unfolding element_over
over_no_nodes t old mid x e none = rw (e, none) refl

pub element_reads : (levels : ℕ) (old mid rest : List ℕ) (x : Tag) (ns : Nodes) → (levels ≡ 0 → ⊥) → tag.parse old ≡ Some (x, mid) → (nodes (tree (levels - 1))).parse mid ≡ Some (ns, rest) → (tree levels).parse old ≡ Some (record { tag = x; children = ns }, rest)
element_reads levels old mid rest x ns not_zero e f = rw (tree_at levels not_zero) (over_reads (tree (levels - 1)) old mid rest x ns e f)

pub element_no_tag : (levels : ℕ) (old : List ℕ) → (levels ≡ 0 → ⊥) → tag.parse old ≡ None → (tree levels).parse old ≡ None
element_no_tag levels old not_zero none = rw (tree_at levels not_zero) (over_no_tag (tree (levels - 1)) old none)

pub element_no_nodes : (levels : ℕ) (old mid : List ℕ) (x : Tag) → (levels ≡ 0 → ⊥) → tag.parse old ≡ Some (x, mid) → (nodes (tree (levels - 1))).parse mid ≡ None → (tree levels).parse old ≡ None
element_no_nodes levels old mid x not_zero e none = rw (tree_at levels not_zero) (over_no_nodes (tree (levels - 1)) old mid x e none)
