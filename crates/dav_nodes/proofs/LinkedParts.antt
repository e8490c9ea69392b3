-- The nodes that are in a tree, among others that are not, after a change of one of them.
use Rattle.std.proofs.Common.{◌≡◌, ◌≢◌, ℕ, ◌==◌, Bool, true, false, cond, not, List, Option, Some, None, is_some, string_bytes, refl, sym, ap, ◌∙◌, arith}
use Rattle.std.specs.Option.{option_map, option_and_then}
use Rattle.std.specs.BTreeMap.{IsEmpty, get_by_text}
use Rattle.std.proofs.lemmas.Bool.Decides.{nat_tests}
use Rattle.slab.specs.Slab.{Slab, get, Updates}
use Rattle.dav_nodes.specs.Links.{member_at}
use Rattle.dav_nodes.specs.NodeChanges.{AddsNode, SetsMember}
use Rattle.dav_nodes.specs.Loading.{if_linked, linked_part}
use Rattle.dav_nodes.specs.declared.node.Node.{Node}
use Rattle.dav_nodes.specs.declared.nodes.loading.TheConstants.{UNLINKED}
use Rattle.dav_nodes.proofs.NodeSteps.{childless}

-- a node with this spot is in the tree
abbrev spot_linked : Option (ℕ × List ℕ) → Bool
spot_linked None = false
spot_linked (Some spot) = not (spot.0 == UNLINKED)

abbrev gate : {X : Type 0} → Bool → Option X → Option X
gate true o = o
gate false o = None

not_unlinked : (n : ℕ) → n ≢ UNLINKED → (n == UNLINKED) ≡ false
not_unlinked n apart = by (n == UNLINKED) refl
  where
    by : (b : Bool) → (n == UNLINKED) ≡ b → b ≡ false
    by false is = refl
    by true is = absurd (apart (grind (arith, nat_tests)))

module _ {R : Type 0} where
  abbrev spot_of : Option (Node R) → Option (ℕ × List ℕ)
  spot_of slot = option_map (λ m. (m.above, string_bytes m.name)) slot

  -- what is known of a node, if it is in the tree
  gated : {X : Type 0} (F : Option (Node R) → Option X) → F None ≡ None → (slot : Option (Node R)) → F (if_linked slot) ≡ gate (spot_linked (spot_of slot)) (F slot)
  gated F none None = none
  gated F none (Some m) = by (m.above == UNLINKED)
    where
      by : (b : Bool) → F (cond b None (Some m)) ≡ gate (not b) (F (Some m))
      by true = none
      by false = refl

  linked_spot : (slot : Option (Node R)) → is_some (if_linked slot) ≡ true → spot_linked (spot_of slot) ≡ true
  linked_spot slot is = by (spot_linked (spot_of slot)) (gated (λ o. o) refl slot)
    where
      by : (b : Bool) → if_linked slot ≡ gate b slot → b ≡ true
      by true e = refl
      by false e = absurd (let both : true ≡ false = sym is ∙ ap is_some e in cc)

  -- a node in the tree is as it is
  pub linked_same : (slot : Option (Node R)) → is_some (if_linked slot) ≡ true → if_linked slot ≡ slot
  linked_same slot is = gated (λ o. o) refl slot ∙ ap (λ b. gate b slot) (linked_spot slot is)

module _ {R : Type 0} (old mid new : Slab (Node R)) (above : ℕ) (name : List ℕ) (number : ℕ) (node : Node R) (x : R)
    (there : is_some (linked_part (get old) above) ≡ true) (other : above ≢ UNLINKED) (free : linked_part (get old) number ≡ None)
    (sets : SetsMember (get old) (get mid) above name (Some number)) (puts : Updates mid new number (Some node))
    (node_value : node.value ≡ x) (node_above : node.above ≡ above) (node_name : string_bytes node.name ≡ name) (empty : IsEmpty node.members) where
  apart : above ≢ number
  apart e = absurd (let both : true ≡ false = sym there ∙ ap is_some (ap (linked_part (get old)) e ∙ free) in cc)

  at_number : linked_part (get new) number ≡ Some node
  at_number =
      ap if_linked puts.changed
      ∙ ap (λ b. cond b None (Some node)) (ap (λ n. n == UNLINKED) node_above ∙ not_unlinked above other)

  -- what is the same of another node is the same of it if it is in the tree
  elsewhere : {X : Type 0} (F : Option (Node R) → Option X) → F None ≡ None → (n : ℕ) → n ≢ number → F (get mid n) ≡ F (get old n) → F (linked_part (get new) n) ≡ F (linked_part (get old) n)
  elsewhere F none n ne same =
      ap (λ o. F (if_linked o)) (puts.others n ne) ∙ gated F none (get mid n)
      ∙ (λ i. gate (spot_linked (sets.spots n i)) (same i)) ∙ sym (gated F none (get old n))

  abbrev value_in : Option (Node R) → Option R
  value_in slot = option_map (λ m. m.value) slot

  abbrev member_in : List ℕ → Option (Node R) → Option ℕ
  member_in s slot = option_and_then (λ m. get_by_text m.members s) slot

  entered : member_at (linked_part (get new)) name above ≡ Some number
  entered =
      ap (λ o. member_in name (if_linked o)) (puts.others above apart) ∙ gated (member_in name) refl (get mid above)
      ∙ ap (λ b. gate b (member_in name (get mid above))) (ap spot_linked (sets.spots above) ∙ linked_spot (get old above) there) ∙ sets.set

  -- the node is added to those in the tree
  pub adds_linked : AddsNode (linked_part (get old)) (linked_part (get new)) above name number x
  adds_linked = record {
    unused = ap value_in free;
    added = ap value_in at_number ∙ ap Some node_value;
    values = λ n ne. elsewhere value_in refl n ne (sets.values n);
    childless = λ s. ap (member_in s) at_number ∙ childless node.members empty s;
    entered = entered;
    names = λ s ne. elsewhere (member_in s) refl above apart (sets.names s ne);
    others = λ s n ne nn. elsewhere (member_in s) refl n nn (sets.others s n ne);
    spot = ap spot_of at_number ∙ (λ i. Some (node_above i, node_name i));
    spots = λ n ne. elsewhere spot_of refl n ne (sets.spots n);
  }
