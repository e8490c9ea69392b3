-- Steps from nodes to nodes: what a change of one slot, or of one map of members, does to values and members.
use Rattle.std.proofs.Common.{◌≡◌, ◌≢◌, ℕ, true, cond, List, [], Option, Some, None, String, string_bytes, is_some, refl, sym, ap, ◌∙◌, inl, inr}
use Rattle.std.specs.declared.alloc.Global.{Global}
use Rattle.std.specs.List.{slice_index_or}
use Rattle.std.specs.Option.{option_map, option_and_then}
use Rattle.std.specs.Str.{bytes_eq}
use Rattle.std.specs.Map.{update, lookup}
use Rattle.std.specs.Ordering.{nat_cmp}
use Rattle.std.specs.Cmp.Lexicographic.{slice_cmp}
use Rattle.std.specs.String.{string_cmp}
use Rattle.std.specs.BTreeMap.{BTreeMap, UpdatesBy, IsEmpty, get_by_text, is_at}
use Rattle.std.proofs.lemmas.Bool.{cases_eq, false_from_ne_true}
use Rattle.std.proofs.lemmas.Slice.Eq.{bytes_eq-Decides}
use Rattle.std.proofs.lemmas.Map.Text.{btree_map_updates_text}
use Rattle.slab.specs.Slab.{Slab, get, with_value, Updates}
use Rattle.slab.proofs.SlabLemmas.{Updates-with_value}
use Rattle.dav_nodes.specs.Tree.{root_tree}
use Rattle.dav_nodes.specs.Links.{AreLinked, AreSpots, value_at, member_at, spot_at}
use Rattle.dav_nodes.proofs.Linking.{linked_root, not_none}
use Rattle.dav_nodes.specs.NodeChanges.{SetsMember, SetsSpot, SameNodes}
use Rattle.dav_nodes.specs.declared.node.Node.{Node}

-- ---- names

same_name : (f : List ℕ → Option ℕ) (name : List ℕ) (slot : Option ℕ) → update bytes_eq f name slot name ≡ slot
same_name f name slot = ap (λ b. cond b slot (f name)) ((bytes_eq-Decides name name).1 refl)

other_name : (f : List ℕ → Option ℕ) (name s : List ℕ) (slot : Option ℕ) → s ≢ name → update bytes_eq f name slot s ≡ f s
other_name f name s slot apart =
    ap (λ b. cond b slot (f s)) (false_from_ne_true (bytes_eq name s) (λ e. apart (sym ((bytes_eq-Decides name s).0 e))))

-- ---- one slot is written

-- the node of a slab that is written through `get_mut`
pub written : {R : Type 0} (nodes : Slab (Node R)) (number : ℕ) (node after : Node R) → get nodes number ≡ Some node → Updates nodes (with_value nodes number after) number (Some after)
written nodes number node after there = Updates-with_value nodes number after (ap is_some there)

module _ {R : Type 0} (old new : Slab (Node R)) (number : ℕ) where
  -- what is the same of the written node is the same of all
  kept_at : {X : Type 0} (f : Node R → X) (node after : Node R) → f after ≡ f node → Updates old new number (Some after) → get old number ≡ Some node → (n : ℕ) → option_map f (get new n) ≡ option_map f (get old n)
  kept_at f node after same changes was n = elim (cases_eq n number) [
    | inl here ↦
        ap (λ m. option_map f (get new m)) here ∙ ap (option_map f) changes.changed ∙ ap Some same
        ∙ sym (ap (λ m. option_map f (get old m)) here ∙ ap (option_map f) was)
    | inr apart ↦ ap (option_map f) (changes.others n apart)
  ]

  -- a node whose members stay the same
  pub same_nodes : (node : Node R) (members : BTreeMap (String Global) ℕ) → Updates old new number (Some (record node { members = members })) → get old number ≡ Some node
      → members.entries ≡ node.members.entries → SameNodes (get old) (get new)
  same_nodes node members changes was same = record {
    values = kept_at (λ m. m.value) node (record node { members = members }) refl changes was;
    spots = kept_at (λ m. (m.above, string_bytes m.name)) node (record node { members = members }) refl changes was;
    members = λ s n. elim (cases_eq n number) [
      | inl here ↦
          ap (member_at (get new) s) here ∙ ap (option_and_then (λ (m : Node R). get_by_text m.members s)) changes.changed
          ∙ ap (λ es. lookup (is_at (λ k. slice_cmp nat_cmp s (string_bytes k))) es) same
          ∙ sym (ap (member_at (get old) s) here ∙ ap (option_and_then (λ (m : Node R). get_by_text m.members s)) was)
      | inr apart ↦ ap (option_and_then (λ (m : Node R). get_by_text m.members s)) (changes.others n apart)
    ];
  }

  -- a node whose members change
  pub sets_member : (name : List ℕ) (slot : Option ℕ) (node : Node R) (members : BTreeMap (String Global) ℕ)
      → Updates old new number (Some (record node { members = members })) → get old number ≡ Some node
      → UpdatesBy string_cmp (λ k. slice_cmp nat_cmp name (string_bytes k)) node.members members slot → SetsMember (get old) (get new) number name slot
  sets_member name slot node members changes was updates = record {
    values = kept_at (λ m. m.value) node (record node { members = members }) refl changes was;
    spots = kept_at (λ m. (m.above, string_bytes m.name)) node (record node { members = members }) refl changes was;
    set = here name ∙ same_name (get_by_text node.members) name slot;
    names = λ s apart. here s ∙ other_name (get_by_text node.members) name s slot apart ∙ sym (ap (option_and_then (λ (m : Node R). get_by_text m.members s)) was);
    others = λ s n apart. ap (option_and_then (λ (m : Node R). get_by_text m.members s)) (changes.others n apart);
  }
    where
      here : (s : List ℕ) → member_at (get new) s number ≡ update bytes_eq (get_by_text node.members) name slot s
      here s = ap (option_and_then (λ (m : Node R). get_by_text m.members s)) changes.changed ∙ btree_map_updates_text name node.members members slot updates s

  -- a node whose spot changes
  pub sets_spot : (above : ℕ) (name : String Global) (node : Node R) → Updates old new number (Some (record node { above = above; name = name })) → get old number ≡ Some node
      → SetsSpot (get old) (get new) number above (string_bytes name)
  sets_spot above name node changes was = record {
    values = kept_at (λ m. m.value) node (record node { above = above; name = name }) refl changes was;
    members = λ s n. elim (cases_eq n number) [
      | inl here ↦
          ap (member_at (get new) s) here ∙ ap (option_and_then (λ (m : Node R). get_by_text m.members s)) changes.changed
          ∙ sym (ap (member_at (get old) s) here ∙ ap (option_and_then (λ (m : Node R). get_by_text m.members s)) was)
      | inr apart ↦ ap (option_and_then (λ (m : Node R). get_by_text m.members s)) (changes.others n apart)
    ];
    spot =
        ap (option_map (λ (m : Node R). (m.above, string_bytes m.name))) changes.changed
        ∙ sym (ap (option_map (λ _. (above, string_bytes name))) (ap (option_map (λ (m : Node R). (m.above, string_bytes m.name))) was));
    spots = λ n apart. ap (option_map (λ (m : Node R). (m.above, string_bytes m.name))) (changes.others n apart);
  }

-- a node without members
pub childless : (members : BTreeMap (String Global) ℕ) → IsEmpty members → (s : List ℕ) → get_by_text members s ≡ None
childless members none s = ap (lookup (is_at (λ k. slice_cmp nat_cmp s (string_bytes k)))) none

-- the only node, under the number 0
module _ {R : Type 0} (nodes : ℕ → Option (Node R)) (node : Node R) (at : nodes 0 ≡ Some node) (alone : (n : ℕ) → n ≢ 0 → nodes n ≡ None) (none : IsEmpty node.members) where
  no_root_member : (s : List ℕ) → member_at nodes s 0 ≡ None
  no_root_member s = ap (option_and_then (λ (m : Node R). get_by_text m.members s)) at ∙ childless node.members none s

  only_root : (n : ℕ) → is_some (value_at nodes n) ≡ true → n ≡ 0
  only_root n is = elim (cases_eq n 0) [
    | inl same ↦ same
    | inr apart ↦ absurd (let both = sym is ∙ ap is_some (ap (option_map (λ (m : Node R). m.value)) (alone n apart)) in cc)
  ]

  -- it is the root alone
  pub linked_alone : (x : R) → node.value ≡ x → AreLinked (value_at nodes) (member_at nodes) (root_tree x)
  linked_alone x is = linked_root (value_at nodes) (member_at nodes) x (ap (option_map (λ (m : Node R). m.value)) at ∙ ap Some is) no_root_member only_root

  no_member : (s : List ℕ) (n : ℕ) → member_at nodes s n ≡ None
  no_member s n = elim (cases_eq n 0) [
    | inl same ↦ ap (member_at nodes s) same ∙ no_root_member s
    | inr apart ↦ ap (option_and_then (λ (m : Node R). get_by_text m.members s)) (alone n apart)
  ]

  -- it is its own parent
  pub spots_alone : node.above ≡ 0 → string_bytes node.name ≡ [] → AreSpots (member_at nodes) (spot_at nodes)
  spots_alone above name = record {
    root = ap (option_map (λ (m : Node R). (m.above, string_bytes m.name))) at ∙ (λ i. Some (above i, name i));
    below = λ s a n is. absurd (not_none (member_at nodes s a) n is (no_member s a));
  }

-- the first node of a slab
module _ {R : Type 0} (old new : Slab (Node R)) (number : ℕ) (node : Node R) (fresh : old.slots ≡ []) (updates : Updates old new number (Some node)) (first : number ≡ 0) (none : IsEmpty node.members) where
  at_first : get new 0 ≡ Some node
  at_first = ap (get new) (sym first) ∙ updates.changed

  no_other : (n : ℕ) → n ≢ 0 → get new n ≡ None
  no_other n apart = updates.others n (λ e. apart (e ∙ first)) ∙ ap (λ slots. slice_index_or slots n None) fresh

  pub linked_first : (x : R) → node.value ≡ x → AreLinked (value_at (get new)) (member_at (get new)) (root_tree x)
  linked_first = linked_alone (get new) node at_first no_other none

  pub spots_first : node.above ≡ 0 → string_bytes node.name ≡ [] → AreSpots (member_at (get new)) (spot_at (get new))
  spots_first = spots_alone (get new) node at_first no_other none
