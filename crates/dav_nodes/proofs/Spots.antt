-- Where nodes are, after a change of one of them.
use Rattle.std.proofs.Common.{◌≡◌, ◌≢◌, inl, inr, ℕ, List, [], ◌∷◌, ◌++◌, Option, Some, None, Result, Ok, Err, IsSome, is_some, string_bytes, refl, sym, ap, ◌∙◌}
use Rattle.std.specs.Prelude.{IfOk, OnOk, OnErr}
use Rattle.std.specs.Option.{option_map, option_and_then, unwrap_or}
use Rattle.std.specs.BTreeMap.{get_by_text}
use Rattle.std.specs.FinMap.{get}
use Rattle.std.proofs.lemmas.Bool.{cases_eq}
use Rattle.dav_key.specs.Key.{Key, parent}
use Rattle.dav_key.proofs.FlatLemmas.{key_cases}
use Rattle.dav_nodes.specs.Tree.{Tree}
use Rattle.dav_nodes.specs.Rows.{Row, row_of, HasRow}
use Rattle.dav_nodes.specs.Links.{AreLinked, AreSpots, place, value_at, member_at, spot_at}
use Rattle.dav_nodes.specs.NodeChanges.{AddsNode, SetsValue, RemovesNode, MovesNode, SameNodes}
use Rattle.dav_nodes.specs.declared.node.Node.{Node}
use Rattle.dav_nodes.proofs.Walks.{are_numbered, walk-push}
use Rattle.dav_nodes.proofs.KeyMaps.{name_same_or_not}
use Rattle.dav_nodes.proofs.BelowKeys.{split_or_none}
use Rattle.dav_nodes.proofs.Linking.{not_root, not_none, some_apart}
use Rattle.dav_nodes.proofs.Outcomes.{member_number}
use Rattle.dav_nodes.proofs.RowSteps.{row_of-push}

-- ---- one node

-- a node with a spot has a value
spot_value : {R : Type 0} (nodes : ℕ → Option (Node R)) (n : ℕ) (spot : ℕ × List ℕ) → spot_at nodes n ≡ Some spot → value_at nodes n ≢ None
spot_value {R} nodes n spot at none = by (nodes n) at none
  where
    by : (o : Option (Node R)) → option_map (λ (m : Node R). (m.above, string_bytes m.name)) o ≡ Some spot → option_map (λ (m : Node R). m.value) o ≡ None → ⊥
    by None at none = absurd cc
    by (Some m) at none = absurd cc

-- what has no value has no members
no_members : {R : Type 0} (nodes : ℕ → Option (Node R)) (n : ℕ) (name : List ℕ) → value_at nodes n ≡ None → member_at nodes name n ≡ None
no_members {R} nodes n name none = by (nodes n) none
  where
    by : (o : Option (Node R)) → option_map (λ (m : Node R). m.value) o ≡ None → option_and_then (λ (m : Node R). get_by_text m.members name) o ≡ None
    by None none = refl
    by (Some m) none = absurd cc

same_spot : (p q : ℕ × List ℕ) → Some p ≡ Some q → (p.0 ≡ q.0) × (p.1 ≡ q.1)
same_spot p q e =
    let same = ap (λ o. unwrap_or o p) e in
    (ap (λ (r : ℕ × List ℕ). r.0) same, ap (λ (r : ℕ × List ℕ). r.1) same)

-- the node of a key has the number of the key's parent
pub spot_above : (member : List ℕ → ℕ → Option ℕ) (spot : ℕ → Option (ℕ × List ℕ)) → AreSpots member spot → (key : Key) (number : ℕ) → place member key ≡ Some number
    → option_map (λ (s : ℕ × List ℕ). s.0) (spot number) ≡ place member (parent key)
spot_above member spot spots key number at = elim (key_cases key) [
  | inl root ↦
      ap (λ n. option_map (λ (s : ℕ × List ℕ). s.0) (spot n)) (some_apart number 0 (sym at ∙ ap (place member) root))
      ∙ ap (option_map (λ (s : ℕ × List ℕ). s.0)) spots.root ∙ sym (ap (λ k. place member (parent k)) root)
  | inr last ↦ by last.0 (place member (parent key)) (sym (ap (place member) last.1 ∙ walk-push member (Some 0) (parent key) last.0) ∙ at)
]
  where
    by : (name : List ℕ) (o : Option ℕ) → option_and_then (member name) o ≡ Some number → option_map (λ (s : ℕ × List ℕ). s.0) (spot number) ≡ o
    by name None step = absurd cc
    by name (Some above) step = ap (option_map (λ (s : ℕ × List ℕ). s.0)) (spots.below name above number step)

-- ---- after a change

module _ {R : Type 0} (old new : ℕ → Option (Node R)) (spots : AreSpots (member_at old) (spot_at old)) where
  -- a number without a value is no member
  not_unused : (name : List ℕ) (above n number : ℕ) → value_at old number ≡ None → member_at old name above ≡ Some n → n ≢ number
  not_unused name above n number none is e = spot_value old n (above, name) (spots.below name above n is) (ap (value_at old) e ∙ none)

  -- a number is that of one member
  one_spot : (s t : List ℕ) (a b n : ℕ) → member_at old s a ≡ Some n → member_at old t b ≡ Some n → (a ≡ b) × (s ≡ t)
  one_spot s t a b n is_a is_b = same_spot (a, s) (b, t) (sym (spots.below s a n is_a) ∙ spots.below t b n is_b)

  pub spots_same : SameNodes old new → AreSpots (member_at new) (spot_at new)
  spots_same same = record {
    root = same.spots 0 ∙ spots.root;
    below = λ s a n is. same.spots n ∙ spots.below s a n (sym (same.members s a) ∙ is);
  }

  pub spots_set : (number : ℕ) (x : R) → SetsValue old new number x → AreSpots (member_at new) (spot_at new)
  spots_set number x sets = record {
    root = sets.spots 0 ∙ spots.root;
    below = λ s a n is. sets.spots n ∙ spots.below s a n (sym (sets.members s a) ∙ is);
  }

  module _ (above : ℕ) (name : List ℕ) (number : ℕ) (x : R) (adds : AddsNode old new above name number x) where
    was_member : (s : List ℕ) (a n : ℕ) → member_at new s a ≡ Some n → (a ≡ above → s ≢ name) → member_at old s a ≡ Some n
    was_member s a n is other = elim (cases_eq a number) [
      | inl new_one ↦ absurd (not_none (member_at new s a) n is (ap (member_at new s) new_one ∙ adds.childless s))
      | inr old_one ↦ elim (cases_eq a above) [
        | inl same ↦ ap (member_at old s) same ∙ sym (adds.names s (other same)) ∙ sym (ap (member_at new s) same) ∙ is
        | inr elsewhere ↦ sym (adds.others s a elsewhere old_one) ∙ is
      ]
    ]

    old_spot : (s : List ℕ) (a n : ℕ) → member_at old s a ≡ Some n → spot_at new n ≡ Some (a, s)
    old_spot s a n was = adds.spots n (not_unused s a n number adds.unused was) ∙ spots.below s a n was

    added_below : (s : List ℕ) (a n : ℕ) → member_at new s a ≡ Some n → spot_at new n ≡ Some (a, s)
    added_below s a n is = elim (cases_eq a above) [
      | inl same ↦ elim (name_same_or_not s name) [
        | inl same_name ↦
            ap (spot_at new) (some_apart n number (sym is ∙ (λ i. member_at new (same_name i) (same i)) ∙ adds.entered)) ∙ adds.spot
            ∙ (λ i. Some (sym same i, sym same_name i))
        | inr other ↦ old_spot s a n (was_member s a n is (λ _. other))
      ]
      | inr elsewhere ↦ old_spot s a n (was_member s a n is (λ e. absurd (elsewhere e)))
    ]

    pub spots_added : AreSpots (member_at new) (spot_at new)
    spots_added = record {
      root = adds.spots 0 (λ e. spot_value old 0 (0, []) spots.root (ap (value_at old) e ∙ adds.unused)) ∙ spots.root;
      below = added_below;
    }

  module _ (above : ℕ) (name : List ℕ) (number : ℕ) (not_first : number ≢ 0) (there : member_at old name above ≡ Some number) (removes : RemovesNode old new above name number) where
    kept_spot : (s : List ℕ) (a n : ℕ) → (a ≡ above → s ≢ name) → member_at old s a ≡ Some n → spot_at new n ≡ Some (a, s)
    kept_spot s a n other was =
        removes.spots n (λ e. let same = one_spot s name a above n was (there ∙ ap Some (sym e)) in other same.0 same.1) ∙ spots.below s a n was

    left_below : (s : List ℕ) (a n : ℕ) → member_at new s a ≡ Some n → spot_at new n ≡ Some (a, s)
    left_below s a n is = elim (cases_eq a number) [
      | inl gone ↦ absurd (not_none (member_at new s a) n is (ap (member_at new s) gone ∙ no_members new number s removes.gone))
      | inr stays ↦ elim (cases_eq a above) [
        | inl same ↦ elim (name_same_or_not s name) [
          | inl same_name ↦ absurd (not_none (member_at new s a) n is ((λ i. member_at new (same_name i) (same i)) ∙ removes.left))
          | inr other ↦ kept_spot s a n (λ _. other) (ap (member_at old s) same ∙ sym (removes.names s other) ∙ sym (ap (member_at new s) same) ∙ is)
        ]
        | inr elsewhere ↦ kept_spot s a n (λ e. absurd (elsewhere e)) (sym (removes.others s a elsewhere stays) ∙ is)
      ]
    ]

    pub spots_removed : AreSpots (member_at new) (spot_at new)
    spots_removed = record {
      root = removes.spots 0 (λ e. not_first (sym e)) ∙ spots.root;
      below = left_below;
    }

  module _ (from : ℕ) (name : List ℕ) (to : ℕ) (new_name : List ℕ) (number : ℕ) (not_first : number ≢ 0) (there : member_at old name from ≡ Some number) (moves : MovesNode old new from name to new_name) where
    stays_apart : (n : ℕ) → n ≢ number → member_at old name from ≢ Some n
    stays_apart n apart e = apart (some_apart n number (sym e ∙ there))

    rest_below : (s : List ℕ) (a n : ℕ) → member_at new s a ≡ Some n → (a ≡ to → s ≢ new_name) → (a ≡ from → s ≢ name) → spot_at new n ≡ Some (a, s)
    rest_below s a n is not_to not_from =
        let was : member_at old s a ≡ Some n = sym (moves.others s a not_to not_from) ∙ is in
        moves.spots n (stays_apart n (λ e. let same = one_spot s name a from n was (there ∙ ap Some (sym e)) in not_from same.0 same.1)) ∙ spots.below s a n was

    not_to_below : (s : List ℕ) (a n : ℕ) → member_at new s a ≡ Some n → (a ≡ to → s ≢ new_name) → spot_at new n ≡ Some (a, s)
    not_to_below s a n is not_to = elim (cases_eq a from) [
      | inl same ↦ elim (name_same_or_not s name) [
        | inl same_name ↦ absurd (not_none (member_at new s a) n is ((λ i. member_at new (same_name i) (same i)) ∙ moves.left))
        | inr other ↦ rest_below s a n is not_to (λ _. other)
      ]
      | inr elsewhere ↦ rest_below s a n is not_to (λ e. absurd (elsewhere e))
    ]

    moved_below : (s : List ℕ) (a n : ℕ) → member_at new s a ≡ Some n → spot_at new n ≡ Some (a, s)
    moved_below s a n is = elim (cases_eq a to) [
      | inl same ↦ elim (name_same_or_not s new_name) [
        | inl same_name ↦
            ap (spot_at new) (some_apart n number (sym is ∙ (λ i. member_at new (same_name i) (same i)) ∙ moves.entered ∙ there))
            ∙ moves.spot number there ∙ ap (option_map (λ _. (to, new_name))) (spots.below name from number there)
            ∙ (λ i. Some (sym same i, sym same_name i))
        | inr other ↦ not_to_below s a n is (λ _. other)
      ]
      | inr elsewhere ↦ not_to_below s a n is (λ e. absurd (elsewhere e))
    ]

    pub spots_moved : AreSpots (member_at new) (spot_at new)
    spots_moved = record {
      root = moves.spots 0 (stays_apart 0 (λ e. not_first (sym e))) ∙ spots.root;
      below = moved_below;
    }

  -- ---- whether the change succeeded or not

  pub spots_after_add : {E : Type 0} (above : ℕ) (name : List ℕ) (x : R) (result : Result ℕ E) → IfOk result (λ number. AddsNode old new above name number x) → OnErr result (SameNodes old new)
      → AreSpots (member_at new) (spot_at new)
  spots_after_add above name x (Ok number) adds same = spots_added above name number x adds
  spots_after_add above name x (Err e) adds same = spots_same same

  pub spots_after_move : {T E : Type 0} (from : ℕ) (name : List ℕ) (to : ℕ) (new_name : List ℕ) (number : ℕ) → number ≢ 0 → member_at old name from ≡ Some number
      → (result : Result T E) → OnOk result (MovesNode old new from name to new_name) → OnErr result (SameNodes old new) → AreSpots (member_at new) (spot_at new)
  spots_after_move from name to new_name number not_first there (Ok u) moves same = spots_moved from name to new_name number not_first there moves
  spots_after_move from name to new_name number not_first there (Err e) moves same = spots_same same

-- ---- the row of a node

module _ {R : Type 0} (nodes : ℕ → Option (Node R)) (tree : Tree R) (linked : AreLinked (value_at nodes) (member_at nodes) tree) where
  -- the number 0 is the root's only
  pub not_zero : (key : Key) (number : ℕ) → key ≢ [] → get tree.numbers key ≡ Some number → number ≢ 0
  not_zero key number below at e = below (linked.one key [] number at (linked.numbered [] ∙ ap Some (sym e)))

  -- the value of a key is that of its node
  node_value : (key : Key) (number : ℕ) (m : Node R) → get tree.numbers key ≡ Some number → nodes number ≡ Some m → get tree.values key ≡ Some m.value
  node_value key number m at is = linked.valued key ∙ ap (option_and_then (value_at nodes)) at ∙ ap (option_map (λ (n : Node R). n.value)) is

  module _ (spots : AreSpots (member_at nodes) (spot_at nodes)) where
    -- the spot of a member is the number of the key above it and its name
    member_spot : (above : Key) (s : List ℕ) (number : ℕ) (spot : ℕ × List ℕ) → get tree.numbers (above ++ s ∷ []) ≡ Some number → spot_at nodes number ≡ Some spot
        → (get tree.numbers above ≡ Some spot.0) × (s ≡ spot.1)
    member_spot above s number spot at is = by (get tree.numbers above) refl (sym ((are_numbered (value_at nodes) (member_at nodes) tree linked).step above s) ∙ at)
      where
        by : (o : Option ℕ) → get tree.numbers above ≡ o → option_and_then (member_at nodes s) o ≡ Some number → (o ≡ Some spot.0) × (s ≡ spot.1)
        by None there step = absurd cc
        by (Some n) there step = let same = same_spot (n, s) spot (sym (spots.below s n number step) ∙ is) in (ap Some same.0, same.1)

    module _ (number : ℕ) (m : Node R) (name : Option (List ℕ)) (is : nodes number ≡ Some m) (at_root : number ≡ 0 → name ≡ None) (at_member : number ≢ 0 → name ≡ Some (string_bytes m.name)) where
      spot_is : spot_at nodes number ≡ Some (m.above, string_bytes m.name)
      spot_is = ap (option_map (λ (n : Node R). (n.above, string_bytes n.name))) is

      abbrev own_row : Row R
      own_row = record { above = Some m.above; name = name; value = m.value }

      root_row : get tree.numbers [] ≡ Some number → row_of tree [] ≡ Some own_row
      root_row at =
          let zero : number ≡ 0 = some_apart number 0 (sym at ∙ linked.numbered []) in
          let above : m.above ≡ 0 = (same_spot (m.above, string_bytes m.name) (0, []) (sym spot_is ∙ ap (spot_at nodes) zero ∙ spots.root)).0 in
          ap (option_map (λ value. record { above = get tree.numbers []; name = None; value = value })) (node_value [] number m at is)
          ∙ (λ i. Some (record { above = (linked.numbered [] ∙ ap Some (sym above)) i; name = sym (at_root zero) i; value = m.value }))

      member_row : (above : Key) (s : List ℕ) → get tree.numbers (above ++ s ∷ []) ≡ Some number → row_of tree (above ++ s ∷ []) ≡ Some own_row
      member_row above s at =
          let same = member_spot above s number (m.above, string_bytes m.name) at spot_is in
          row_of-push tree above s
          ∙ ap (option_map (λ value. record { above = get tree.numbers above; name = Some s; value = value })) (node_value (above ++ s ∷ []) number m at is)
          ∙ (λ i. Some (record { above = same.0 i; name = (ap Some same.1 ∙ sym (at_member (not_zero (above ++ s ∷ []) number (not_root above s) at))) i; value = m.value }))

      key_row : (key : Key) → get tree.numbers key ≡ Some number → row_of tree key ≡ Some own_row
      key_row key at = elim (split_or_none key) [
        | inl root ↦ ap (row_of tree) root ∙ root_row (ap (get tree.numbers) (sym root) ∙ at)
        | inr last ↦ ap (row_of tree) last.2 ∙ member_row last.0 last.1 (ap (get tree.numbers) (sym last.2) ∙ at)
      ]

      -- a node has the row of its number
      pub node_row : HasRow tree number own_row
      node_row =
          let key = linked.reached number (ap is_some (ap (option_map (λ (n : Node R). n.value)) is)) in
          (key.0, key.1, key_row key.0 key.1)

-- after a key was moved, or not
pub spots_renamed : {R T E : Type 0} (old new : ℕ → Option (Node R)) (tree : Tree R) → AreLinked (value_at old) (member_at old) tree → AreSpots (member_at old) (spot_at old)
    → (key : Key) (from : ℕ) (name : List ℕ) (to : ℕ) (new_name : List ℕ) → key ≡ parent key ++ name ∷ [] → IsSome (get tree.numbers key) → get tree.numbers (parent key) ≡ Some from
    → (result : Result T E) → OnOk result (MovesNode old new from name to new_name) → OnErr result (SameNodes old new) → AreSpots (member_at new) (spot_at new)
spots_renamed {R} old new tree linked spots key from name to new_name is there at result ok err = by (get tree.numbers key) refl there
  where
    by : (o : Option ℕ) → get tree.numbers key ≡ o → IsSome o → AreSpots (member_at new) (spot_at new)
    by None none there = absurd cc
    by (Some number) number_is there =
        let below : key ≢ [] = λ e. not_root (parent key) name (sym is ∙ e) in
        spots_after_move old new spots from name to new_name number (not_zero old tree linked key number below number_is)
        (sym (member_number old tree linked key name from is at) ∙ number_is) result ok err
