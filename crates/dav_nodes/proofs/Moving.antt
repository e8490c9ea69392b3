-- The tree that nodes hold after one of them became a member of another one.
use Rattle.std.proofs.Common.{◌≡◌, ◌≢◌, ◌⊎◌, inl, inr, ℕ, true, false, List, [], ◌∷◌, ◌++◌, Option, Some, None, is_some, length, length-append, arith, refl, sym, ap, ◌∙◌, append_assoc}
use Rattle.std.proofs.lemmas.List.{append-nil}
use Rattle.std.specs.Option.{option_and_then}
use Rattle.std.specs.FinMap.{get}
use Rattle.dav_key.specs.Key.{Key}
use Rattle.dav_key.specs.Below.{is_at_or_below, AreApart}
use Rattle.dav_nodes.specs.Tree.{Tree, IsTreeMoved}
use Rattle.dav_nodes.specs.Links.{walk, AreLinked, value_at, member_at}
use Rattle.dav_nodes.specs.NodeChanges.{MovesNode}
use Rattle.dav_nodes.specs.declared.node.Node.{Node}
use Rattle.dav_nodes.proofs.Walks.{numbered_by, are_numbered, walk-none}
use Rattle.dav_nodes.proofs.KeyMaps.{same_above, same_last}
use Rattle.dav_nodes.proofs.BelowKeys.{not_below, apart_below, below_or_not, not_below_above, member_below, same_below}
use Rattle.dav_nodes.proofs.KeyMoves.{moved_map, is_moved}
use Rattle.dav_nodes.proofs.Linking.{and_then_same, and_then_value, not_none}

not_own_member_more : (a : Key) (s : List ℕ) (x : Key) → a ≢ (a ++ s ∷ []) ++ x
not_own_member_more a s x e = omega (arith, ap length e, length-append (a ++ s ∷ []) x, length-append a (s ∷ []))

longer : (a y : Key) (s : List ℕ) → (a ++ y) ++ s ∷ [] ≢ a
longer a y s e = omega (arith, ap length e, length-append (a ++ y) (s ∷ []), length-append a y)

root_not_below : (key : Key) (s : List ℕ) → is_at_or_below [] (key ++ s ∷ []) ≡ false
root_not_below key s = elim (below_or_not (key ++ s ∷ []) []) [
  | inl more ↦ absurd (omega (arith, ap length more.1, length-append (key ++ s ∷ []) more.0, length-append key (s ∷ [])))
  | inr out ↦ out
]

walk-append : (member : List ℕ → ℕ → Option ℕ) (from : Option ℕ) (a b : Key) → walk member from (a ++ b) ≡ walk member (walk member from a) b
walk-append member from [] b = refl
walk-append member from (s ∷ a) b = walk-append member (option_and_then (member s) from) a b

module _ {R : Type 0} (old : ℕ → Option (Node R)) (tree : Tree R) (linked : AreLinked (value_at old) (member_at old) tree) where
  -- below a key without a number no key has one
  pub no_number_below : (key : Key) → get tree.numbers key ≡ None → (below : Key) → get tree.numbers (key ++ below) ≡ None
  no_number_below key none below =
      linked.numbered (key ++ below) ∙ walk-append (member_at old) (Some 0) key below
      ∙ ap (λ o. walk (member_at old) o below) (sym (linked.numbered key) ∙ none) ∙ walk-none (member_at old) below

  pub no_value : (key : Key) → get tree.numbers key ≡ None → get tree.values key ≡ None
  no_value key none = linked.valued key ∙ ap (option_and_then (value_at old)) none

module _ {R : Type 0} (old new : ℕ → Option (Node R)) (tree after : Tree R) (linked : AreLinked (value_at old) (member_at old) tree) (k0 k1 : Key) (name new_name : List ℕ) (above new_above : ℕ)
    (apart : AreApart (k0 ++ name ∷ []) (k1 ++ new_name ∷ [])) (at : get tree.numbers k0 ≡ Some above) (new_at : get tree.numbers k1 ≡ Some new_above) (free : get tree.numbers (k1 ++ new_name ∷ []) ≡ None)
    (moves : MovesNode old new above name new_above new_name) (moved : IsTreeMoved (k0 ++ name ∷ []) (k1 ++ new_name ∷ []) tree after) where
  abbrev from : Key
  from = k0 ++ name ∷ []

  abbrev to : Key
  to = k1 ++ new_name ∷ []

  -- the keys above are not at or below either
  above_not_from : is_at_or_below k0 from ≡ false
  above_not_from = elim (below_or_not from k0) [
    | inl more ↦ absurd (not_own_member_more k0 name more.0 more.1)
    | inr out ↦ out
  ]

  above_not_to : is_at_or_below k0 to ≡ false
  above_not_to = not_below_above to k0 name apart.one_other

  new_above_not_to : is_at_or_below k1 to ≡ false
  new_above_not_to = elim (below_or_not to k1) [
    | inl more ↦ absurd (not_own_member_more k1 new_name more.0 more.1)
    | inr out ↦ out
  ]

  new_above_not_from : is_at_or_below k1 from ≡ false
  new_above_not_from = not_below_above from k1 new_name apart.other_one

  old_step : (key : Key) (s : List ℕ) → get tree.numbers (key ++ s ∷ []) ≡ option_and_then (member_at old s) (get tree.numbers key)
  old_step = (are_numbered (value_at old) (member_at old) tree linked).step

  -- a member that is neither of the two is found as before
  same_member : (key : Key) (s : List ℕ) → key ++ s ∷ [] ≢ from → key ++ s ∷ [] ≢ to → (n : ℕ) → get tree.numbers key ≡ Some n → member_at old s n ≡ member_at new s n
  same_member key s not_from not_to n is =
      sym (moves.others s n
      (λ same e. not_to (λ i. linked.one key k1 n is (new_at ∙ ap Some (sym same)) i ++ e i ∷ []))
      (λ same e. not_from (λ i. linked.one key k0 n is (at ∙ ap Some (sym same)) i ++ e i ∷ [])))

  -- below the new key
  step_to : (key : Key) (s : List ℕ) (x : Key) → key ++ s ∷ [] ≡ to ++ x → get after.numbers (key ++ s ∷ []) ≡ option_and_then (member_at new s) (get after.numbers key)
  step_to key s x e = elim (member_below to key x s e) [
    | inl here ↦
        let above_is : key ≡ k1 = same_above key k1 s new_name here in
        ap (get after.numbers) (here ∙ sym (append-nil to)) ∙ moved.numbers.moved [] ∙ ap (get tree.numbers) (append-nil from) ∙ old_step k0 name ∙ ap (option_and_then (member_at old name)) at
        ∙ sym moves.entered ∙ ap (λ t. member_at new t new_above) (sym (same_last key k1 s new_name here))
        ∙ sym (ap (λ k. option_and_then (member_at new s) (get after.numbers k)) above_is
        ∙ ap (option_and_then (member_at new s)) (moved.numbers.rest k1 new_above_not_from new_above_not_to ∙ new_at))
    | inr more ↦
        let y = more.0 in
        let shifted : get after.numbers key ≡ get tree.numbers (from ++ y) = ap (get after.numbers) more.2 ∙ moved.numbers.moved y in
        ap (get after.numbers) (e ∙ ap (λ k. to ++ k) more.1) ∙ moved.numbers.moved (y ++ s ∷ [])
        ∙ ap (get tree.numbers) (sym (append_assoc from y (s ∷ []))) ∙ old_step (from ++ y) s
        ∙ and_then_same (member_at old s) (member_at new s) (get tree.numbers (from ++ y))
        (same_member (from ++ y) s (longer from y s) (λ f. apart_below from to (y ++ s ∷ []) [] apart (sym (append_assoc from y (s ∷ [])) ∙ f ∙ sym (append-nil to))))
        ∙ ap (option_and_then (member_at new s)) (sym shifted)
  ]

  -- at or below the old key
  step_from : (key : Key) (s : List ℕ) (x : Key) → key ++ s ∷ [] ≡ from ++ x → get after.numbers (key ++ s ∷ []) ≡ option_and_then (member_at new s) (get after.numbers key)
  step_from key s x e =
      ap (get after.numbers) e ∙ moved.numbers.gone x ∙ elim (member_below from key x s e) [
        | inl here ↦
            sym (ap (λ k. option_and_then (member_at new s) (get after.numbers k)) (same_above key k0 s name here)
            ∙ ap (option_and_then (member_at new s)) (moved.numbers.rest k0 above_not_from above_not_to ∙ at)
            ∙ ap (λ t. member_at new t above) (same_last key k0 s name here) ∙ moves.left)
        | inr more ↦ sym (ap (option_and_then (member_at new s)) (ap (get after.numbers) more.2 ∙ moved.numbers.gone more.0))
      ]

  -- elsewhere
  step_rest : (key : Key) (s : List ℕ) → is_at_or_below (key ++ s ∷ []) from ≡ false → is_at_or_below (key ++ s ∷ []) to ≡ false → get after.numbers (key ++ s ∷ []) ≡ option_and_then (member_at new s) (get after.numbers key)
  step_rest key s not_from not_to =
      moved.numbers.rest (key ++ s ∷ []) not_from not_to ∙ old_step key s
      ∙ and_then_same (member_at old s) (member_at new s) (get tree.numbers key)
      (same_member key s (λ e. not_below from (key ++ s ∷ []) [] not_from (e ∙ sym (append-nil from))) (λ e. not_below to (key ++ s ∷ []) [] not_to (e ∙ sym (append-nil to))))
      ∙ ap (option_and_then (member_at new s)) (sym (moved.numbers.rest key (not_below_above from key s not_from) (not_below_above to key s not_to)))

  moved_step : (key : Key) (s : List ℕ) → get after.numbers (key ++ s ∷ []) ≡ option_and_then (member_at new s) (get after.numbers key)
  moved_step key s = elim (below_or_not to (key ++ s ∷ [])) [
    | inl more ↦ step_to key s more.0 more.1
    | inr not_to ↦ elim (below_or_not from (key ++ s ∷ [])) [
      | inl more ↦ step_from key s more.0 more.1
      | inr not_from ↦ step_rest key s not_from not_to
    ]
  ]

  moved_root : get after.numbers [] ≡ Some 0
  moved_root = moved.numbers.rest [] (root_not_below k0 name) (root_not_below k1 new_name) ∙ (are_numbered (value_at old) (member_at old) tree linked).root

  -- a key with a number is below the new key, and its counterpart had the number, or it had the number itself
  came_from : (key : Key) (n : ℕ) → get after.numbers key ≡ Some n
      → ((x : Key) × (key ≡ to ++ x) × (get tree.numbers (from ++ x) ≡ Some n)) ⊎ ((is_at_or_below key from ≡ false) × (get tree.numbers key ≡ Some n))
  came_from key n is = elim (below_or_not to key) [
    | inl more ↦ inl (more.0, more.1, sym (moved.numbers.moved more.0) ∙ ap (get after.numbers) (sym more.1) ∙ is)
    | inr not_to ↦ elim (below_or_not from key) [
      | inl more ↦ absurd (not_none (get after.numbers key) n is (ap (get after.numbers) more.1 ∙ moved.numbers.gone more.0))
      | inr not_from ↦ inr (not_from, sym (moved.numbers.rest key not_from not_to) ∙ is)
    ]
  ]

  moved_one : (a b : Key) (n : ℕ) → get after.numbers a ≡ Some n → get after.numbers b ≡ Some n → a ≡ b
  moved_one a b n is_a is_b = elim (came_from a n is_a) [
    | inl from_a ↦ elim (came_from b n is_b) [
      | inl from_b ↦
          from_a.1 ∙ ap (λ x. to ++ x) (same_below from from_a.0 from_b.0 (linked.one (from ++ from_a.0) (from ++ from_b.0) n from_a.2 from_b.2)) ∙ sym from_b.1
      | inr was_b ↦ absurd (not_below from b from_a.0 was_b.0 (linked.one b (from ++ from_a.0) n was_b.1 from_a.2))
    ]
    | inr was_a ↦ elim (came_from b n is_b) [
      | inl from_b ↦ absurd (not_below from a from_b.0 was_a.0 (linked.one a (from ++ from_b.0) n was_a.1 from_b.2))
      | inr was_b ↦ linked.one a b n was_a.1 was_b.1
    ]
  ]

  moved_live : (key : Key) (n : ℕ) → get after.numbers key ≡ Some n → is_some (value_at new n) ≡ true
  moved_live key n is = ap is_some (moves.values n) ∙ elim (came_from key n is) [
    | inl there ↦ linked.live (from ++ there.0) n there.2
    | inr was ↦ linked.live key n was.1
  ]

  moved_reached : (n : ℕ) → is_some (value_at new n) ≡ true → (key : Key) × (get after.numbers key ≡ Some n)
  moved_reached n is = by (linked.reached n (ap is_some (sym (moves.values n)) ∙ is))
    where
      by : (key : Key) × (get tree.numbers key ≡ Some n) → (key : Key) × (get after.numbers key ≡ Some n)
      by (q, was) = elim (below_or_not from q) [
        | inl more ↦ (to ++ more.0, moved.numbers.moved more.0 ∙ ap (get tree.numbers) (sym more.1) ∙ was)
        | inr not_from ↦ elim (below_or_not to q) [
          | inl more ↦ absurd (not_none (get tree.numbers q) n was (ap (get tree.numbers) more.1 ∙ no_number_below old tree linked to free more.0))
          | inr not_to ↦ (q, moved.numbers.rest q not_from not_to ∙ was)
        ]
      ]

  same_value : (o : Option ℕ) → option_and_then (value_at old) o ≡ option_and_then (value_at new) o
  same_value o = and_then_value (value_at old) (value_at new) o (λ n is. sym (moves.values n))

  moved_valued : (key : Key) → get after.values key ≡ option_and_then (value_at new) (get after.numbers key)
  moved_valued key = elim (below_or_not to key) [
    | inl more ↦
        ap (get after.values) more.1 ∙ moved.values.moved more.0 ∙ linked.valued (from ++ more.0) ∙ same_value (get tree.numbers (from ++ more.0))
        ∙ sym (ap (λ k. option_and_then (value_at new) (get after.numbers k)) more.1 ∙ ap (option_and_then (value_at new)) (moved.numbers.moved more.0))
    | inr not_to ↦ elim (below_or_not from key) [
      | inl more ↦
          ap (get after.values) more.1 ∙ moved.values.gone more.0
          ∙ sym (ap (λ k. option_and_then (value_at new) (get after.numbers k)) more.1 ∙ ap (option_and_then (value_at new)) (moved.numbers.gone more.0))
      | inr not_from ↦
          moved.values.rest key not_from not_to ∙ linked.valued key ∙ same_value (get tree.numbers key)
          ∙ ap (option_and_then (value_at new)) (sym (moved.numbers.rest key not_from not_to))
    ]
  ]

  pub linked_moved : AreLinked (value_at new) (member_at new) after
  linked_moved = record {
    numbered = numbered_by (member_at new) after.numbers (record { root = moved_root; step = moved_step });
    valued = moved_valued;
    one = moved_one;
    live = moved_live;
    reached = moved_reached;
  }

-- ---- there is such a tree

module _ {R : Type 0} (old : ℕ → Option (Node R)) (tree : Tree R) (linked : AreLinked (value_at old) (member_at old) tree) (from to : Key) (apart : AreApart from to) (free : get tree.numbers to ≡ None) where
  free_numbers : (below : Key) → get tree.numbers (to ++ below) ≡ None
  free_numbers below = no_number_below old tree linked to free below

  pub moved_tree : Tree R
  moved_tree = record { values = moved_map from to apart tree.values; numbers = moved_map from to apart tree.numbers }

  pub is_tree_moved : IsTreeMoved from to tree moved_tree
  unfolding moved_tree
  is_tree_moved = record {
    values = is_moved from to apart tree.values (λ below. no_value old tree linked (to ++ below) (free_numbers below));
    numbers = is_moved from to apart tree.numbers free_numbers;
  }
