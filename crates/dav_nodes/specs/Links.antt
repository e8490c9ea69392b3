-- How nodes that refer to their members by number hold a tree: this project's own choice.
use Rattle.std.specs.Prelude.{◌≡◌, ℕ, true, List, [], ◌∷◌, Option, Some, is_some, string_bytes}
use Rattle.std.specs.Option.{option_map, option_and_then}
use Rattle.std.specs.FinMap.{get, same_map}
use Rattle.std.specs.BTreeMap.{get_by_text}
use Rattle.std.specs.Coded.{Coded, Coded-set, coded_option, coded_list, coded×, coded_bool, coded_ℕ}
use Rattle.std.proofs.Common.{sym, ap, ◌∙◌}
use mathlib.Core.HLevel.{is_prop→PathP}
use Rattle.dav_key.specs.Key.{Key, key_cmp_total, key_cmp_exact}
use Rattle.dav_nodes.specs.Tree.{Tree}
use Rattle.dav_nodes.specs.Codes.{key_code}
use Rattle.dav_nodes.specs.declared.node.Node.{Node}

-- the number that is reached from another one by these names, where each member has a number
abbrev pub walk : (List ℕ → ℕ → Option ℕ) → Option ℕ → Key → Option ℕ
walk member from [] = from
walk member from (name ∷ key) = walk member (option_and_then (member name) from) key

-- the number of a key; the root's is 0
abbrev pub place : (List ℕ → ℕ → Option ℕ) → Key → Option ℕ
place member key = walk member (Some 0) key

-- these are the values and the numbers of the keys: each key's number is reached by its names, each number is one key's only, and the numbers with a value are those of keys
pub record AreLinked {R : Type 0} (value : ℕ → Option R) (member : List ℕ → ℕ → Option ℕ) (tree : Tree R) : Type 0 where
  pub numbered : (key : Key) → get tree.numbers key ≡ place member key
  pub valued : (key : Key) → get tree.values key ≡ option_and_then value (get tree.numbers key)
  pub one : (a b : Key) (number : ℕ) → get tree.numbers a ≡ Some number → get tree.numbers b ≡ Some number → a ≡ b
  pub live : (key : Key) (number : ℕ) → get tree.numbers key ≡ Some number → is_some (value number) ≡ true
  pub reached : (number : ℕ) → is_some (value number) ≡ true → (key : Key) × (get tree.numbers key ≡ Some number)

-- the root is its own parent, without a name, and the spot of each member is the number above it and its name there
pub record AreSpots (member : List ℕ → ℕ → Option ℕ) (spot : ℕ → Option (ℕ × List ℕ)) : Type 0 where
  pub root : spot 0 ≡ Some (0, [])
  pub below : (name : List ℕ) (above number : ℕ) → member name above ≡ Some number → spot number ≡ Some (above, name)

-- there is one way only
pub AreSpots-prop : (member : List ℕ → ℕ → Option ℕ) (spot : ℕ → Option (ℕ × List ℕ)) → IsProp (AreSpots member spot)
AreSpots-prop member spot x y = λ i. record {
  root = Coded-set (coded_option (coded× coded_ℕ (coded_list coded_ℕ))) _ _ x.root y.root i;
  below = λ name above number is. Coded-set (coded_option (coded× coded_ℕ (coded_list coded_ℕ))) _ _ (x.below name above number is) (y.below name above number is) i;
}

module _ {R : Type 0} (value : ℕ → Option R) (member : List ℕ → ℕ → Option ℕ) where
  reached-prop : (tree : Tree R) → AreLinked value member tree → (number : ℕ) → IsProp ((key : Key) × (get tree.numbers key ≡ Some number))
  reached-prop tree linked number (a, p) (b, q) =
      let same : a ≡ b = linked.one a b number p q in
      λ i. (same i, is_prop→PathP (λ j. get tree.numbers (same j) ≡ Some number) (λ j. Coded-set (coded_option coded_ℕ) (get tree.numbers (same j)) (Some number)) p q i)

  AreLinked-prop : Coded R → (tree : Tree R) → IsProp (AreLinked value member tree)
  AreLinked-prop code tree x y = λ i. record {
    numbered = λ key. Coded-set (coded_option coded_ℕ) _ _ (x.numbered key) (y.numbered key) i;
    valued = λ key. Coded-set (coded_option code) _ _ (x.valued key) (y.valued key) i;
    one = λ a b number p q. Coded-set key_code a b (x.one a b number p q) (y.one a b number p q) i;
    live = λ key number p. Coded-set coded_bool _ _ (x.live key number p) (y.live key number p) i;
    reached = λ number p. reached-prop tree x number (x.reached number p) (y.reached number p) i;
  }

  same_numbers : (s t : Tree R) → AreLinked value member s → AreLinked value member t → s.numbers ≡ t.numbers
  same_numbers s t x y = same_map key_cmp_total key_cmp_exact s.numbers t.numbers (λ key. x.numbered key ∙ sym (y.numbered key))

  same_values : (s t : Tree R) → AreLinked value member s → AreLinked value member t → s.values ≡ t.values
  same_values s t x y =
      same_map key_cmp_total key_cmp_exact s.values t.values (λ key.
      x.valued key ∙ ap (λ numbers. option_and_then value (get numbers key)) (same_numbers s t x y) ∙ sym (y.valued key))

  -- nodes hold at most one tree
  pub linked-prop : Coded R → IsProp ((tree : Tree R) × AreLinked value member tree)
  linked-prop code (s, x) (t, y) =
      let same : s ≡ t = λ i. record { values = same_values s t x y i; numbers = same_numbers s t x y i } in
      λ i. (same i, is_prop→PathP (λ j. AreLinked value member (same j)) (λ j. AreLinked-prop code (same j)) x y i)

module _ {R : Type 0} (nodes : ℕ → Option (Node R)) where
  -- the value of the node with this number
  abbrev pub value_at : ℕ → Option R
  value_at number = option_map (λ node. node.value) (nodes number)

  -- the number of the member with this name
  abbrev pub member_at : List ℕ → ℕ → Option ℕ
  member_at name number = option_and_then (λ node. get_by_text node.members name) (nodes number)

  -- the number of the parent of the node with this number, and its name there
  abbrev pub spot_at : ℕ → Option (ℕ × List ℕ)
  spot_at number = option_map (λ node. (node.above, string_bytes node.name)) (nodes number)

  -- the nodes hold a tree
  abbrev pub HoldsTree : Type 0
  HoldsTree = (tree : Tree R) × AreLinked value_at member_at tree

  -- they hold at most one
  pub HoldsTree-prop : Coded R → IsProp HoldsTree
  HoldsTree-prop code = linked-prop value_at member_at code
