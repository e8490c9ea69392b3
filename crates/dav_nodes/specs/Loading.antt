-- How a tree is made from its rows: this project's own choice.
use Rattle.std.specs.Prelude.{◌≡◌, ◌≢◌, ℕ, ◌==◌, ◌⊎◌, cond, Bool, true, List, [], ◌∷◌, Option, Some, None, IsSome, string_bytes}
use Rattle.std.specs.List.{AllByRecursion}
use Rattle.std.specs.Option.{option_and_then}
use Rattle.std.specs.FinMap.{get}
use Rattle.dav_key.specs.Key.{Key}
use Rattle.dav_nodes.specs.Tree.{Tree}
use Rattle.dav_nodes.specs.Rows.{HasRow}
use Rattle.dav_nodes.specs.TreeRows.{row_with, HasOnly, AreRowsOf}
use Rattle.slab.specs.Slab as slab
use Rattle.slab.specs.Slab.{Slab}
use Rattle.dav_nodes.specs.NodeChanges.{AddsNode}
use Rattle.dav_nodes.specs.Links.{AreLinked, AreSpots, value_at, member_at, spot_at}
use Rattle.dav_nodes.specs.declared.node.Node.{Node}
use Rattle.dav_nodes.specs.declared.nodes.loading.NumberedValue.{NumberedValue}
use Rattle.dav_nodes.specs.declared.nodes.loading.RowsError.{RowsError}
use Rattle.dav_nodes.specs.declared.nodes.loading.RowsError.TheVariants.{Memory}
use Rattle.dav_nodes.specs.declared.nodes.loading.TheConstants.{UNLINKED}

module _ {R : Type 0} where
  -- one of the rows has this number
  abbrev pub HasNumber : ℕ → List (NumberedValue R) → Type 0
  HasNumber number [] = ⊥
  HasNumber number (entry ∷ rows) = (entry.number ≡ number) ⊎ HasNumber number rows

  -- the node, if it is in the tree
  abbrev pub if_linked : Option (Node R) → Option (Node R)
  if_linked slot = option_and_then (λ node. cond (node.above == UNLINKED) None (Some node)) slot

  -- the nodes that are in the tree
  abbrev pub linked_part : (ℕ → Option (Node R)) → ℕ → Option (Node R)
  linked_part nodes number = if_linked (nodes number)

  -- the tree is a part of the whole one, whose other numbers are those of pending rows
  pub record IsLoading (whole : Tree R) (nodes : ℕ → Option (Node R)) (tree : Tree R) (pending : List (NumberedValue R)) : Type 0 where
    pub numbers : (key : Key) (number : ℕ) → get tree.numbers key ≡ Some number → get whole.numbers key ≡ Some number
    pub values : (key : Key) (value : R) → get tree.values key ≡ Some value → get whole.values key ≡ Some value
    pub slots : (key : Key) (number : ℕ) → get whole.numbers key ≡ Some number → IsSome (nodes number)
    pub rows : AllByRecursion (λ entry. HasRow whole entry.number (row_with entry)) pending
    pub rest : (key : Key) (number : ℕ) → get whole.numbers key ≡ Some number → (get tree.numbers key ≡ Some number) ⊎ HasNumber number pending

  -- the value of each row passes the test
  abbrev pub ArePassing : (R → Bool) → List (NumberedValue R) → Type 0
  ArePassing test rows = AllByRecursion (λ entry. test entry.value ≡ true) rows

  -- the linked nodes are a tree. A test that all rows' values pass is passed by the tree's values and those of the pending rows. If all rows are those of a
  -- tree, it is a part of that tree, and the pending rows are the rest.
  pub record IsLoaded (all : List (NumberedValue R)) (nodes : ℕ → Option (Node R)) (pending : List (NumberedValue R)) : Type 0 where
    pub tree : Tree R
    pub linked : AreLinked (value_at (linked_part nodes)) (member_at (linked_part nodes)) tree
    pub spots : AreSpots (member_at (linked_part nodes)) (spot_at (linked_part nodes))
    pub only : (test : R → Bool) → ArePassing test all → HasOnly test tree × ArePassing test pending
    pub part : (whole : Tree R) → AreRowsOf all whole → IsLoading whole nodes tree pending

  -- the row's number has no slot, or its parent has a member with its name already
  abbrev pub IsRefused : (ℕ → Option (Node R)) → NumberedValue R → Type 0
  IsRefused nodes entry = (nodes entry.number ≡ None) ⊎ (member_at nodes (string_bytes entry.name) entry.above ≢ None)

  -- the node of the row is added to those in the tree, where its parent had no member with its name
  pub record Attaches (old new : Slab (Node R)) (entry : NumberedValue R) : Type 0 where
    pub absent : member_at (linked_part (slab.get old)) (string_bytes entry.name) entry.above ≡ None
    pub adds : AddsNode (linked_part (slab.get old)) (linked_part (slab.get new)) entry.above (string_bytes entry.name) entry.number entry.value

  -- no row's parent is in the tree
  abbrev pub NoneAttachable : (ℕ → Option (Node R)) → List (NumberedValue R) → Type 0
  NoneAttachable nodes rows = AllByRecursion (λ entry. linked_part nodes entry.above ≡ None) rows

  -- if the nodes and the pending rows come from some rows, so do the new ones
  abbrev pub StaysLoaded : (ℕ → Option (Node R)) → List (NumberedValue R) → (ℕ → Option (Node R)) → List (NumberedValue R) → Type 0
  StaysLoaded old pending new left = (all : List (NumberedValue R)) → IsLoaded all old pending → IsLoaded all new left

  -- the error says that memory ran out, if the nodes and the pending rows are those of a tree
  abbrev pub IsErrorFor : (ℕ → Option (Node R)) → List (NumberedValue R) → RowsError → Type 0
  IsErrorFor nodes pending error = (all : List (NumberedValue R)) → IsLoaded all nodes pending → (whole : Tree R) → AreRowsOf all whole → error ≡ Memory
