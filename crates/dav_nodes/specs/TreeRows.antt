-- The rows of a whole tree: this project's own choice.
use Rattle.std.specs.Prelude.{◌≡◌, ◌↔◌, ℕ, zero, suc, Bool, true, List, [], map, Option, Some, None, is_some, string_bytes}
use Rattle.std.specs.List.{Contains}
use Rattle.std.specs.List.Sorted.{IsStrictlySortedBy}
use Rattle.std.specs.Ordering.{nat_cmp}
use Rattle.std.specs.FinMap.{get}
use Rattle.dav_key.specs.Key.{Key}
use Rattle.dav_nodes.specs.Tree.{Tree}
use Rattle.dav_nodes.specs.Rows.{Row, HasRow, AreDistinct, AreJoined}
use Rattle.dav_nodes.specs.declared.nodes.loading.NumberedValue.{NumberedValue}

-- the name of a row with this number; the root has none
abbrev pub name_with : ℕ → List ℕ → Option (List ℕ)
name_with zero name = None
name_with (suc number) name = Some name

module _ {R : Type 0} where
  -- the row of a value with its number
  abbrev pub row_with : NumberedValue R → Row R
  row_with entry = record { above = Some entry.above; name = name_with entry.number (string_bytes entry.name); value = entry.value }

  -- its number and its row
  abbrev pub numbered_row : NumberedValue R → ℕ × Row R
  numbered_row entry = (entry.number, row_with entry)

  -- the numbers of the rows ascend
  abbrev pub AreAscending : List (NumberedValue R) → Type 0
  AreAscending rows = IsStrictlySortedBy nat_cmp (map (λ entry. entry.number) rows)

  -- each value of the tree passes the test
  abbrev pub HasOnly : (R → Bool) → Tree R → Type 0
  HasOnly test tree = (key : Key) (value : R) → get tree.values key ≡ Some value → test value ≡ true

  -- these are the rows of the tree: each number with a row is among them once, and there is no other. The numbers ascend.
  pub record AreRowsOf (rows : List (NumberedValue R)) (tree : Tree R) : Type 0 where
    pub root : get tree.numbers [] ≡ Some 0
    pub distinct : AreDistinct tree
    pub joined : AreJoined tree
    pub numbered : (key : Key) → is_some (get tree.numbers key) ≡ is_some (get tree.values key)
    pub listed : (number : ℕ) (row : Row R) → Contains (map numbered_row rows) (number, row) ↔ HasRow tree number row
    pub ascending : AreAscending rows
