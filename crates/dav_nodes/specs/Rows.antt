-- What a tree says of a number, and which numbers have changed: this project's own choice.
use Rattle.std.specs.Prelude.{◌≡◌, ℕ, ◌-◌, Bool, true, false, List, ◌++◌, length, Option, Some, None, is_some, slice_get}
use Rattle.std.specs.Option.{option_map, option_copied}
use Rattle.std.specs.Ordering.{nat_cmp}
use Rattle.std.specs.FinMap.{get}
use Rattle.std.specs.BTreeSet.{contains}
use Rattle.dav_key.specs.Key.{Key, parent}
use Rattle.dav_nodes.specs.Tree.{Tree}
use Rattle.dav_nodes.specs.declared.changes.Changes.{Changes}
use Rattle.dav_nodes.specs.declared.nodes.rows.PlacedValue.{PlacedValue}
use Rattle.dav_nodes.specs.declared.changes.Changes.TheVariants.{All, Numbers}

-- the last segment of a key; the root has none
abbrev pub own_name : Key → Option (List ℕ)
own_name key = slice_get key (length key - 1)

-- what belongs to a number: the number of its parent, its name there, and its value. The root has no name, and is its own parent.
pub record Row (R : Type 0) : Type 0 where
  pub above : Option ℕ
  pub name : Option (List ℕ)
  pub value : R

module _ {R : Type 0} where
  -- the row of a key with a value
  abbrev pub row_of : Tree R → Key → Option (Row R)
  row_of tree key = option_map (λ value. record { above = get tree.numbers (parent key); name = own_name key; value = value }) (get tree.values key)

  -- the number has this row. A rename changes the row of the number that it moves, and of no number below it.
  abbrev pub HasRow : Tree R → ℕ → Row R → Type 0
  HasRow tree number row = (key : Key) × (get tree.numbers key ≡ Some number) × (row_of tree key ≡ Some row)

  -- the number has the same row in both trees, or none in both
  pub record KeepsRow (number : ℕ) (old new : Tree R) : Type 0 where
    pub kept : (row : Row R) → HasRow old number row → HasRow new number row
    pub had : (row : Row R) → HasRow new number row → HasRow old number row

  -- the row that a value with its place says
  abbrev pub row_in : PlacedValue R → Row R
  row_in placed = record { above = Some placed.above; name = option_copied placed.name; value = placed.value.now }

  -- no two keys have the same number
  abbrev pub AreDistinct : Tree R → Type 0
  AreDistinct tree = (a b : Key) (number : ℕ) → get tree.numbers a ≡ Some number → get tree.numbers b ≡ Some number → a ≡ b

  -- below a key without a number no key has one
  abbrev pub AreJoined : Tree R → Type 0
  AreJoined tree = (key below : Key) → get tree.numbers key ≡ None → get tree.numbers (key ++ below) ≡ None

-- the number is among these
abbrev pub is_noted : Changes → ℕ → Bool
is_noted All number = true
is_noted (Numbers set) number = contains nat_cmp set number

module _ {R : Type 0} where
  -- the keys with a number are those with a value
  abbrev pub AreNumbered : Tree R → Type 0
  AreNumbered tree = (key : Key) → is_some (get tree.numbers key) ≡ is_some (get tree.values key)

  -- each number is one key's only, and each number that is not noted has the row that it had in the old tree
  pub record HasNoted (changes : Changes) (old now : Tree R) : Type 0 where
    pub numbered_old : AreNumbered old
    pub distinct_old : AreDistinct old
    pub distinct_now : AreDistinct now
    pub kept : (number : ℕ) → is_noted changes number ≡ false → KeepsRow number old now

  -- what is noted since a tree was last asked; every number, if it never was
  abbrev pub AreNoted : Changes → Option (Tree R) → Tree R → Type 0
  AreNoted changes None now = (number : ℕ) → is_noted changes number ≡ true
  AreNoted changes (Some old) now = HasNoted changes old now
