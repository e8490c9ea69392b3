-- The rows of a table as they are stored and as they are shown.
use Rattle.std.specs.Prelude.{◌≡◌, ℤ, List, ◌∷◌, map}
use Rattle.std.specs.FinMap.{FinMap, entries}
use Rattle.std.specs.Ordering.{int_cmp}
use Rattle.sqlite_catalog.specs.Listing.{IsSound}
use Rattle.sqlite.specs.declared.types.Value.TheVariants.{Null, Int}
use Rattle.sqlite.specs.Order.{Row}
use Rattle.sqlite.specs.Tree.{Trees}
use Rattle.dav_rows.specs.Tables.{rows_schema}

-- values by number
abbrev pub Numbered : Type 0 → Type 0
Numbered V = FinMap int_cmp V

-- a number and the cells of its values, with the place of the number itself left empty
abbrev pub stored : {V : Type 0} → (V → Row) → ℤ × V → Row
stored cells e = Int e.0 ∷ Null ∷ cells e.1

-- what is shown of a row, which is also what is given to put it
abbrev pub shown : {V : Type 0} → (V → Row) → ℤ × V → Row
shown cells e = Int e.0 ∷ cells e.1

-- the rows are those of the map, in order
abbrev pub AreRows : {V : Type 0} → (V → Row) → List Row → Numbered V → Type 0
AreRows cells rows m = rows ≡ map (stored cells) (entries m)

-- the trees are a database with these tables alone
unfoldable pub IsOurs : Trees → Type 0
IsOurs db = IsSound rows_schema db
