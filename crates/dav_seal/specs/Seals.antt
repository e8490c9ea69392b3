-- The seal over all rows of a store, and the seals that a program keeps of them.
use Rattle.std.specs.Prelude.{◌≡◌, ℕ, ℤ, pos, List, [], ◌∷◌, ◌++◌, map}
use Rattle.std.specs.List.{AllByRecursion}
use Rattle.std.specs.FinMap.{entries, insert}
use Rattle.sqlite_value.specs.Order.{Row}
use Rattle.dav_rows.specs.declared.change.Change.{Change}
use Rattle.dav_rows.specs.declared.change.Table.{Table}
use Rattle.dav_rows.specs.declared.change.Table.TheVariants.{Resource, Extent, Property, Lock, State}
use Rattle.dav_rows.specs.declared.loading.Rows.{Rows}
use Rattle.dav_rows.specs.declared.state.StateRow.{StateRow}
use Rattle.dav_rows.specs.Stored.{Numbered, shown}
use Rattle.dav_rows.specs.Contents.{Contents, StateValues, resource_cells, extent_cells, property_cells, lock_cells, state_cells}
use Rattle.dav_rows.specs.Changes.{resource_entry, extent_entry, property_entry, lock_entry, state_entry, after}
use Rattle.dav_seal.specs.RowBytes.{AreCells}
use Rattle.dav_seal.specs.Digests.{digests_of}
use Rattle.dav_seal.specs.Sums.{total_of}
use Rattle.dav_seal.specs.Held.{HasDigests}
use Rattle.dav_seal.specs.SealRow.{row_with, unsealed}
use Rattle.dav_seal.specs.declared.seals.Seals.{Seals}
use Rattle.dav_seal.specs.declared.table_seal.TableSeal.{TableSeal}

-- the digests of all rows but that of the seal
abbrev pub all_digests : ℕ → Contents → List (ℤ × ℕ)
all_digests key m =
    digests_of key Resource resource_cells m.resources
    ++ (digests_of key Extent extent_cells m.extents
    ++ (digests_of key Property property_cells m.properties
    ++ (digests_of key Lock lock_cells m.locks ++ digests_of key State state_cells (unsealed m.states))))

-- the seal of these maps under the key
abbrev pub seal_of : ℕ → Contents → ℕ
seal_of key m = total_of (all_digests key m)

-- the row that holds it
abbrev pub seal_row : ℕ → Contents → ℤ × StateValues
seal_row key m = row_with (seal_of key m)

-- the state has a row 0 with this key, and then the row of the seal of these maps under the key, and no other
abbrev pub IsSealed : ℕ → Contents → Type 0
IsSealed key m = (numbers : StateValues) × (numbers.digest_key ≡ pos key) × (entries m.states ≡ (pos 0, numbers) ∷ seal_row key m ∷ [])

-- the maps with the row of their seal under the key
abbrev pub sealed : ℕ → Contents → Contents
sealed key m = let row = seal_row key m in record m { states = insert m.states row.0 row.1 }

-- the maps after the changes, with the row of the seal that they have then
abbrev pub sealed_after : ℕ → List Change → Contents → Contents
sealed_after key changes m = sealed key (after changes m)

-- each row of the table has cells that its bytes determine
abbrev pub HasCells : {V : Type 0} → (V → Row) → Numbered V → Type 0
HasCells cells m = AllByRecursion (λ e. AreCells (shown cells e)) (entries m)

-- the seal keeps the digests of the table's rows
pub record IsSealOf {V : Type 0} (key : ℕ) (table : Table) (cells : V → Row) (m : Numbered V) (seal : TableSeal) : Type 0 where
  pub digests : HasDigests seal (digests_of key table cells m)
  pub whole : HasCells cells m

-- these are the seals of the maps under the key
pub record AreSealsOf (key : ℕ) (m : Contents) (seals : Seals) : Type 0 where
  pub under : seals.key ≡ key
  pub resources : IsSealOf key Resource resource_cells m.resources seals.resources
  pub extents : IsSealOf key Extent extent_cells m.extents seals.extents
  pub properties : IsSealOf key Property property_cells m.properties seals.properties
  pub locks : IsSealOf key Lock lock_cells m.locks seals.locks
  pub states : IsSealOf key State state_cells (unsealed m.states) seals.states

-- the rows of the five tables are the entries of the maps, in the order of the numbers
pub record AreTables (rows : Rows) (m : Contents) : Type 0 where
  pub resources : map resource_entry rows.resources.items ≡ entries m.resources
  pub extents : map extent_entry rows.extents.items ≡ entries m.extents
  pub properties : map property_entry rows.properties.items ≡ entries m.properties
  pub locks : map lock_entry rows.locks.items ≡ entries m.locks
  pub states : map state_entry rows.states.items ≡ entries m.states

-- this is the only row of the state but that of the seal
abbrev pub IsOnly : StateRow → Contents → Type 0
IsOnly state m = state_entry state ∷ [] ≡ entries (unsealed m.states)
