-- Why a call fails.
use Rattle.std.specs.Prelude.{◌≡◌, ◌⊎◌, ⊤, ℕ, ℤ, List, [], ◌∷◌, ◌++◌, Any, Some, Result, IfErr, IsTrue, IsSome, IsUtf8}
use Rattle.std.specs.List.{AllByRecursion}
use Rattle.std.specs.FinMap.{entries}
use Rattle.sqlite_disk.specs.Disk.{MoreFaults}
use Rattle.sqlite_trees.specs.declared.store.Store.{Ghosts}
use Rattle.sqlite_trees.specs.View.{IsStorableRow}
use Rattle.sqlite.specs.declared.error.ErrorCode.TheVariants.{OutOfMemory, OperationInterrupted, TooBig}
use Rattle.sqlite.specs.declared.error.Error.{Error}
use Rattle.sqlite.specs.declared.error.Error.TheVariants.{SqliteFailure}
use Rattle.sqlite.specs.Order.{Row}
use Rattle.sqlite.specs.State.{State, HasCleanDisk, IsUnchanged, Begins, FailsToQuery, is_disk_error}
use Rattle.sqlite.specs.Held.{Held, state}
use Rattle.sqlite.specs.Given.{IsPlain, Advances, FailsToAdvance}
use Rattle.sqlite.specs.Listing.{understood}
use Rattle.dav_rows.specs.declared.opening.StartError.{StartError}
use Rattle.dav_rows.specs.declared.opening.StartError.TheVariants.{Foreign, Sqlite}
use Rattle.dav_rows.specs.Tables.{rows_schema, older_schema}
use Rattle.dav_rows.specs.Stored.{Numbered, stored, shown}
use Rattle.dav_rows.specs.Contents.{Contents, Holds, ResourceValues, PropertyValues, LockValues, resource_cells, extent_cells, property_cells, lock_cells, state_cells, note_cells}
use Rattle.dav_rows.specs.Changes.{resource_entry, extent_entry, property_entry, lock_entry, state_entry, note_entry}
use Rattle.dav_rows.specs.declared.change.Change.{Change}
use Rattle.dav_rows.specs.declared.change.Change.TheVariants.{PutResource, PutExtent, PutProperty, PutLock, PutState, PutNote, Remove}
use Rattle.dav_rows.specs.Saving.{IsAt, IsReady}
use Rattle.dav_rows.specs.Creating.{IsBlank, IsInside, IsBare, schema_of}
use Rattle.dav_rows.specs.Upgrading.{HoldsOlder, IsOlder}

-- ---- causes

abbrev pub IsOutOfMemory : Error → Type 0
IsOutOfMemory e = e ≡ SqliteFailure OutOfMemory

-- the disk reported a fault meanwhile, and the error is that of a fault
abbrev pub IsFault : State → State → Error → Type 0
IsFault old new e = IsTrue (is_disk_error e) × MoreFaults old.faults new.faults

-- a query took more steps than the caller had allowed on the connection
abbrev pub IsOverLimit : State → Error → Type 0
IsOverLimit old e = (e ≡ SqliteFailure OperationInterrupted) × IsSome old.step_limit

-- Memory ran out, the disk reported a fault, or the caller's limit on steps was reached.
abbrev pub IsExcused : State → State → Error → Type 0
IsExcused old new e = IsOutOfMemory e ⊎ (IsFault old new e ⊎ IsOverLimit old e)

-- the same of a start, which is not refused as foreign
abbrev pub IsExcusedStart : State → State → StartError → Type 0
IsExcusedStart old new Foreign = ⊥
IsExcusedStart old new (Sqlite e) = IsExcused old new e

-- ---- maps of texts

abbrev pub AreUtf8 : {V : Type 0} → (V → Type 0) → Numbered V → Type 0
AreUtf8 IsText m = AllByRecursion (λ e. IsText e.1) (entries m)

abbrev pub IsUtf8Resource : ResourceValues → Type 0
IsUtf8Resource v = IsUtf8 v.name

abbrev pub IsUtf8Property : PropertyValues → Type 0
IsUtf8Property v = IsUtf8 v.namespace × IsUtf8 v.name

abbrev pub IsUtf8Lock : LockValues → Type 0
IsUtf8Lock v = IsUtf8 v.token × IsUtf8 v.path

-- values with no text
abbrev pub HasNoText : {V : Type 0} → V → Type 0
HasNoText v = ⊤

-- each text is UTF-8, as each `String` is
pub record HasUtf8 (m : Contents) : Type 0 where
  pub resources : AreUtf8 IsUtf8Resource m.resources
  pub properties : AreUtf8 IsUtf8Property m.properties
  pub locks : AreUtf8 IsUtf8Lock m.locks

-- the row shows a number and values whose texts are UTF-8
abbrev pub IsShownBy : {V : Type 0} → (V → Row) → (V → Type 0) → Row → Type 0
IsShownBy {V} cells IsText row = (n : ℤ) × (v : V) × IsText v × (row ≡ shown cells (n, v))

-- ---- rows that are put

-- SQLite does not store the row: it has more than a billion bytes
abbrev pub IsTooLong : {V : Type 0} → (V → Row) → ℤ × V → Type 0
IsTooLong cells e = ¬ IsStorableRow 0 (stored cells e)

abbrev pub PutsTooLong : Change → Type 0
PutsTooLong (PutResource r) = IsTooLong resource_cells (resource_entry r)
PutsTooLong (PutExtent r) = IsTooLong extent_cells (extent_entry r)
PutsTooLong (PutProperty r) = IsTooLong property_cells (property_entry r)
PutsTooLong (PutLock r) = IsTooLong lock_cells (lock_entry r)
PutsTooLong (PutState r) = IsTooLong state_cells (state_entry r)
PutsTooLong (PutNote r) = IsTooLong note_cells (note_entry r)
PutsTooLong (Remove table n) = ⊥

-- the same causes, or a row is too long
abbrev pub IsExcusedPut : State → State → Type 0 → Error → Type 0
IsExcusedPut old new Long e = IsExcused old new e ⊎ ((e ≡ SqliteFailure TooBig) × Long)

-- inside a transaction over our tables, it fails for these causes alone
abbrev pub FailsToApply : {X : Type 0} → State → State → Type 0 → Result X Error → Type 0
FailsToApply old new Long result =
    HasCleanDisk new → IfErr result (λ e. IsReady old → (m : Contents) → Holds old.now.trees m → IsExcusedPut old new Long e)

-- over our tables, it fails for these causes alone
abbrev pub FailsToSave : {X : Type 0} → State → State → List Change → Result X Error → Type 0
FailsToSave old new changes result =
    HasCleanDisk new → IfErr result (λ e. (m : Contents) → IsAt old m → IsExcusedPut old new (Any PutsTooLong changes) e)

-- ---- tables that are made

-- behind the first so many tables, it fails for these causes alone
abbrev pub FailsToBuild : {X : Type 0} → ℕ → State → State → Result X Error → Type 0
FailsToBuild from old new result = HasCleanDisk new → IfErr result (λ e. IsInside (schema_of from) old → IsExcused old new e)

-- in a transaction over nothing, it fails for these causes alone
abbrev pub FailsToFill : {X : Type 0} → State → State → List Change → Result X Error → Type 0
FailsToFill old new changes result = HasCleanDisk new → IfErr result (λ e. IsBare old → IsExcusedPut old new (Any PutsTooLong changes) e)

-- over a database with nothing in it, it fails for these causes alone
abbrev pub FailsToCreate : {X : Type 0} → State → State → List Change → Result X Error → Type 0
FailsToCreate old new changes result = HasCleanDisk new → IfErr result (λ e. IsBlank old → IsExcusedPut old new (Any PutsTooLong changes) e)

-- the same of a start
abbrev pub IsExcusedFirst : State → State → List Change → StartError → Type 0
IsExcusedFirst old new changes Foreign = ⊥
IsExcusedFirst old new changes (Sqlite e) = IsExcusedPut old new (Any PutsTooLong changes) e

-- in a transaction over the tables of version 1, it fails for these causes alone
abbrev pub FailsToFillNotes : {X : Type 0} → State → State → List Change → Result X Error → Type 0
FailsToFillNotes old new changes result =
    HasCleanDisk new → IfErr result (λ e. IsInside older_schema old → (m : Contents) → HoldsOlder old.now.trees m → IsExcusedPut old new (Any PutsTooLong changes) e)

-- over the tables of version 1, it fails for these causes alone
abbrev pub FailsToUpgrade : {X : Type 0} → State → State → List Change → Result X Error → Type 0
FailsToUpgrade old new changes result = HasCleanDisk new → IfErr result (λ e. (m : Contents) → IsOlder old m → IsExcusedPut old new (Any PutsTooLong changes) e)

-- ---- calls

-- over our tables, whose texts are UTF-8, it fails for these causes alone
abbrev pub FailsExcused : {X : Type 0} → State → State → Result X Error → Type 0
FailsExcused old new result = HasCleanDisk new → IfErr result (λ e. (m : Contents) → IsAt old m → HasUtf8 m → IsExcused old new e)

-- over a database with nothing in it, it fails for these causes alone
abbrev pub FailsExcusedBlank : {X : Type 0} → State → State → Result X Error → Type 0
FailsExcusedBlank old new result = HasCleanDisk new → IfErr result (λ e. IsBlank old → IsExcused old new e)

-- ---- queries that are read row by row

-- each row that the query gives can be read
abbrev pub AreReadable : (Row → Type 0) → List ℕ → State → Type 0
AreReadable IsReadable sql s = (rows : List Row) (row : Row) → Begins sql [] s (rows ++ row ∷ []) → IsReadable row

-- a query under way fails, or gives its next row, and that is not read
abbrev pub FailsNext : {S : Type 0} → Ghosts S → (Row → Type 0) → Held S → Held S → Error → Type 0
FailsNext g IsReadable old new e =
    FailsToAdvance g old new e
    ⊎ (IsUnchanged (state g old) (state g new) × (row : Row) × Advances g old new (Some row) × (IsReadable row → IsOutOfMemory e))

-- Over our tables the query fails, or memory runs out, if the rows can be read.
abbrev pub FailsText : {X : Type 0} → (Row → Type 0) → List ℕ → State → State → Result X Error → Type 0
FailsText IsReadable sql old new result =
    IsPlain (understood rows_schema sql) → HasCleanDisk new
    → IfErr result (λ e. (m : Contents) → IsAt old m → FailsToQuery sql [] old new e ⊎ (AreReadable IsReadable sql old → IsOutOfMemory e))
