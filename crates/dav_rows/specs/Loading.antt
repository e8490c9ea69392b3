-- What is read back.
use Rattle.std.specs.Prelude.{◌≡◌, ◌⊎◌, ◌↔◌, ◌≤◌, ℕ, ℤ, Bool, not, pos, List, [], map, Vec, Option, option_map, Result, IfOk, IsTrue}
use Rattle.std.specs.Ordering.{int_eq}
use Rattle.std.specs.FinMap.{entries}
use Rattle.sqlite_trees.specs.View.{doubt}
use Rattle.sqlite_trees.specs.declared.store.Store.{Ghosts}
use Rattle.sqlite.specs.declared.error.Error.{Error}
use Rattle.sqlite.specs.declared.types.Value.{Value}
use Rattle.sqlite.specs.Order.{Row, column, bytes}
use Rattle.sqlite.specs.Edit.{id_in}
use Rattle.sqlite.specs.Tree.{Trees}
use Rattle.sqlite.specs.State.{State, HasCleanDisk, Shown, IsUnchanged}
use Rattle.sqlite.specs.Held.{Held, state}
use Rattle.sqlite.specs.Given.{IsPlain, Advances}
use Rattle.sqlite.specs.Listing.{understood}
use Rattle.std.specs.declared.alloc.Global.{Global}
use Rattle.sqlite.specs.Schema.{Schema}
use Rattle.dav_rows.specs.Tables.{rows_schema, older_schema, no_schema}
use Rattle.dav_rows.specs.declared.opening.Version.{Version}
use Rattle.dav_rows.specs.declared.opening.Version.TheVariants.{New, Older, Current}
use Rattle.dav_rows.specs.declared.loading.Rows.{Rows}
use Rattle.dav_rows.specs.Contents.{Contents, ResourceValues, ExtentValues, PropertyValues, LockValues, StateValues, NoteValues}
use Rattle.dav_rows.specs.Changes.{resource_entry, extent_entry, property_entry, lock_entry, state_entry, note_entry}
use Rattle.dav_rows.specs.Saving.{IsAt}
use Rattle.dav_rows.specs.Creating.{IsBlank}

-- ---- the entry that a row shows

abbrev pub flag_in : Value → Bool
flag_in v = not (int_eq (id_in v) (pos 0))

abbrev pub resource_in : Row → ℤ × ResourceValues
resource_in row = (id_in (column row 0), record { parent = id_in (column row 1); name = bytes (column row 2); directory = flag_in (column row 3); size = id_in (column row 4); version = id_in (column row 5); created = id_in (column row 6); modified = id_in (column row 7) })

abbrev pub extent_in : Row → ℤ × ExtentValues
extent_in row = (id_in (column row 0), record { resource = id_in (column row 1); place = id_in (column row 2); pieces = bytes (column row 3) })

abbrev pub property_in : Row → ℤ × PropertyValues
property_in row = (id_in (column row 0), record { resource = id_in (column row 1); namespace = bytes (column row 2); name = bytes (column row 3); element = bytes (column row 4) })

abbrev pub lock_in : Row → ℤ × LockValues
lock_in row = (id_in (column row 0), record { token = bytes (column row 1); path = bytes (column row 2); lock = bytes (column row 3) })

abbrev pub state_in : Row → ℤ × StateValues
state_in row = (id_in (column row 0), record { counter = id_in (column row 1); time = id_in (column row 2); batch = id_in (column row 3); digest_key = id_in (column row 4) })

abbrev pub note_in : Row → ℤ × NoteValues
note_in row = (id_in (column row 0), record { kind = id_in (column row 1); owner = id_in (column row 2); value = bytes (column row 3) })

-- the rows are the entries of the maps, in the order of the numbers
pub record AreAll (rows : Rows) (m : Contents) : Type 0 where
  pub resources : map resource_entry rows.resources.items ≡ entries m.resources
  pub extents : map extent_entry rows.extents.items ≡ entries m.extents
  pub properties : map property_entry rows.properties.items ≡ entries m.properties
  pub locks : map lock_entry rows.locks.items ≡ entries m.locks
  pub states : map state_entry rows.states.items ≡ entries m.states
  pub notes : map note_entry rows.notes.items ≡ entries m.notes

-- the rows are the entries of the maps of version 1, and there is no note
pub record AreOlder (rows : Rows) (m : Contents) : Type 0 where
  pub resources : map resource_entry rows.resources.items ≡ entries m.resources
  pub extents : map extent_entry rows.extents.items ≡ entries m.extents
  pub properties : map property_entry rows.properties.items ≡ entries m.properties
  pub locks : map lock_entry rows.locks.items ≡ entries m.locks
  pub states : map state_entry rows.states.items ≡ entries m.states
  pub none : rows.notes.items ≡ []

-- the rows are those that the state stands for, and still does
abbrev pub AreHeld : State → State → Rows → Type 0
AreHeld old new rows = (m : Contents) → IsAt old m → IsAt new m × AreAll rows m

-- the tables stand for the maps that they stood for
abbrev pub StaysAt : State → State → Type 0
StaysAt old new = (m : Contents) → IsAt old m → IsAt new m

-- It answers what is so of the maps, and leaves the tables, and what a crash finds, as they are.
pub record Reads {X : Type 0} (old new : State) (result : Result X Error) (Is : X → Contents → Type 0) : Type 0 where
  pub clean : doubt old.is_clean ≤ doubt new.is_clean
  pub faults : old.faults ≤ new.faults
  pub limit : new.step_limit ≡ old.step_limit
  pub ok : HasCleanDisk new → IfOk result (λ x. (m : Contents) → IsAt old m → IsAt new m × Is x m)
  pub at : HasCleanDisk new → (m : Contents) → IsAt old m → IsTrue new.is_open → IsAt new m
  pub crash : HasCleanDisk new → (m : Contents) → IsAt old m → (db : Trees) → new.may_leave db → old.may_leave db

-- these are the entries of the rows that SQL shows, in their order
abbrev pub AreShown : {T E : Type 0} → (T → E) → (Row → E) → List ℕ → State → State → Vec T Global → Type 0
AreShown entry entry_in sql old new all = (rows : List Row) × Shown sql [] old new rows × (map entry all.items ≡ map entry_in rows)

-- A query that only reads does so, and reads what SQL shows.
abbrev pub ReadsText : {T E : Type 0} → (T → E) → (Row → E) → List ℕ → State → State → Result (Vec T Global) Error → Type 0
ReadsText entry entry_in sql old new result = IsPlain (understood rows_schema sql) → Reads old new result (λ all m. AreShown entry entry_in sql old new all)

-- a query under way gives its next row, which is read as its entry, or it is at its end
abbrev pub GivesEntry : {S T E : Type 0} → Ghosts S → (T → E) → (Row → E) → Held S → Held S → Option T → Type 0
GivesEntry g entry entry_in old new found =
    IsUnchanged (state g old) (state g new) × (row : Option Row) × Advances g old new row × (option_map entry found ≡ option_map entry_in row)

-- The next row of a query is read, and the tables are left as they are.
abbrev pub ReadsNext : {S T E : Type 0} → Ghosts S → (T → E) → (Row → E) → Held S → Held S → Result (Option T) Error → Type 0
ReadsNext g entry entry_in old new result = Reads (state g old) (state g new) result (λ found m. GivesEntry g entry entry_in old new found)

-- The same, over a database with nothing in it.
pub record ReadsBlank {X : Type 0} (old new : State) (result : Result X Error) (Is : X → Type 0) : Type 0 where
  pub clean : doubt old.is_clean ≤ doubt new.is_clean
  pub faults : old.faults ≤ new.faults
  pub limit : new.step_limit ≡ old.step_limit
  pub ok : HasCleanDisk new → IfOk result (λ x. IsBlank old → IsBlank new × Is x)
  pub at : HasCleanDisk new → IsBlank old → IsTrue new.is_open → IsBlank new
  pub crash : HasCleanDisk new → IsBlank old → (db : Trees) → new.may_leave db → old.may_leave db

-- the connection sees the same database, and a crash leaves nothing that it did not leave before
pub record LeavesAlone (old new : State) : Type 0 where
  pub same : IsUnchanged old new
  pub crash : (db : Trees) → new.may_leave db → old.may_leave db

-- where there was nothing, the rows and the state are those of these maps
abbrev pub AreNew : State → State → Contents → Rows → Type 0
AreNew old new m rows = IsBlank old → IsAt new m × AreAll rows m

-- the tables of the schema have this version
pub record IsVersion (schema : Schema) (version : Version) : Type 0 where
  pub new : (version ≡ New) ↔ (schema ≡ no_schema)
  pub older : (version ≡ Older) ↔ (schema ≡ older_schema)
  pub current : (version ≡ Current) ↔ (schema ≡ rows_schema)

-- there is no table, or there are those of version 1 or the current ones, and nothing else
abbrev pub IsNoneOrOurs : Schema → Type 0
IsNoneOrOurs schema = (schema ≡ no_schema) ⊎ ((schema ≡ older_schema) ⊎ (schema ≡ rows_schema))
