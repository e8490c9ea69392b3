-- How the tables are made.
use Rattle.std.specs.Prelude.{◌≡◌, ◌⊎◌, ◌<◌, ◌+◌, ℕ, List, [], take, Result, OnOk, IsTrue}
use Rattle.std.specs.List.{AllByRecursion}
use Rattle.std.specs.FinMap.{empty}
use Rattle.sqlite.specs.declared.error.Error.{Error}
use Rattle.sqlite.specs.Schema.{Schema}
use Rattle.sqlite.specs.Effect.{Database, IsDatabase}
use Rattle.sqlite.specs.Change.{next_tree}
use Rattle.sqlite_catalog.specs.Change.{KeepsRows}
use Rattle.sqlite.specs.Tree.{Trees}
use Rattle.sqlite.specs.State.{State, HasCleanDisk}
use Rattle.dav_rows.specs.declared.change.Table.{Table}
use Rattle.dav_rows.specs.declared.change.Table.TheVariants.{Resource, Extent, Property, Lock, State as TheState, Note}
use Rattle.dav_rows.specs.declared.change.Change.{Change}
use Rattle.dav_rows.specs.Tables.{with_tables, rows_tables, no_schema}
use Rattle.dav_rows.specs.Contents.{Contents, Holds}
use Rattle.dav_rows.specs.Changes.{after}
use Rattle.dav_rows.specs.Saving.{IsReady, IsAt}

abbrev pub place : Table → ℕ
place Resource = 0
place Extent = 1
place Property = 2
place Lock = 3
place TheState = 4
place Note = 5

-- the maps of empty tables
abbrev pub nothing : Contents
nothing = record { resources = empty; extents = empty; properties = empty; locks = empty; states = empty; notes = empty }

-- the maps of new tables, after their first changes
abbrev pub first : List Change → Contents
first changes = after changes nothing

-- the trees list the schema, and obey it
unfoldable pub IsWhole : Database → Type 0
IsWhole db = IsDatabase db

-- The connection is open over a database with nothing in it, which is committed.
pub record IsBlank (s : State) : Type 0 where
  pub is_open : IsTrue s.is_open
  pub schema : s.now.schema ≡ no_schema
  pub settled : s.now ≡ s.committed
  pub sound : IsWhole s.now

-- a transaction is open over a database with nothing in it
pub record IsBare (s : State) : Type 0 where
  pub is_open : IsTrue s.is_open
  pub inside : IsTrue s.in_transaction
  pub schema : s.now.schema ≡ no_schema

-- a transaction is open over a database with this schema
pub record IsInside (schema : Schema) (s : State) : Type 0 where
  pub is_open : IsTrue s.is_open
  pub inside : IsTrue s.in_transaction
  pub schema_is : s.now.schema ≡ schema

-- the first so many tables
abbrev pub schema_of : ℕ → Schema
schema_of count = with_tables (take count rows_tables)

abbrev pub AreEmpty : Database → Type 0
AreEmpty db = AllByRecursion (λ t. db.trees t.tree ≡ []) db.schema.tables

-- in a transaction, so many tables are there, and they are empty
pub record IsBuilt (count : ℕ) (s : State) : Type 0 where
  pub is_open : IsTrue s.is_open
  pub inside : IsTrue s.in_transaction
  pub schema : s.now.schema ≡ schema_of count
  pub empty : AreEmpty s.now
  pub sound : 0 < count → IsDatabase s.now

-- a table is made behind the first so many, whose rows stay, and it is empty
pub record Adds (count : ℕ) (old new : State) : Type 0 where
  pub is_open : IsTrue new.is_open
  pub inside : IsTrue new.in_transaction
  pub schema : new.now.schema ≡ schema_of (count + 1)
  pub committed : new.committed ≡ old.committed
  pub kept : KeepsRows (schema_of count).tables old.now.trees new.now.trees
  pub empty : new.now.trees (next_tree (schema_of count)) ≡ []
  pub sound : IsDatabase new.now

-- it goes from so many tables to so many, if it succeeds on a disk that is clean
abbrev pub Builds : {X : Type 0} → State → State → ℕ → ℕ → Result X Error → Type 0
Builds old new from to result = HasCleanDisk new → IsBuilt from old → OnOk result (IsBuilt to new × (new.committed ≡ old.committed))

-- in a transaction, the tables stand for these maps
pub record IsFilled (old new : State) (m : Contents) : Type 0 where
  pub ready : IsReady new
  pub committed : new.committed ≡ old.committed
  pub holds : Holds new.now.trees m

-- where there was nothing, the tables are made, with these maps
abbrev pub Makes : State → State → Contents → Type 0
Makes old new m = IsBlank old → IsAt new m

-- there is nothing still, while the connection is open
abbrev pub StaysBlank : State → State → Type 0
StaysBlank old new = IsBlank old → IsTrue new.is_open → IsBlank new

-- where there was nothing, a crash leaves what it left before, or the tables with these maps
abbrev pub LeavesBlankOr : State → State → Contents → Type 0
LeavesBlankOr old new m = IsBlank old → (db : Trees) → new.may_leave db → old.may_leave db ⊎ Holds db m
