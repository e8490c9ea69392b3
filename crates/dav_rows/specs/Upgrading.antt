-- What adds the table of the notes to those of version 1.
use Rattle.std.specs.Prelude.{◌≡◌, ◌⊎◌, IsTrue}
use Rattle.std.specs.FinMap.{empty}
use Rattle.sqlite.specs.Tree.{Trees}
use Rattle.sqlite.specs.State.{State}
use Rattle.dav_rows.specs.Tables.{older_schema}
use Rattle.dav_rows.specs.Stored.{AreRows}
use Rattle.dav_rows.specs.Contents.{Contents, Holds, resource_cells, extent_cells, property_cells, lock_cells, state_cells}
use Rattle.dav_rows.specs.Saving.{IsAt}

-- the rows of version 1 are those of the maps, which have no note
pub record HoldsOlder (db : Trees) (m : Contents) : Type 0 where
  pub resources : AreRows resource_cells (db 0) m.resources
  pub extents : AreRows extent_cells (db 1) m.extents
  pub properties : AreRows property_cells (db 2) m.properties
  pub locks : AreRows lock_cells (db 3) m.locks
  pub states : AreRows state_cells (db 4) m.states
  pub no_notes : m.notes ≡ empty

-- The connection is open, what it sees is committed, and the tables are those of version 1 and stand for the maps.
pub record IsOlder (s : State) (m : Contents) : Type 0 where
  pub is_open : IsTrue s.is_open
  pub schema : s.now.schema ≡ older_schema
  pub settled : s.now ≡ s.committed
  pub holds : HoldsOlder s.now.trees m

-- the tables of version 1 become the current ones, which go from all maps to what `f` makes of them
abbrev pub Upgrades : State → State → (Contents → Contents) → Type 0
Upgrades old new f = (m : Contents) → IsOlder old m → IsAt new (f m)

-- where the tables were those of version 1, a crash leaves what it left before, or what `f` makes of the maps
abbrev pub LeavesOlderOr : State → State → (Contents → Contents) → Type 0
LeavesOlderOr old new f = (m : Contents) → IsOlder old m → (db : Trees) → new.may_leave db → old.may_leave db ⊎ Holds db (f m)
