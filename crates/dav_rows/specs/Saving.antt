-- What a connection keeps in the tables, now and over a crash.
use Rattle.std.specs.Prelude.{◌≡◌, ◌⊎◌, ℕ, List, Result, OnOk, IsTrue}
use Rattle.sqlite.specs.declared.error.Error.{Error}
use Rattle.sqlite.specs.Order.{Row}
use Rattle.sqlite.specs.Tree.{Trees}
use Rattle.sqlite.specs.State.{State, HasCleanDisk, ExecutesInside}
use Rattle.dav_rows.specs.Tables.{rows_schema}
use Rattle.dav_rows.specs.Contents.{Contents, Holds}

-- a transaction is open over the tables
pub record IsReady (s : State) : Type 0 where
  pub is_open : IsTrue s.is_open
  pub inside : IsTrue s.in_transaction
  pub schema : s.now.schema ≡ rows_schema

-- inside a transaction the tables go from all maps to what `f` makes of them
pub record Edits (old new : State) (f : Contents → Contents) : Type 0 where
  pub ready : IsReady new
  pub committed : new.committed ≡ old.committed
  pub holds : (m : Contents) → Holds old.now.trees m → Holds new.now.trees (f m)

-- it does so if it succeeds on a disk that is clean
abbrev pub Applies : {X : Type 0} → State → State → (Contents → Contents) → Result X Error → Type 0
Applies old new f result = HasCleanDisk new → IsReady old → OnOk result (Edits old new f)

-- a statement runs inside a transaction, on a disk that is clean
abbrev pub RunsInside : List ℕ → Row → State → State → Result ℕ Error → Type 0
RunsInside sql params old new result = HasCleanDisk new → IsTrue old.in_transaction → ExecutesInside 0 sql params old new result

-- The connection is open, what it sees is committed, and the tables stand for the maps.
pub record IsAt (s : State) (m : Contents) : Type 0 where
  pub is_open : IsTrue s.is_open
  pub schema : s.now.schema ≡ rows_schema
  pub settled : s.now ≡ s.committed
  pub holds : Holds s.now.trees m

-- ---- from an old state to a new one

-- the tables go from all maps to what `f` makes of them
abbrev pub Moves : State → State → (Contents → Contents) → Type 0
Moves old new f = (m : Contents) → IsAt old m → IsAt new (f m)

-- the tables stand for the maps that they stood for, while the connection is open
abbrev pub Stays : State → State → Type 0
Stays old new = IsTrue new.is_open → (m : Contents) → IsAt old m → IsAt new m

-- a crash leaves what `f` makes of them
abbrev pub Leaves : State → State → (Contents → Contents) → Type 0
Leaves old new f = (m : Contents) → IsAt old m → (db : Trees) → new.may_leave db → Holds db (f m)

-- a crash leaves the old maps or what `f` makes of them
abbrev pub LeavesEither : State → State → (Contents → Contents) → Type 0
LeavesEither old new f = (m : Contents) → IsAt old m → (db : Trees) → new.may_leave db → Holds db m ⊎ Holds db (f m)

-- a crash leaves nothing that it did not leave before
abbrev pub LeavesNoOther : State → State → Type 0
LeavesNoOther old new = (m : Contents) → IsAt old m → (db : Trees) → new.may_leave db → old.may_leave db
