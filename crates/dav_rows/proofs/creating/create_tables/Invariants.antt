use Rattle.std.proofs.Common.{◌≡◌}
use Rattle.sqlite.specs.State.{HasCleanDisk, KeepsCommit, Survives}
use Rattle.sqlite.specs.Held.{state}
use Rattle.dav_rows.specs.Creating.{IsBuilt}
use Rattle.dav_rows.proofs.creating.create_tables.Given as goal

abbrev pub invariant-tables : goal.invariant-tables
invariant-tables g l = record {
  same : l.tx.conn.ghost_name ≡ l.fn.tx.conn.ghost_name;
  kept : HasCleanDisk (state g.S.Store l.tx.conn.now) → KeepsCommit (state g.S.Store l.fn.tx.conn.now) (state g.S.Store l.tx.conn.now);
  survives : Survives (state g.S.Store l.fn.tx.conn.now) (state g.S.Store l.tx.conn.now) (λ _. ⊥);
  made : HasCleanDisk (state g.S.Store l.tx.conn.now) → IsBuilt 0 (state g.S.Store l.fn.tx.conn.now)
      → IsBuilt l.table-index (state g.S.Store l.tx.conn.now) × ((state g.S.Store l.tx.conn.now).committed ≡ (state g.S.Store l.fn.tx.conn.now).committed);
}
