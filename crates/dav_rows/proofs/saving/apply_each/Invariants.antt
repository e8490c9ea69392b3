use Rattle.std.proofs.Common.{◌≡◌, take}
use Rattle.sqlite.specs.State.{HasCleanDisk, KeepsCommit, Survives}
use Rattle.sqlite.specs.Held.{state}
use Rattle.dav_rows.specs.Changes.{after}
use Rattle.dav_rows.specs.Saving.{IsReady, Edits}
use Rattle.dav_rows.proofs.saving.apply_each.Given as goal

abbrev pub invariant-changes : goal.invariant-changes
invariant-changes g l = record {
  same : l.tx.conn.ghost_name ≡ l.fn.tx.conn.ghost_name;
  kept : HasCleanDisk (state g.S.Store l.tx.conn.now) → KeepsCommit (state g.S.Store l.fn.tx.conn.now) (state g.S.Store l.tx.conn.now);
  survives : Survives (state g.S.Store l.fn.tx.conn.now) (state g.S.Store l.tx.conn.now) (λ _. ⊥);
  rows : HasCleanDisk (state g.S.Store l.tx.conn.now) → IsReady (state g.S.Store l.fn.tx.conn.now)
      → Edits (state g.S.Store l.fn.tx.conn.now) (state g.S.Store l.tx.conn.now) (after (take l.change-index l.changes));
}
