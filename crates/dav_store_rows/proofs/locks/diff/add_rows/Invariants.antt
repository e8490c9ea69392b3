use Rattle.std.proofs.Common.{ℕ, pos, ◌+◌, map, take}
use Rattle.std.specs.Prelude.{◌≤ℤ◌}
use Rattle.dav_rows.specs.Changes.{lock_entry}
use Rattle.dav_store_rows.specs.SaveErrors.{AreUpTo}
use Rattle.dav_store_rows.proofs.LockSteps.{Adds}
use Rattle.dav_store_rows.proofs.locks.diff.add_rows.Given as goal

abbrev pub invariant-wanted : goal.invariant-wanted
invariant-wanted l = record {
  adds : Adds l.fn.rows.items l.rows.items (take l.lock-index l.wanted) l.number l.fn.changes.items l.changes.items;
  low : (top : ℕ) → AreUpTo top (map lock_entry l.fn.rows.items) → l.number ≤ℤ pos (top + l.lock-index);
}
