use Rattle.dav_store_rows.specs.SaveErrors.{AreFlatLocks}
use Rattle.dav_store_rows.proofs.LockSaves.{AreFirst}
use Rattle.dav_store_rows.proofs.locks.values.rows_of_locks.Given as goal

abbrev pub invariant-locks : goal.invariant-locks
invariant-locks l = record {
  first : AreFirst l.rows.items l.lock-iterator l.fn.locks;
  flat : AreFlatLocks l.fn.locks → AreFlatLocks l.lock-iterator;
}
