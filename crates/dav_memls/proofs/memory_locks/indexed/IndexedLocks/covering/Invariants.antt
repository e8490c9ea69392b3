use Rattle.std.proofs.Common.{◌≡◌, ◌++◌}
use Rattle.dav_store.specs.Locks.{covering}
use Rattle.dav_memls.specs.IndexedLocks.{locks_in}
use Rattle.dav_memls.specs.LockIndex.{locks_of_numbers}
use Rattle.dav_memls.proofs.memory_locks.indexed.IndexedLocks.covering.Given as goal

abbrev pub invariant-loop-number : goal.invariant-loop-number
invariant-loop-number l = record {
  can : (goal.iterator-loop-number).can_next l.number-iterator;
  ends : (goal.iterator-loop-number).is_finite l.number-iterator;
  so_far : l.copies.items ++ locks_of_numbers l.number-iterator l.self.locks.entries ≡ covering (locks_in l.self) l.path.key;
}
