use Rattle.std.proofs.Common.{◌≡◌, length}
use Rattle.dav_store.specs.Locks.{elsewhere}
use Rattle.dav_memls.specs.IndexedLocks.{locks_in}
use Rattle.dav_memls.proofs.memory_locks.MemLsDavLockSystem.delete.Given as goal

abbrev pub invariant-loop-below : goal.invariant-loop-below
invariant-loop-below l = elsewhere (locks_in l.self.locks) l.path.key ≡ elsewhere (locks_in l.fn.self.locks) l.path.key

abbrev pub decreases-loop-below : goal.decreases-loop-below
decreases-loop-below l = length (locks_in l.self.locks)
