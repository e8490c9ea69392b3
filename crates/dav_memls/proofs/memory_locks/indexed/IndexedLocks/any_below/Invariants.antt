use Rattle.std.proofs.Common.{Bool}
use Rattle.dav_store.specs.declared.lock.DavLock.{DavLock}
use Rattle.dav_memls.specs.LockIndex.{Computes}
use Rattle.dav_memls.proofs.BelowLooks.{Tells}
use Rattle.dav_memls.proofs.memory_locks.indexed.IndexedLocks.any_below.Given as goal

abbrev pub invariant-loop-own : goal.invariant-loop-own
invariant-loop-own g l = record {
  can : (goal.iterator-loop-own g).can_next l.own-iterator;
  ends : (goal.iterator-loop-own g).is_finite l.own-iterator;
  left : (p : DavLock → Bool) → Computes (λ lock r. goal.F-post g l.test lock r) p → Tells l.fn.register p l.path.key l.self.locks.entries l.own-iterator;
}
