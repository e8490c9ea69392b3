use Rattle.std.proofs.Common.{◌≡◌, Bool}
use Rattle.std.specs.List.{list_any}
use Rattle.dav_store.specs.declared.lock.DavLock.{DavLock}
use Rattle.dav_memls.specs.LockIndex.{Computes, locks_of_numbers}
use Rattle.dav_memls.proofs.memory_locks.indexed.IndexedLocks.any_of.Given as goal

-- the numbers that are left answer what all do
abbrev pub invariant-loop-number : goal.invariant-loop-number
invariant-loop-number g l = record {
  can : (goal.iterator-loop-number g).can_next l.number-iterator;
  ends : (goal.iterator-loop-number g).is_finite l.number-iterator;
  left : (p : DavLock → Bool) → Computes (λ lock r. goal.F-post g l.test lock r) p → list_any p (locks_of_numbers l.numbers.set.keys l.self.locks.entries) ≡ list_any p (locks_of_numbers l.number-iterator l.self.locks.entries);
}
