use Rattle.dav_memls.specs.LockIndex.{HasNumbers, numbers_of}
use Rattle.dav_memls.proofs.CoveringNumbers.{reached_covers}
use Rattle.dav_memls.proofs.memory_locks.indexed.IndexedLocks.covering_numbers.Given as goal

abbrev pub invariant-loop-end : goal.invariant-loop-end
invariant-loop-end l = HasNumbers l.found (numbers_of (reached_covers l.end l.path.key) l.self.locks.entries)
