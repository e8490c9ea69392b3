use Rattle.std.proofs.Common.{◌≡◌, length}
use Rattle.dav_memls.specs.Expiry.{unexpired}
use Rattle.dav_memls.specs.IndexedLocks.{locks_in}
use Rattle.dav_memls.proofs.memory_locks.indexed.IndexedLocks.expire.Given as goal

abbrev pub invariant-loop-number : goal.invariant-loop-number
invariant-loop-number l = unexpired l.now (locks_in l.self) ≡ unexpired l.now (locks_in l.fn.self)

abbrev pub decreases-loop-number : goal.decreases-loop-number
decreases-loop-number l = length (locks_in l.self)
