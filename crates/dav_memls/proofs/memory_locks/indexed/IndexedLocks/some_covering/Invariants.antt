use Rattle.std.proofs.Common.{◌≡◌, false}
use Rattle.std.specs.List.{list_any}
use Rattle.dav_memls.specs.IndexedLocks.{locks_in}
use Rattle.dav_memls.proofs.CoveringNumbers.{reached_covers}
use Rattle.dav_memls.proofs.memory_locks.indexed.IndexedLocks.some_covering.Given as goal

-- none so far covers the path
abbrev pub invariant-loop-end : goal.invariant-loop-end
invariant-loop-end l = list_any (reached_covers l.end l.path.key) (locks_in l.self) ≡ false
