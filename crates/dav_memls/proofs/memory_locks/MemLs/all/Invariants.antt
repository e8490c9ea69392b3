use Rattle.std.proofs.Common.{◌≡◌, ◌++◌}
use Rattle.dav_memls.specs.MemLs.{list_of}
use Rattle.dav_memls.proofs.memory_locks.MemLs.all.Given as goal

abbrev pub invariant-loop-lock : goal.invariant-loop-lock
invariant-loop-lock l = l.copies.items ++ l.lock-iterator ≡ list_of l.self
