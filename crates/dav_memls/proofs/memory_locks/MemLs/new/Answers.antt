use Rattle.std.proofs.Common.{refl}
use Rattle.dav_memls.proofs.LockLists.{distinct-none}
use Rattle.dav_memls.proofs.memory_locks.MemLs.new.Goals as goal

pub invariant_of-result : goal.invariant_of-result
invariant_of-result c = record { distinct_tokens = rw c.new.ensures distinct-none; compatible = rw c.new.ensures refl }
