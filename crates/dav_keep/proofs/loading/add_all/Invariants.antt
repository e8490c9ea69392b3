use Rattle.std.proofs.Common.{◌≡◌, ◌++◌}
use Rattle.dav_memls.specs.MemLs.{list_of}
use Rattle.dav_keep.proofs.loading.add_all.Given as goal

-- the locks so far are in the system, and the others follow
abbrev pub invariant-locks : goal.invariant-locks
invariant-locks l = list_of l.system ++ l.lock-iterator.rest.items ≡ l.fn.locks.items
