use Rattle.std.proofs.Common.{◌∙◌}
use Rattle.dav_store.specs.Locks.{covering}
use Rattle.dav_memls.specs.IndexedLocks.{locks_in}
use Rattle.dav_memls.proofs.CoveringLocks.{conflicts_with, conflicts_none}
use Rattle.dav_memls.proofs.memory_locks.list.conflicts_above.Goals as goal

pub returns-in-Some : goal.returns-in-Some
returns-in-Some c = c.conflicts.ensures ∙ conflicts_with c.args.lock.now c.args.lock.now.path.key (locks_in c.args.locks.now) c.in-Some.other.now c.requires c.in-Some.ensures

pub returns-in-None : goal.returns-in-None
returns-in-None c = conflicts_none c.args.lock.now (covering (locks_in c.args.locks.now) c.args.lock.now.path.key) c.in-None.ensures
