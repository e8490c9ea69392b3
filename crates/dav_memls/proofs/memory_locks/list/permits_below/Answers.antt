use Rattle.std.proofs.Common.{◌∙◌, not, ap, rules}
use Rattle.dav_store.specs.Locks.{at_or_below}
use Rattle.dav_memls.specs.IndexedLocks.{locks_in}
use Rattle.dav_memls.specs.Submitted.{passes}
use Rattle.dav_memls.proofs.LockFound.{all_from_any}
use Rattle.dav_memls.proofs.memory_locks.list.permits_below.Goals as goal

pub returns : goal.returns
returns c =
    ap not (c.any_below.ensures (λ lock. not (passes c.args.submitted.now lock)) (λ lock answer h. search rules))
    ∙ all_from_any (passes c.args.submitted.now) (at_or_below (locks_in c.args.locks.now) c.args.path.now.key)
