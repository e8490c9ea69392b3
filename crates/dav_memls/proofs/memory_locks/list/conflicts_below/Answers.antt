use Rattle.std.proofs.Common.{◌∙◌, ap, rules}
use Rattle.std.specs.List.{list_any}
use Rattle.dav_store.specs.Locks.{at_or_below, conflicts}
use Rattle.dav_memls.specs.IndexedLocks.{locks_in}
use Rattle.dav_memls.specs.LockIndex.{among}
use Rattle.dav_memls.proofs.CoveringLocks.{shared_conflicts_below}
use Rattle.dav_memls.proofs.memory_locks.list.conflicts_below.Goals.{then-lock, else-lock}
use Rattle.dav_memls.proofs.memory_locks.list.conflicts_below.Goals as goal

pub returns : goal.returns
returns c =
    let lock = c.args.lock.now in
    let below = at_or_below (locks_in c.args.locks.now) lock.path.key in
    c.any_below.ensures (conflicts lock) (λ other answer h. search rules)
    ∙ (elim c.if-lock.branch [
      | then-lock w ↦ ap (λ register. list_any (among register (conflicts lock)) below) w.register-is ∙ shared_conflicts_below lock below w.if-lock.true
      | else-lock w ↦ ap (λ register. list_any (among register (conflicts lock)) below) w.register-is
    ])
