use Rattle.std.proofs.Common.{[], ap}
use Rattle.dav_resource.specs.Tree.{with_children}
use Rattle.dav_messages.specs.LockTree.{lock_discovery, active_lock}
use Rattle.dav_messages.proofs.Elements.{elements-next}
use Rattle.dav_messages.proofs.lock_tree.lock_discovery.Goals as goal

pub loop-lock-preserved : goal.loop-lock-preserved
loop-lock-preserved c =
    let locks = c.args.locks.now in
    let more = elements-next (active_lock c.args.profile) locks c.loop-lock.lock-index c.lock-item.result c.loop-lock-test.true c.lock-item.is in
    rw (c.in_ok-push_element.ensures.ok, c.in_ok-active_lock.ensures, c.loop-lock.invariant) (ap (with_children (lock_discovery c.args.profile [])) more)
