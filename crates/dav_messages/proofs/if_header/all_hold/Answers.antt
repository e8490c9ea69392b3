use Rattle.std.proofs.Common.{arith, option_copied}
use Rattle.dav_messages.specs.Conditions.{locks_in}
use Rattle.dav_messages.proofs.IfLists.{one_holds, one_fails, one_stops}
use Rattle.dav_messages.proofs.if_header.all_hold.Goals as goal

pub returns-in_err-condition_holds : goal.returns-in_err-condition_holds
returns-in_err-condition_holds g c =
    one_stops (locks_in g.L.DavLockSystem.seen (option_copied c.args.ls)) _ _ _ _ _ _ _ (omega arith) c.condition-item.is _ _ c.loop-condition.invariant c.from_residual.ensures.1 c.in_err-condition_holds.ensures

pub returns-then-not-branch : goal.returns-then-not-branch
returns-then-not-branch g c = one_fails (locks_in g.L.DavLockSystem.seen (option_copied c.args.ls)) _ _ _ _ _ _ _ (omega arith) c.condition-item.is c.loop-condition.invariant (rw c.if-not-branch.true at c.in_ok-condition_holds.ensures)

pub loop-condition-preserved : goal.loop-condition-preserved
loop-condition-preserved g c = one_holds (locks_in g.L.DavLockSystem.seen (option_copied c.args.ls)) _ _ _ _ _ _ _ (omega arith) c.condition-item.is c.loop-condition.invariant (rw c.if-not-branch.false at c.in_ok-condition_holds.ensures)
