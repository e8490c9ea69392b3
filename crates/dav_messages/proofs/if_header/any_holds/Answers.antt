use Rattle.std.proofs.Common.{option_copied, arith}
use Rattle.dav_messages.specs.Conditions.{locks_in}
use Rattle.dav_messages.proofs.IfLists.{key_lent, key_given, list_fails, list_serves, list_stops}
use Rattle.dav_messages.proofs.if_header.any_holds.Goals as goal

pub returns-in_err-conditions_hold : goal.returns-in_err-conditions_hold
returns-in_err-conditions_hold g c =
    let lent = key_lent (λ p. p.key) c.as_ref.result _ c.as_ref.ensures.value in
    list_stops (locks_in g.L.DavLockSystem.seen (option_copied c.args.ls)) c.args.path.now _ _ _ _ _ _ _ _ (omega arith) c.list-item.is (key_given (λ p. p.key) _ _ c.in_ok-about.ensures) _ _ c.loop-list.invariant
    c.from_residual-in_err-conditions_hold.ensures.1 (rw (c.as_slice-conditions.ensures, lent) at c.in_err-conditions_hold.ensures)

pub returns-then-branch : goal.returns-then-branch
returns-then-branch g c =
    let lent = key_lent (λ p. p.key) c.as_ref.result _ c.as_ref.ensures.value in
    list_serves (locks_in g.L.DavLockSystem.seen (option_copied c.args.ls)) c.args.path.now _ _ _ _ _ _ _ _ (omega arith) c.list-item.is (key_given (λ p. p.key) _ _ c.in_ok-about.ensures) c.loop-list.invariant
    (rw (c.as_slice-conditions.ensures, lent, c.if-branch.true) at c.in_ok-conditions_hold.ensures)

pub loop-list-preserved : goal.loop-list-preserved
loop-list-preserved g c =
    let lent = key_lent (λ p. p.key) c.as_ref.result _ c.as_ref.ensures.value in
    list_fails (locks_in g.L.DavLockSystem.seen (option_copied c.args.ls)) c.args.path.now _ _ _ _ _ _ _ _ (omega arith) c.list-item.is (key_given (λ p. p.key) _ _ c.in_ok-about.ensures) c.loop-list.invariant
    (rw (c.as_slice-conditions.ensures, lent, c.if-branch.false) at c.in_ok-conditions_hold.ensures)
