use Rattle.std.proofs.Common.{◌∙◌, sym, ap, subst, rules}
use Rattle.dav_refusing.specs.Plans.{with_last}
use Rattle.dav_refusing.specs.Slots.{HasNoEmptyQueue, plan_in}
use Rattle.dav_refusing.proofs.Queues.{no_empty-begun, no_empty-pushed, one_more-not_empty, plan-begun, plan-kept, plan-pushed}
use Rattle.dav_refusing.proofs.refusing.plan.Plan.add.Goals as goal

pub invariant_of-self : goal.invariant_of-self
invariant_of-self c =
    let w = c.push_back.new.self in
    record { tidy = no_empty-pushed c.of_refusal-slot.result c.args.self.now.queues c.in-Some.queue.now w (c.get_mut.follows.lender w) c.in-Some.ensures.value (c.get_mut.follows.holds w) _ _ c.args.self.now.tidy c.push_back.ensures.items }

pub invariant_of-self-2 : goal.invariant_of-self-2
invariant_of-self-2 c =
    let w = c.push_back-2.new.self in
    record { tidy = no_empty-begun c.of_refusal-slot.result c.get_mut.follows.lender-at-none c.insert.result w c.insert.new.self (subst HasNoEmptyQueue (sym c.get_mut.follows.holds-at-none) c.args.self.now.tidy) (one_more-not_empty _ w.items _ c.in_ok-push_back-2.ensures.items) c.insert.ensures.updates c.insert.ensures.err }

pub returns-in_err-push_back-clause-err : goal.returns-in_err-push_back-clause-err
returns-in_err-push_back-clause-err c =
    let same = plan-kept c.of_refusal-slot.result c.args.self.now.queues c.in-Some.queue.now c.push_back.new.self (c.get_mut.follows.lender c.push_back.new.self) c.in-Some.ensures.value (c.get_mut.follows.holds c.push_back.new.self) c.in_err-push_back.ensures.items in
    search rules

pub returns-in-Some-clause-ok : goal.returns-in-Some-clause-ok
returns-in-Some-clause-ok c =
    plan-pushed c.of_refusal-slot.result c.args.self.now.queues c.in-Some.queue.now c.push_back.new.self (c.get_mut.follows.lender c.push_back.new.self) c.in-Some.ensures.value (c.get_mut.follows.holds c.push_back.new.self) _ c.in_ok-push_back.ensures.items
    ∙ ap (λ call. with_last call.0 call.1 c.args.error (plan_in c.args.self.now.queues)) c.of_refusal-slot.ensures

pub returns-clause-ok : goal.returns-clause-ok
returns-clause-ok c =
    plan-begun c.of_refusal-slot.result c.args.self.now.queues c.new-queue.result c.push_back-2.new.self _ c.get_mut.follows.lender-at-none c.insert.new.self c.in_default.ensures.value c.get_mut.follows.holds-at-none c.in_ok-insert.ensures.updates
    c.new-queue.ensures.items c.in_ok-push_back-2.ensures.items
    ∙ ap (λ call. with_last call.0 call.1 c.args.error (plan_in c.args.self.now.queues)) c.of_refusal-slot.ensures
