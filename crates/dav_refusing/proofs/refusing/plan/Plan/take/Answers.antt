use Rattle.std.proofs.Common.{◌∙◌, ap}
use Rattle.dav_refusing.specs.Slots.{plan_in}
use Rattle.dav_refusing.specs.declared.refusing.plan.Plan.{Plan}
use Rattle.dav_refusing.proofs.Queues.{no_empty-removed, no_empty-written, none-planned, plan-removed, plan-taken, tested-not_empty}
use Rattle.dav_refusing.proofs.refusing.plan.Plan.take.Goals.{then-is_empty+in-Some-1, then-is_empty+in-None-1, else-is_empty}
use Rattle.dav_refusing.proofs.refusing.plan.Plan.take.Goals as goal

pub invariant_of-self-then-is_empty : goal.invariant_of-self-then-is_empty
invariant_of-self-then-is_empty c =
    let w = c.pop_front-first.new.self in
    record { tidy = no_empty-removed c.args.slot.now c.args.self.now.queues c.in_ok-queue.queue.now w (c.get_mut.follows.lender w) c.in_ok-queue.ensures.value (c.get_mut.follows.holds w) c.remove.new.self c.args.self.now.tidy c.remove.ensures.updates }

pub invariant_of-self-else-is_empty : goal.invariant_of-self-else-is_empty
invariant_of-self-else-is_empty c =
    let w = c.pop_front-first.new.self in
    record { tidy = no_empty-written c.args.slot.now c.args.self.now.queues c.in_ok-queue.queue.now w (c.get_mut.follows.lender w) c.in_ok-queue.ensures.value (c.get_mut.follows.holds w) c.args.self.now.tidy (tested-not_empty w c.is_empty.result c.is_empty.ensures c.if-is_empty.false) }

pub returns-in_err-queue-clause-left : goal.returns-in_err-queue-clause-left
returns-in_err-queue-clause-left c = none-planned c.args.slot.now c.args.self.now.queues c.get_mut.follows.lender-at-none c.in_err-queue.ensures.value c.get_mut.follows.holds-at-none

pub returns-in_err-first-clause-left : goal.returns-in_err-first-clause-left
returns-in_err-first-clause-left c =
    elim c.if-is_empty.branch [
      | then-is_empty+in-Some-1 w ↦ ap (λ (p : Plan). plan_in p.queues) w.self-is
          ∙ plan-removed c.args.slot.now c.args.self.now.queues c.in_ok-queue.queue.now c.pop_front-first.new.self (c.get_mut.follows.lender c.pop_front-first.new.self) c.in_ok-queue.ensures.value (c.get_mut.follows.holds c.pop_front-first.new.self) w.remove.new.self c.pop_front-first.ensures.rest c.is_empty.result c.is_empty.ensures w.if-is_empty.true w.remove.ensures.updates
      | then-is_empty+in-None-1 w ↦ ap (λ (p : Plan). plan_in p.queues) w.self-is
          ∙ plan-removed c.args.slot.now c.args.self.now.queues c.in_ok-queue.queue.now c.pop_front-first.new.self (c.get_mut.follows.lender c.pop_front-first.new.self) c.in_ok-queue.ensures.value (c.get_mut.follows.holds c.pop_front-first.new.self) w.remove.new.self c.pop_front-first.ensures.rest c.is_empty.result c.is_empty.ensures w.if-is_empty.true w.remove.ensures.updates
      | else-is_empty w ↦ ap (λ (p : Plan). plan_in p.queues) w.self-is
          ∙ plan-taken c.args.slot.now c.args.self.now.queues c.in_ok-queue.queue.now c.pop_front-first.new.self (c.get_mut.follows.lender c.pop_front-first.new.self) c.in_ok-queue.ensures.value (c.get_mut.follows.holds c.pop_front-first.new.self) c.pop_front-first.ensures.rest
    ]

pub returns-clause-left : goal.returns-clause-left
returns-clause-left c =
    elim c.if-is_empty.branch [
      | then-is_empty+in-Some-1 w ↦ ap (λ (p : Plan). plan_in p.queues) w.self-is
          ∙ plan-removed c.args.slot.now c.args.self.now.queues c.in_ok-queue.queue.now c.pop_front-first.new.self (c.get_mut.follows.lender c.pop_front-first.new.self) c.in_ok-queue.ensures.value (c.get_mut.follows.holds c.pop_front-first.new.self) w.remove.new.self c.pop_front-first.ensures.rest c.is_empty.result c.is_empty.ensures w.if-is_empty.true w.remove.ensures.updates
      | then-is_empty+in-None-1 w ↦ ap (λ (p : Plan). plan_in p.queues) w.self-is
          ∙ plan-removed c.args.slot.now c.args.self.now.queues c.in_ok-queue.queue.now c.pop_front-first.new.self (c.get_mut.follows.lender c.pop_front-first.new.self) c.in_ok-queue.ensures.value (c.get_mut.follows.holds c.pop_front-first.new.self) w.remove.new.self c.pop_front-first.ensures.rest c.is_empty.result c.is_empty.ensures w.if-is_empty.true w.remove.ensures.updates
      | else-is_empty w ↦ ap (λ (p : Plan). plan_in p.queues) w.self-is
          ∙ plan-taken c.args.slot.now c.args.self.now.queues c.in_ok-queue.queue.now c.pop_front-first.new.self (c.get_mut.follows.lender c.pop_front-first.new.self) c.in_ok-queue.ensures.value (c.get_mut.follows.holds c.pop_front-first.new.self) c.pop_front-first.ensures.rest
    ]
