use Rattle.std.proofs.Common.{◌∙◌, ap, sym}
use Rattle.std.specs.Option.{option_map}
use Rattle.dav_refusing.specs.Plans.{first_key, refusal_for, without_first}
use Rattle.dav_refusing.specs.Slots.{plan_in}
use Rattle.dav_refusing.specs.Pending.{numbered_of, one_later, passed_by, pending_of, plan_after}
use Rattle.dav_refusing.specs.declared.refusing.pending.Pending.{Pending}
use Rattle.dav_refusing.proofs.Planning.{without-none}
use Rattle.dav_refusing.proofs.refusing.pending.Pending.take.Goals.{in-Some, in-None+in_ok-slot-in-None+in-Some-take+in-Some-1, in-None+in_ok-slot-in-None+in-Some-take+in-None-1}
use Rattle.dav_refusing.proofs.refusing.pending.Pending.take.Goals as goal

pub returns-in_default-clause-kept : goal.returns-in_default-clause-kept
returns-in_default-clause-kept c none =
    let plan = plan_in c.args.self.now.plan.queues in
    let free = c.in_default.ensures.error ∙ ap (λ call. refusal_for call.0 call.1 plan) c.in_ok-slot-in-None.ensures in
    let left = c.take.ensures.left ∙ ap (λ call. without_first call.0 call.1 plan) c.in_ok-slot-in-None.ensures ∙ without-none c.args.op (first_key c.args.paths.now) plan (sym free) in
    λ i. record { numbered = option_map numbered_of c.args.self.now.numbered; plan = left i }

pub returns-clause-left : goal.returns-clause-left
returns-clause-left c =
    let plan = plan_in c.args.self.now.plan.queues in
    let numbered = option_map numbered_of c.args.self.now.numbered in
    let key = first_key c.args.paths.now in
    c.count.ensures
    ∙ elim c.match-due_by_number.branch [
      | in-Some w ↦ ap (λ (p : Pending). passed_by (pending_of p)) w.self-is
          ∙ (λ i. record { numbered = one_later numbered; plan = plan_after (w.in-Some.ensures.error i) c.args.op key plan })
      | in-None+in_ok-slot-in-None+in-Some-take+in-Some-1 w ↦ ap (λ (p : Pending). passed_by (pending_of p)) w.self-is
          ∙ (λ i. record { numbered = one_later numbered; plan = (w.take.ensures.left ∙ ap (λ call. without_first call.0 call.1 plan) w.in_ok-slot-in-None.ensures) i })
          ∙ (λ i. record { numbered = one_later numbered; plan = plan_after (w.in-None.ensures.error i) c.args.op key plan })
      | in-None+in_ok-slot-in-None+in-Some-take+in-None-1 w ↦ ap (λ (p : Pending). passed_by (pending_of p)) w.self-is
          ∙ (λ i. record { numbered = one_later numbered; plan = (w.take.ensures.left ∙ ap (λ call. without_first call.0 call.1 plan) w.in_ok-slot-in-None.ensures) i })
          ∙ (λ i. record { numbered = one_later numbered; plan = plan_after (w.in-None.ensures.error i) c.args.op key plan })
    ]
