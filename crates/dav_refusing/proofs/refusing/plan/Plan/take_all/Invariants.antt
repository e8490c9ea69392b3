use Rattle.std.proofs.Common.{◌≡◌, map, drop}
use Rattle.dav_refusing.specs.Plans.{without_firsts}
use Rattle.dav_refusing.specs.Slots.{plan_in, slot_call}
use Rattle.dav_refusing.proofs.refusing.plan.Plan.take_all.Given as goal

-- what is left to be taken out leads to the same plan
abbrev pub invariant-loop-slot : goal.invariant-loop-slot
invariant-loop-slot l = without_firsts (map slot_call (drop l.slot-index l.slots)) (plan_in l.self.queues) ≡ without_firsts (map slot_call l.slots) (plan_in l.initial.self.queues)
