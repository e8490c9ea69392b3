use Rattle.std.proofs.Common.{◌∙◌, ◌∷◌, ◌<◌, ◌+◌, ap, sym, map, drop, length, arith, drop-cons, add-one}
use Rattle.dav_refusing.specs.Plans.{without_firsts}
use Rattle.dav_refusing.specs.Slots.{plan_in, slot_call}
use Rattle.dav_refusing.proofs.refusing.plan.Plan.take_all.Goals as goal

pub loop-slot-preserved : goal.loop-slot-preserved
loop-slot-preserved c =
    let inside : c.loop-slot.slot-index < length c.args.slots.now = omega arith in
    let ahead = drop-cons c.args.slots.now c.loop-slot.slot-index c.slot-item.result inside ∙ (λ j. sym c.slot-item.is j ∷ drop (sym (add-one c.loop-slot.slot-index) j) c.args.slots.now) in
    ap (λ plan. without_firsts (map slot_call (drop (c.loop-slot.slot-index + 1) c.args.slots.now)) plan) c.take.ensures.left
    ∙ sym (ap (λ slots. without_firsts (map slot_call slots) (plan_in c.loop-slot.self.queues)) ahead)
    ∙ c.loop-slot.invariant
