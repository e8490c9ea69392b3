use Rattle.std.proofs.Common.{◌∙◌, ◌==◌, ap, arith, inl, inr, cond, Some, None, is_some, refl}
use denote.Param.Always.{mut_next}
use Rattle.std.proofs.lemmas.Bool.{cases_eq}
use Rattle.std.proofs.lemmas.List.Sums.{count_by-le-length}
use Rattle.slab.specs.Slab.{get}
use Rattle.dav_nodes.specs.Loading.{if_linked, linked_part}
use Rattle.dav_nodes.specs.declared.nodes.loading.TheConstants.{UNLINKED}
use Rattle.dav_nodes.proofs.Slots.{all_full}
use Rattle.dav_nodes.proofs.nodes.loading.unlinked.Goals as goal

pub slots-preserved : goal.slots-preserved
slots-preserved g c = record {
  callable = λ always. mut_next g.F.FnMut c.slots.filler tt c.filler.result c.filler.new.self c.filler.new.self c.filler.ensures refl (c.slots.invariant.callable always);
  room = omega (arith, c.slots.invariant.room, c.insert_reserved.ensures.capacity);
  none = λ n. elim (cases_eq n c.insert_reserved.result) [
    | inl same ↦
        ap (linked_part (get c.insert_reserved.new.self)) same ∙ ap if_linked c.insert_reserved.ensures.updates.changed
        ∙ ap (λ above. cond (above == UNLINKED) None (Some c.new-in-slots.result)) c.new-in-slots.ensures.above
    | inr apart ↦ ap if_linked (c.insert_reserved.ensures.updates.others n apart) ∙ c.slots.invariant.none n
  ];
}

pub returns-clause-slots : goal.returns-clause-slots
returns-clause-slots g c = λ n within.
    all_full c.slots.nodes.slots (omega (arith, c.capacity.ensures.slots, c.slots-test.false, c.len.ensures)) n
    (omega (arith, within, c.slots.invariant.room, c.capacity.ensures.value, c.slots-test.false, c.len.ensures, count_by-le-length is_some c.slots.nodes.slots))
