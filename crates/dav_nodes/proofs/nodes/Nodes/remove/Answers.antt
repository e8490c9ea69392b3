use Rattle.std.proofs.Common.{◌∙◌, sym, ap}
use Rattle.std.specs.Option.{option_and_then}
use Rattle.std.specs.FinMap.{get}
use Rattle.slab.specs.Slab as slab
use Rattle.dav_key.specs.Key.{parent}
use Rattle.dav_nodes.specs.Tree.{IsRemoved}
use Rattle.dav_nodes.specs.Links.{value_at, place, member_at}
use Rattle.dav_nodes.proofs.Outcomes.{linked_now, of_held, member_number, no_orphan, no_number, removed, parent_apart, removed_keeps, removed_at}
use Rattle.dav_nodes.proofs.Spots.{spots_removed, not_zero}
use Rattle.dav_nodes.proofs.nodes.Nodes.remove.Goals as goal

pub unreachable-requires-in_default-find_above : goal.unreachable-requires-in_default-find_above
unreachable-requires-in_default-find_above g c =
    let old = slab.get c.self.inside.nodes in
    let linked = linked_now old c.args.self.now c.self.inside.tree c.self.view_is in
    no_orphan old old c.args.self.now linked c.args.key.now c.requires.root c.requires.there (linked.numbered (parent c.args.key.now) ∙ sym c.find_above.ensures ∙ c.in_default-find_above.is)

pub unreachable-requires-in_default-member : goal.unreachable-requires-in_default-member
unreachable-requires-in_default-member g c =
    let old = slab.get c.self.inside.nodes in
    let linked = linked_now old c.args.self.now c.self.inside.tree c.self.view_is in
    let at = linked.numbered (parent c.args.key.now) ∙ sym c.find_above.ensures ∙ c.in-Some-find_above.is in
    no_number (get c.args.self.now.numbers c.args.key.now) c.requires.there
    (member_number old c.args.self.now linked c.args.key.now c.in-Some.name.now c.in-Some-find_above.above c.in-Some.ensures.last at ∙ sym c.member.ensures ∙ c.in_default-member.is)

pub remove-value-requires : goal.remove-value-requires
remove-value-requires g c =
    let old = slab.get c.self.inside.nodes in
    let linked = linked_now old c.args.self.now c.self.inside.tree c.self.view_is in
    let at = linked.numbered (parent c.args.key.now) ∙ sym c.find_above.ensures ∙ c.in-Some-find_above.is in
    let there = member_number old c.args.self.now linked c.args.key.now c.in-Some.name.now c.in-Some-find_above.above c.in-Some.ensures.last at ∙ sym c.member.ensures ∙ c.in-Some-member.is in
    parent_apart old old c.args.self.now linked c.args.key.now c.in-Some.name.now c.in-Some-find_above.above c.in-Some-member.number c.in-Some.ensures.last at there

pub invariant_of-self-inside : goal.invariant_of-self-inside
invariant_of-self-inside g c =
    let old = slab.get c.self.inside.nodes in
    let linked = linked_now old c.args.self.now c.self.inside.tree c.self.view_is in
    let new = slab.get c.remove-value.new.nodes in
    let at = linked.numbered (parent c.args.key.now) ∙ sym c.find_above.ensures ∙ c.in-Some-find_above.is in
    let there = member_number old c.args.self.now linked c.args.key.now c.in-Some.name.now c.in-Some-find_above.above c.in-Some.ensures.last at ∙ sym c.member.ensures ∙ c.in-Some-member.is in
    let done =
    removed old new c.args.self.now linked c.args.key.now c.in-Some.name.now c.in-Some-find_above.above c.in-Some-member.number c.in-Some.ensures.last at there
    c.requires.childless c.remove-value.ensures.nodes in (
      (done.0, done.1),
      (
        c.note_at.ensures (place (member_at new))
            (c.forget.ensures (place (member_at old)) (place (member_at new)) c.self.inside.known
            (removed_keeps old new c.args.self.now done.0 linked done.1 c.args.key.now c.in-Some-member.number there done.2))
            (removed_at old new c.args.self.now done.0 linked done.1 c.args.key.now c.in-Some.name.now c.in-Some-member.number c.in-Some-find_above.above
            c.in-Some.ensures.last at there done.2),
        (
          spots_removed old new c.self.inside.spots c.in-Some-find_above.above c.in-Some.name.now c.in-Some-member.number
              (not_zero old c.args.self.now linked c.args.key.now c.in-Some-member.number c.requires.root there) (sym c.member.ensures ∙ c.in-Some-member.is) c.remove-value.ensures.nodes,
          tt,
        ),
      ),
    )

pub returns-clause-value : goal.returns-clause-value
returns-clause-value g c =
    let old = slab.get c.self.inside.nodes in
    let linked = linked_now old c.args.self.now c.self.inside.tree c.self.view_is in
    let at = linked.numbered (parent c.args.key.now) ∙ sym c.find_above.ensures ∙ c.in-Some-find_above.is in
    let there = member_number old c.args.self.now linked c.args.key.now c.in-Some.name.now c.in-Some-find_above.above c.in-Some.ensures.last at ∙ sym c.member.ensures ∙ c.in-Some-member.is in
    c.remove-value.ensures.value ∙ sym (linked.valued c.args.key.now ∙ ap (option_and_then (value_at old)) there)

pub returns-clause-removed : goal.returns-clause-removed
returns-clause-removed g c =
    let old = slab.get c.self.inside.nodes in
    let linked = linked_now old c.args.self.now c.self.inside.tree c.self.view_is in
    let new = slab.get c.remove-value.new.nodes in
    let at = linked.numbered (parent c.args.key.now) ∙ sym c.find_above.ensures ∙ c.in-Some-find_above.is in
    let there = member_number old c.args.self.now linked c.args.key.now c.in-Some.name.now c.in-Some-find_above.above c.in-Some.ensures.last at ∙ sym c.member.ensures ∙ c.in-Some-member.is in
    let done =
    removed old new c.args.self.now linked c.args.key.now c.in-Some.name.now c.in-Some-find_above.above c.in-Some-member.number c.in-Some.ensures.last at there
    c.requires.childless c.remove-value.ensures.nodes in
    of_held g.row.R.coded new done.0 (IsRemoved c.args.key.now c.args.self.now) done.1 done.2 c.self-1.given.0
