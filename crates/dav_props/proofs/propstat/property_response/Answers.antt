use Rattle.std.proofs.lemmas.Iterator.Consumers.{YieldsList-from_rest, YieldsList-turn}
use Rattle.std.proofs.Common.{◌≡◌, ◌∙◌, ap}
use Rattle.dav_resource.specs.Tree.{with_children, one_element}
use Rattle.dav_props.specs.Propstat.{propstat, property_response}
use Rattle.dav_props.proofs.Grouping.{responded, seen_groups, status_among, ok_so, value_so}
use Rattle.dav_props.proofs.propstat.property_response.Goals as goal

pub unwrap-status-requires : goal.unwrap-status-requires
unwrap-status-requires c =
    let given = YieldsList-from_rest {shows = λ p. p} {s = c.into_iter-status-iterator.result} c.args.groups.entries c.into_iter-status-iterator.ensures.into_iter_gives.0 in
    let turn = YieldsList-turn given c.loop-status.yielded c.loop-status.status-iterator c.loop-status.yielded_by c.next.result c.next.new.self (c.in-Some.status, c.in-Some.elements) c.in-Some.is c.next.ensures.steps in
    ok_so _ _ _ c.from_u16.ensures (status_among c.args.groups.entries _ (c.in-Some.status, c.in-Some.elements) c.requires turn.0 turn.1)

pub loop-status-preserved : goal.loop-status-preserved
loop-status-preserved c =
    let status : c.unwrap-status.result ≡ c.in-Some.status = value_so _ _ _ _ c.from_u16.ensures c.unwrap-status.ensures in
    let sofar = property_response c.args.profile c.args.path.now (seen_groups c.loop-status.yielded) in
    c.in_ok-push_element-2.ensures.ok
    ∙ (λ i. with_children (c.loop-status.invariant i) (one_element (c.in_ok-propstat.ensures i)))
    ∙ ap (λ s. with_children sofar (one_element (propstat (s, c.in-Some.elements.items)))) status
    ∙ responded c.args.profile c.args.path.now c.loop-status.yielded (c.in-Some.status, c.in-Some.elements)
