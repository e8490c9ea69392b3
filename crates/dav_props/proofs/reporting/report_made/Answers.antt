use Rattle.std.proofs.Common.{◌≡◌, ◌∙◌, ◌++◌, ap, subst, map, IfOk}
use Rattle.std.specs.List.{zip}
use Rattle.std.proofs.lemmas.Iterator.{YieldsList-from_slice, YieldsList-from_zip}
use Rattle.std.proofs.lemmas.Iterator.Adapters.{YieldsList-from_vec}
use Rattle.std.proofs.lemmas.Iterator.Consumers.{YieldsList-end, YieldsList-at}
use Rattle.dav_props.specs.Groups.{groups_of}
use Rattle.dav_props.specs.Propstat.{grouped}
use Rattle.dav_props.specs.Update.{change_of, live_made, made_report}
use Rattle.dav_props.proofs.reporting.report_made.Goals as goal

pub returns-clause-groups : goal.returns-clause-groups
returns-clause-groups c =
    let elements = c.in_ok-dead_elements.field-0 in
    let answered = c.zip-status-items.ensures in
    let given = YieldsList-at c.into_iter-status-iterator.ensures.into_iter_gives
    (YieldsList-from_zip (YieldsList-at answered.first (YieldsList-from_slice c.args.statuses.now cc)) (YieldsList-from_vec {s = c.zip-status-items.result.b} elements.items answered.second.0 (answered.second.1 ∙ elements.ok.0))) in
    let all = YieldsList-end given c.loop-status.yielded c.loop-status.status-iterator c.loop-status.yielded_by _ c.next.new.self c.in-None.is c.next.ensures.steps in
    let reported : c.loop-status.reported.items ≡ made_report (map change_of c.args.changes.now) c.args.statuses.now =
    c.loop-status.invariant ∙ ap (λ ts. live_made (map change_of c.args.changes.now) ++ ts) (all.0 ∙ ap (zip c.args.statuses.now) c.in_ok-dead_elements.ensures) in
    subst (λ ts. IfOk c.group_by_status.result (λ groups. groups_of groups ≡ grouped ts)) reported c.group_by_status.ensures.groups
