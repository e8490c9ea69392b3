use Rattle.std.proofs.Common.{◌≡◌, ◌∙◌, sym, ap, arith}
use Rattle.std.proofs.lemmas.Iterator.Adapters.{YieldsList-from_vec}
use Rattle.std.proofs.lemmas.Iterator.Consumers.{YieldsList-end}
use Rattle.dav_props.specs.Propstat.{grouped}
use Rattle.dav_props.proofs.Grouping.{grouping-none, grouping-more, grouping-is, map-same}
use Rattle.dav_props.proofs.propstat.group_by_status.Goals as goal

pub loop-status-init : goal.loop-status-init
loop-status-init c = record {
  grouping = grouping-none c.new-groups.result c.new-groups.ensures.empty;
  statuses = rw c.new-groups.ensures.empty (λ k d inside. omega (arith, inside));
}

pub loop-status-preserved : goal.loop-status-preserved
loop-status-preserved c =
    let same : c.as_u16.result ≡ c.in-Some.status = cc in
    record {
      grouping = grouping-more _ _ _ (c.in-Some.status, c.in-Some.element) c.loop-status.invariant.grouping (rw same at c.in_ok-groups.ensures.added);
      statuses = c.in_ok-groups.ensures.statuses c.loop-status.invariant.statuses c.as_u16.ensures.valid;
    }

pub returns-clause-groups : goal.returns-clause-groups
returns-clause-groups c =
    let given = YieldsList-from_vec {s = c.into_iter-status-iterator.result} c.args.reported.items c.into_iter-status-iterator.ensures.into_iter_gives.0 (c.into_iter-status-iterator.ensures.into_iter_gives.1 ∙ c.args.reported.ok.0) in
    let all = YieldsList-end given c.loop-status.yielded c.loop-status.status-iterator c.loop-status.yielded_by _ c.next.new.self c.in-None.is c.next.ensures.steps in
    grouping-is _ _ c.loop-status.invariant.grouping ∙ ap grouped (sym (map-same c.loop-status.yielded) ∙ all.0)
