use Rattle.std.proofs.Common.{rules, w64}
use Rattle.std.proofs.lemmas.Int.{to_z-of_z}
use mir.Val.{SFits}
use Rattle.dav_rows.specs.Changes.{resource_entry}
use Rattle.dav_store_rows.specs.Counted.{HasCounts, IsNumber}
use Rattle.dav_store_rows.proofs.Decoding.{stops-err}
use Rattle.dav_store_rows.proofs.Counting.{all_none, all_next, all_done, all_at, grown_counts}
use Rattle.dav_store_rows.proofs.loading.counts.count_resources.Goals as goal

pub rows-init : goal.rows-init
rows-init c = all_none resource_entry c.args.rows.now 0 (HasCounts c.args.saved.now)

pub rows-preserved : goal.rows-preserved
rows-preserved c =
    let fits : SFits w64 c.row-item.result.number = search rules in
    let counted = simp to_z-of_z at c.in_ok-count_resource.ensures.counted in
    all_next resource_entry (HasCounts c.rows.saved) (HasCounts c.count_resource.new.saved) c.args.rows.now c.rows.row-index c.row-item.result c.rows.invariant
    (grown_counts c.rows.saved c.count_resource.new.saved c.in_ok-count_resource.ensures.grows) c.rows-test.true c.row-item.is counted

pub returns-clause-counted : goal.returns-clause-counted
returns-clause-counted c = all_done resource_entry c.args.rows.now c.rows.row-index (HasCounts c.rows.saved) c.rows.invariant c.rows-test.false

pub returns-in_err-count_resource-clause-err : goal.returns-in_err-count_resource-clause-err
returns-in_err-count_resource-clause-err c = λ all.
    let fits : SFits w64 c.row-item.result.number = search rules in
    let err = simp to_z-of_z at c.in_err-count_resource.ensures.err in
    stops-err c.from_residual.result c.in_err-count_resource.field-0.0 c.from_residual.ensures.1
    (err (all_at resource_entry IsNumber c.args.rows.now c.rows.row-index c.row-item.result all c.rows-test.true c.row-item.is))
