use Rattle.std.proofs.Common.{rules, w64}
use Rattle.std.proofs.lemmas.Int.{to_z-of_z}
use mir.Val.{SFits}
use Rattle.dav_rows.specs.Changes.{property_entry}
use Rattle.dav_store_rows.specs.Counted.{IsPropertyCounted, IsPartIn}
use Rattle.dav_store_rows.proofs.Decoding.{stops-err}
use Rattle.dav_store_rows.proofs.Counting.{all_none, all_next, all_done, all_at, grows_none, grows_then, grown_part, grown_property}
use Rattle.dav_store_rows.proofs.loading.counts.count_properties.Goals as goal

pub rows-init : goal.rows-init
rows-init c = record {
  grows = grows_none c.args.saved.now;
  counted = all_none property_entry c.args.rows.now 0 (IsPropertyCounted c.args.saved.now);
}

pub rows-preserved : goal.rows-preserved
rows-preserved c =
    let fits : SFits w64 c.row-item.result.number = search rules in
    let more = c.in_ok-count_property.ensures in
    let counted = simp to_z-of_z at more.counted in
    record {
      grows = grows_then c.args.saved.now c.rows.saved c.count_property.new.saved c.rows.invariant.grows more.grows;
      counted =
          all_next property_entry (IsPropertyCounted c.rows.saved) (IsPropertyCounted c.count_property.new.saved) c.args.rows.now c.rows.row-index c.row-item.result c.rows.invariant.counted
          (grown_property c.rows.saved c.count_property.new.saved more.grows) c.rows-test.true c.row-item.is counted;
    }

pub returns-clause-counted : goal.returns-clause-counted
returns-clause-counted c = all_done property_entry c.args.rows.now c.rows.row-index (IsPropertyCounted c.rows.saved) c.rows.invariant.counted c.rows-test.false

pub returns-in_err-count_property-clause-err : goal.returns-in_err-count_property-clause-err
returns-in_err-count_property-clause-err c = λ all.
    let fits : SFits w64 c.row-item.result.number = search rules in
    let err = simp to_z-of_z at c.in_err-count_property.ensures.err in
    let part = all_at property_entry (IsPartIn c.args.saved.now) c.args.rows.now c.rows.row-index c.row-item.result all c.rows-test.true c.row-item.is in
    stops-err c.from_residual.result c.in_err-count_property.field-0.0 c.from_residual.ensures.1
    (err (grown_part c.args.saved.now c.rows.saved c.rows.invariant.grows c.row-item.result.number part))
