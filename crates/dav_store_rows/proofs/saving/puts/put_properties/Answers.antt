use Rattle.std.proofs.Common.{ap, sym, ◌∙◌, Some, arith}
use Rattle.std.specs.FinMap.{entries}
use Rattle.dav_store_rows.proofs.Putting.{element_at, property_next}
use Rattle.dav_store_rows.proofs.saving.puts.put_properties.Goals as goal
use Rattle.dav_store_rows.proofs.saving.puts.put_properties.Goals.{in-Some+in_ok-put_property, in_default}

pub properties-preserved : goal.properties-preserved
properties-preserved c = record {
  puts = λ all same.
      let there = element_at c.args.props.now (entries all) c.properties.prop-index c.prop-item.result same c.properties-test.true c.prop-item.is in
      elim c.match-prop.branch [
        | in-Some+in_ok-put_property w ↦
            rw (w.count-is, w.changes-is)
            (property_next c.args.number all c.args.props.now c.properties.prop-index c.properties.count c.prop-item.result w.as_element.result.now
            c.args.changes.now.items c.properties.changes.items w.put_property.new.changes.items same c.properties-test.true c.prop-item.is
            (w.in-Some.is ∙ ap Some (sym w.as_element.ensures)) (c.properties.invariant.puts all same) w.in_ok-put_property.ensures.valid w.in_ok-put_property.ensures.few w.in_ok-put_property.ensures.ok)
        | in_default w ↦ absurd (w.in_default.not-Some there.0.1 there.2)
      ];
  few =
      let was = c.properties.invariant.few in
      elim c.match-prop.branch [
        | in-Some+in_ok-put_property w ↦ (let is = w.count-is in omega arith)
        | in_default w ↦ (let is = w.count-is in omega arith)
      ];
}
