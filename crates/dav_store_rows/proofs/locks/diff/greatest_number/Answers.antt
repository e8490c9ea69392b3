use Rattle.std.proofs.Common.{pos, rules, w64, arith}
use Rattle.std.specs.Prelude.{◌≤ℤ◌}
use Rattle.std.proofs.lemmas.Int.{to_z-of_z, ints}
use mir.Val.{SFits, to_z}
use Rattle.dav_store_rows.proofs.LockSteps.{greatest_next, up_to_at}
use Rattle.dav_store_rows.proofs.locks.diff.greatest_number.Goals as goal

pub rows-preserved : goal.rows-preserved
rows-preserved c =
    let fits : SFits w64 c.greater-greatest.result = search rules in
    let own : SFits w64 c.row-item.result.number = search rules in
    let number = c.greater-greatest.ensures.number in
    let other = c.greater-greatest.ensures.other in
    let up : to_z w64 c.rows.greatest-bits ≤ℤ c.greater-greatest.result = omega (arith, ints) in
    let last : c.row-item.result.number ≤ℤ c.greater-greatest.result = omega (arith, ints) in
    simp to_z-of_z
    (record {
      greatest =
          greatest_next c.args.rows.now c.rows.row-index c.row-item.result (to_z w64 c.rows.greatest-bits) c.greater-greatest.result c.rows.invariant.greatest c.rows-test.true
          c.row-item.is up last;
      least = λ top all.
          let was = c.rows.invariant.least top all in
          let here = up_to_at c.args.rows.now c.rows.row-index c.row-item.result top all c.rows-test.true c.row-item.is in
          let least = simp to_z-of_z at c.greater-greatest.ensures.least in
          least (pos top) was here;
    })
