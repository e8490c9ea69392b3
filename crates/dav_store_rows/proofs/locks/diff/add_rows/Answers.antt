use Rattle.std.proofs.Common.{◌++◌, ◌^◌, pos, length, map, ap, ◌∙◌, rules, w64, arith}
use Rattle.std.specs.Prelude.{◌<ℤ◌, ◌+ℤ◌}
use Rattle.dav_rows.specs.Changes.{lock_entry}
use Rattle.dav_store_rows.specs.SaveErrors.{HaveRoom}
use Rattle.dav_store_rows.proofs.Failing.{fails_on}
use Rattle.std.proofs.lemmas.Int.{to_z-of_z, ints}
use mir.Val.{SFits, to_z}
use Rattle.std.proofs.lemmas.List.{take_all}
use Rattle.dav_store_rows.specs.LockRows.{row_values}
use Rattle.dav_store_rows.proofs.LockSteps.{adds_none, adds_next}
use Rattle.dav_store_rows.proofs.locks.diff.add_rows.Goals as goal

pub wanted-init : goal.wanted-init
wanted-init c =
    let fits : SFits w64 c.greatest_number-number.result = search rules in
    let slice = c.deref.ensures.value in
    let low = c.greatest_number-number.ensures.greatest in
    let least = rw slice at c.greatest_number-number.ensures.least in
    simp to_z-of_z
    (record {
      adds = adds_none c.args.rows.now.items c.greatest_number-number.result c.args.changes.now.items (rw slice at low);
      low = λ top all. let was = least top all in omega (arith, ints);
    })

pub wanted-preserved : goal.wanted-preserved
wanted-preserved c =
    let next : SFits w64 c.in_ok-next.next = search rules in
    let more = c.in_ok-next.ensures.greater in
    let up : to_z w64 c.wanted.number-bits <ℤ c.in_ok-next.next = omega (arith, ints) in
    let put = simp to_z-of_z at c.in_ok-put.ensures in
    let copy = simp to_z-of_z at c.in_ok-copy.ensures in
    simp to_z-of_z
    (record {
      adds =
          adds_next c.args.rows.now.items c.wanted.rows.items c.push-in-wanted.new.self.items c.args.wanted.now c.wanted.lock-index c.lock-item.result c.in_ok-put.put c.in_ok-copy.copy
          (to_z w64 c.wanted.number-bits) c.in_ok-next.next c.args.changes.now.items c.wanted.changes.items c.push.new.self.items c.wanted.invariant.adds c.wanted-test.true
          c.lock-item.is up put c.in_ok-push.ensures.items copy c.in_ok-push-2.ensures.items;
      low = λ top all. let was = c.wanted.invariant.low top all in omega (arith, ints);
    })

pub returns-in_err-next-clause-err : goal.returns-in_err-next-clause-err
returns-in_err-next-clause-err c =
    let low = c.wanted-test.true in
    fails_on c.from_residual.result (HaveRoom (map lock_entry c.args.rows.now.items) (length c.args.wanted.now)) (Unit {0})
    ((to_z w64 c.wanted.number-bits +ℤ pos 1) <ℤ pos (2 ^ 63)) (Unit {0}) c.in_err-next.field-0.0 c.from_residual.ensures.1 c.in_err-next.ensures.err
    (λ (top, all, room). let was = c.wanted.invariant.low top all in omega (arith, ints)) (λ x. x)

pub returns-clause-brings : goal.returns-clause-brings
returns-clause-brings c = c.wanted.invariant.adds.brings

pub returns-clause-values : goal.returns-clause-values
returns-clause-values c =
    c.wanted.invariant.adds.values ∙ ap (λ rs. map row_values c.args.rows.now.items ++ map row_values rs) (take_all c.wanted.lock-index c.args.wanted.now c.wanted-test.false)
