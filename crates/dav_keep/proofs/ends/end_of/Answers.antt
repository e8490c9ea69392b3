use Rattle.std.proofs.Common.{◌≡◌, ◌<◌, ◌^◌, ℕ, true, rules, sym, subst}
use Rattle.dav_keep.proofs.Reaches.{value_below, value_higher, end_next, end_none, end_all, values_end, values_none, file_end, file_none, directory_end}
use Rattle.dav_keep.specs.Ends.{IsEnd, AreBelow, FindsEnd}
use Rattle.dav_keep.proofs.ends.end_of.Goals.{in-File+in_ok-end_of_body, in_default}
use Rattle.dav_keep.proofs.ends.end_of.Goals as goal

pub returns-in_err-end_of_body : goal.returns-in_err-end_of_body
returns-in_err-end_of_body c =
    let none =
    subst (λ value. (e : ℕ) → e < 2 ^ 63 → value_below e value ≡ true → ⊥) c.value-item.is (file_none c.value-item.result c.in-File.body c.in-File.is c.in_err-end_of_body.ensures) in
    subst (FindsEnd (AreBelow c.args.values.now)) (sym c.from_residual.ensures)
    (values_none c.args.values.now (end_none value_below value_higher c.args.values.now c.values.value-index c.value-item.result c.values-test.true none))

pub values-preserved : goal.values-preserved
values-preserved c = elim c.match-value.branch [
  | in-File+in_ok-end_of_body w ↦
      end_next value_below value_higher c.args.values.now c.values.value-index c.values.end w.in_ok-end_of_body.field-0 c.match-value.end c.value-item.result c.values-test.true
      c.values.invariant
      (subst (λ value. IsEnd (λ e. value_below e value ≡ true) w.in_ok-end_of_body.field-0) c.value-item.is
      (file_end c.value-item.result w.in-File.body w.in_ok-end_of_body.field-0 w.in-File.is w.in_ok-end_of_body.ensures))
      (search rules)
  | in_default w ↦
      end_next value_below value_higher c.args.values.now c.values.value-index c.values.end 0 c.match-value.end c.value-item.result c.values-test.true
      c.values.invariant
      (subst (λ value. IsEnd (λ e. value_below e value ≡ true) 0) c.value-item.is (directory_end c.value-item.result w.in_default.is))
      (search rules)
]

pub returns : goal.returns
returns c = values_end c.args.values.now c.values.end (end_all value_below value_higher c.args.values.now c.values.value-index c.values.end c.values-test.false c.values.invariant)
