use Rattle.std.proofs.Common.{◌∙◌, ◌++◌, ◌∷◌, [], ap, sym, map, not}
use Rattle.dav_find.specs.Asked.{is_among}
use Rattle.dav_find.specs.Finding.{finding_of}
use Rattle.dav_find.specs.Reporting.{given_in}
use Rattle.dav_find.proofs.ReportLemmas.{is_reported, is_passed_over}
use Rattle.dav_find.proofs.reporting.report_values.Goals as goal
use Rattle.dav_find.proofs.reporting.report_values.Goals.{then-not-has+in_ok-clone+in_ok-push, else-not-has}

-- one more is reported where it isn't given
pub loop-element-preserved : goal.loop-element-preserved
loop-element-preserved c =
    let kept = c.args.kept.now in
    let i = c.loop-element.element-index in
    let element = c.element-item.result in
    let given = c.has.ensures _ c.in_ok-given.ensures ∙ ap (λ e. is_among e (given_in (map finding_of c.args.found.now))) c.as_element.ensures in
    let reported = c.loop-element.reported.items in
    elim c.if-not-has.branch [
      | then-not-has+in_ok-clone+in_ok-push w ↦
          ap (λ v. v.items) w.reported-is ∙ w.in_ok-push.ensures.items ∙ ap (λ copy. reported ++ (200, copy) ∷ []) (w.in_ok-clone.ensures ∙ w.as_element-then-not-has.ensures)
          ∙ is_reported (λ copy. (200, copy)) _ kept i element c.loop-element-test.true c.element-item.is reported c.loop-element.invariant (ap not (sym given) ∙ ap not w.if-not-has.true)
      | else-not-has w ↦
          ap (λ v. v.items) w.reported-is ∙ is_passed_over (λ copy. (200, copy)) _ kept i element c.loop-element-test.true c.element-item.is reported c.loop-element.invariant (ap not (sym given) ∙ ap not w.if-not-has.false)
    ]
