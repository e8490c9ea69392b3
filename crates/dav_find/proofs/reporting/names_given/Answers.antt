use Rattle.std.proofs.Common.{◌∙◌, ◌+◌, sym, subst, map, take, List}
use Rattle.dav_resource.specs.Tree.{Tree}
use Rattle.dav_find.specs.Finding.{finding_of}
use Rattle.dav_find.specs.Names.{AreNamesOf}
use Rattle.dav_find.specs.Reporting.{given_in}
use Rattle.dav_find.specs.declared.names.PropertyNames.{PropertyNames}
use Rattle.dav_find.proofs.ReportLemmas.{one_given, none_given}
use Rattle.dav_find.proofs.reporting.names_given.Goals as goal
use Rattle.dav_find.proofs.reporting.names_given.Goals.{then-is_ok+in_ok-insert, else-is_ok}

-- one more is given where it was found
pub loop-one-preserved : goal.loop-one-preserved
loop-one-preserved c =
    let found = c.args.found.now in
    let i = c.loop-one.one-index in
    let one = c.one-item.result in
    elim c.if-is_ok.branch [
      | then-is_ok+in_ok-insert w ↦
          subst (λ (names : PropertyNames). AreNamesOf names.names (given_in (map finding_of (take (i + 1) found)))) (sym w.names-is)
          (subst (λ (elements : List Tree). AreNamesOf w.insert.new.self.names elements) (sym (one_given found i one c.loop-one-test.true c.one-item.is (sym c.is_ok.ensures.value ∙ w.if-is_ok.true)))
          (rw w.element.ensures at (w.in_ok-insert.ensures.names (given_in (map finding_of (take i found))) c.loop-one.invariant)))
      | else-is_ok w ↦
          subst (λ (names : PropertyNames). AreNamesOf names.names (given_in (map finding_of (take (i + 1) found)))) (sym w.names-is)
          (subst (λ (elements : List Tree). AreNamesOf c.loop-one.names.names elements) (sym (none_given found i one c.loop-one-test.true c.one-item.is (sym c.is_ok.ensures.value ∙ w.if-is_ok.false))) c.loop-one.invariant)
    ]
