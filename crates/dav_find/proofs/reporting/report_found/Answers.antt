use Rattle.std.proofs.Common.{◌∙◌, ◌++◌, ap, sym}
use Rattle.dav_find.specs.Finding.{finding_of}
use Rattle.dav_find.specs.Reporting.{report_one}
use Rattle.dav_find.proofs.ReportLemmas.{one_reported}
use Rattle.dav_find.proofs.reporting.report_found.Goals as goal

-- one more is reported behind those so far
pub loop-one-preserved : goal.loop-one-preserved
loop-one-preserved c =
    let one = c.in-Some.one in
    let stored = c.args.stored.now in
    c.in_ok-reported-2.ensures
    ∙ ap (λ reported. reported ++ report_one stored (finding_of one)) c.loop-one.invariant
    ∙ sym (one_reported c.loop-one.yielded one stored)
