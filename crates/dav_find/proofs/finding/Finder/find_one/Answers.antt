use Rattle.std.proofs.Common.{◌≡◌, ◌∙◌, Some, ap, sym, refl}
use Rattle.dav_messages.specs.Dialogues.{judges_exit, judges_then, judges_pure}
use Rattle.dav_live.specs.Names.{is_quota}
use Rattle.dav_find.specs.Finder.{view_of}
use Rattle.dav_find.proofs.AskedFields.{live_in}
use Rattle.dav_find.proofs.Answering.{judges_live}
use Rattle.dav_find.proofs.finding.Finder.find_one.Goals as goal

pub returns-in_err-find_kept-in-None-clause-rules : goal.returns-in_err-find_kept-in-None-clause-rules
returns-in_err-find_kept-in-None-clause-rules g c =
    rw (live_in _ _ c.asked.invariant c.asked.view_is ∙ c.in-None.is) (judges_exit _ _ _ _ _ _ c.from_residual-in_err-find_kept-in-None.ensures.1 c.in_err-find_kept-in-None.ensures.rules)

pub returns-in_ok-find_kept-in-None-clause-rules : goal.returns-in_ok-find_kept-in-None-clause-rules
returns-in_ok-find_kept-in-None-clause-rules g c =
    rw (live_in _ _ c.asked.invariant c.asked.view_is ∙ c.in-None.is) (judges_then _ _ _ _ _ _ _ c.in_ok-find_kept-in-None.ensures.rules (judges_pure _ _ _ refl))

pub returns-in_ok-live_result-in-Some-2-clause-rules : goal.returns-in_ok-live_result-in-Some-2-clause-rules
returns-in_ok-live_result-in-Some-2-clause-rules g c =
    let facts = (g.F.GuardedFileSystem.seen c.args.fs.now).facts in
    let same : Some c.in-Some-2.property ≡ Some c.in-Some.property = sym c.in-Some-2.is ∙ c.in-Some.is in
    let property : c.in-Some-2.property ≡ c.in-Some.property = cc in
    judges_live (view_of g.L.DavLockSystem.seen c.args.self.now facts) (g.F.GuardedFileSystem.seen c.args.fs.now).contents c.args.here.now c.args.asked.now.element c.args.quota c.in-Some-2.property _ _
    (live_in _ _ c.asked.invariant c.asked.view_is ∙ c.in-Some-2.is) (ap is_quota property ∙ sym c.is_quota.ensures ∙ c.if-is_quota.false)
    (rw c.element-element.ensures at (c.in_ok-live_result-in-Some-2.ensures.ok facts))
