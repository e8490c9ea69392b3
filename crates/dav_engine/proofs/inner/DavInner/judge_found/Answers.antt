use Rattle.std.proofs.Common.{Some, refl}
use Rattle.dav_messages.specs.Dialogues.{judges_exit, judges_then}
use Rattle.dav_engine.proofs.Deleting.{finds, finds_nothing}
use Rattle.dav_engine.proofs.Judging.{still, same_rules}
use Rattle.dav_engine.proofs.inner.DavInner.judge_found.Goals as goal

pub returns-in_err-meta-clause-rules : goal.returns-in_err-meta-clause-rules
returns-in_err-meta-clause-rules g c = judges_exit _ _ _ _ _ _ c.from_residual.ensures.1 (finds_nothing _ _ _ _ c.in_err-meta.ensures.declined)

pub returns-clause-rules : goal.returns-clause-rules
returns-clause-rules g c =
    let found = finds c.args.request.now.path.key c.in_ok-meta.meta _ _ c.in_ok-meta.ensures.granted in
    judges_then _ _ _ _ _ _ _ found (same_rules c.args.request.now (Some c.in_ok-meta.meta) _ _ _ _ _ (still g.L.DavLockSystem.seen _ _ _ _ found.same refl) c.judge_path.ensures.rules)
