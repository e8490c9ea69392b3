use Rattle.dav_messages.specs.Dialogues.{judges_exit, judges_then}
use Rattle.dav_engine.proofs.Judging.{still, same_rules}
use Rattle.dav_engine.proofs.inner.DavInner.judge_shallow.Goals as goal

pub returns-in_err-found-clause-rules : goal.returns-in_err-found-clause-rules
returns-in_err-found-clause-rules g c = judges_exit _ _ _ _ _ _ c.from_residual.ensures.1 c.in_err-found.ensures.rules

pub returns-clause-rules : goal.returns-clause-rules
returns-clause-rules g c =
    let looked = c.in_ok-found.ensures in
    judges_then _ _ _ _ _ _ _ looked.rules
    (same_rules c.args.request.now c.in_ok-found.found _ _ _ _ _ (still g.L.DavLockSystem.seen _ _ _ _ looked.rules.same looked.same_locks) c.judge_path.ensures.rules)
