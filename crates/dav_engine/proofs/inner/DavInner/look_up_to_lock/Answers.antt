use Rattle.std.proofs.Common.{◌∙◌, sym}
use Rattle.dav_messages.specs.Dialogues.{judges_exit, judges_then}
use Rattle.dav_engine.proofs.Deleting.{judges_known}
use Rattle.dav_engine.proofs.inner.DavInner.look_up_to_lock.Goals as goal

pub returns-in_err-judge_locks-clause-rules : goal.returns-in_err-judge_locks-clause-rules
returns-in_err-judge_locks-clause-rules g c = judges_exit _ _ _ _ _ _ c.from_residual.ensures.1 (judges_known _ _ _ (sym c.judge_locks.ensures ∙ c.in_err-judge_locks.was))

pub returns-clause-rules : goal.returns-clause-rules
returns-clause-rules g c = judges_then _ _ _ _ _ _ _ (judges_known _ _ _ (sym c.judge_locks.ensures ∙ c.in_ok-judge_locks.was)) c.look_up.ensures.rules
