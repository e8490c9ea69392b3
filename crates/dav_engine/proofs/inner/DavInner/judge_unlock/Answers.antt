use Rattle.std.proofs.Common.{◌∙◌, sym}
use Rattle.dav_messages.specs.Dialogues.{judges_exit, judges_then}
use Rattle.dav_engine.proofs.Deleting.{judges_known}
use Rattle.dav_engine.proofs.Judging.{found_in_error, judges_error}
use Rattle.dav_engine.proofs.Locking.{token_known, token_unknown}
use Rattle.dav_engine.proofs.inner.DavInner.judge_unlock.Goals as goal

pub returns-in_err-judge_locks-clause-rules : goal.returns-in_err-judge_locks-clause-rules
returns-in_err-judge_locks-clause-rules g c = judges_exit _ _ _ _ _ _ (found_in_error _ _ c.from_residual.ensures.1) (judges_known _ _ _ (sym c.judge_locks.ensures ∙ c.in_err-judge_locks.was))

pub returns-in_err-token-clause-rules : goal.returns-in_err-token-clause-rules
returns-in_err-token-clause-rules g c =
    judges_then _ _ _ _ _ _ _ (judges_known _ _ _ (sym c.judge_locks.ensures ∙ c.in_ok-judge_locks.was))
    (judges_exit _ _ _ _ _ _ (found_in_error _ _ c.from_residual-in_err-token.ensures.1) (judges_known _ _ _ (token_unknown c.args.request.now _ c.in_err-token.ensures.err)))

pub returns-in_err-look_up-clause-rules : goal.returns-in_err-look_up-clause-rules
returns-in_err-look_up-clause-rules g c =
    judges_then _ _ _ _ _ _ _ (judges_known _ _ _ (sym c.judge_locks.ensures ∙ c.in_ok-judge_locks.was))
    (judges_then _ _ _ _ _ _ _ (judges_known _ _ _ (token_known c.args.request.now c.in_ok-token.token.now c.in_ok-token.ensures.ok))
    (judges_error _ _ _ _ _ (found_in_error _ _ c.from_residual-in_err-look_up.ensures.1) c.in_err-look_up.ensures.rules))

pub returns-clause-rules : goal.returns-clause-rules
returns-clause-rules g c =
    judges_then _ _ _ _ _ _ _ (judges_known _ _ _ (sym c.judge_locks.ensures ∙ c.in_ok-judge_locks.was))
    (judges_then _ _ _ _ _ _ _ (judges_known _ _ _ (token_known c.args.request.now c.in_ok-token.token.now c.in_ok-token.ensures.ok)) c.in_ok-look_up.ensures.rules)
