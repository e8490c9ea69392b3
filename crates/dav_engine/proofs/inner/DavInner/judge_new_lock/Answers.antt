use Rattle.std.proofs.Common.{◌∙◌, sym, ap}
use Rattle.dav_messages.specs.Dialogues.{judges_exit, judges_then}
use Rattle.dav_engine.specs.Rules.{depth_verdict, holding}
use Rattle.dav_engine.proofs.Deleting.{judges_known}
use Rattle.dav_engine.proofs.Judging.{still, in_same_state, found_in_error}
use Rattle.dav_engine.proofs.Locking.{info_unread, info_read}
use Rattle.dav_engine.proofs.inner.DavInner.judge_new_lock.Goals as goal

pub returns-in_err-found-clause-rules : goal.returns-in_err-found-clause-rules
returns-in_err-found-clause-rules g c = judges_exit _ _ _ _ _ _ (found_in_error _ _ c.from_residual.ensures.1) c.in_err-found.ensures.rules

pub returns-in_err-judge_depth-clause-rules : goal.returns-in_err-judge_depth-clause-rules
returns-in_err-judge_depth-clause-rules g c =
    judges_then _ _ _ _ _ _ _ c.in_ok-found.ensures.rules
    (judges_exit _ _ _ _ _ _ (found_in_error _ _ c.from_residual-in_err-judge_depth.ensures.1) (judges_known _ _ _ (sym (c.judge_depth.ensures ∙ ap depth_verdict c.depth_or_all.ensures) ∙ c.in_err-judge_depth.was)))

pub returns-in_err-judge_holding-clause-rules : goal.returns-in_err-judge_holding-clause-rules
returns-in_err-judge_holding-clause-rules g c =
    let found = c.in_ok-found.ensures in
    judges_then _ _ _ _ _ _ _ found.rules
    (judges_then _ _ _ _ _ _ _ (judges_known _ _ _ (sym (c.judge_depth.ensures ∙ ap depth_verdict c.depth_or_all.ensures) ∙ c.in_ok-judge_depth.was))
    (judges_exit _ _ _ _ _ _ (found_in_error _ _ c.from_residual-in_err-judge_holding.ensures.1)
    (in_same_state (λ s. holding c.args.request.now s c.in_ok-found.found) _ _ _ _ _ (still g.L.DavLockSystem.seen _ _ _ _ found.rules.same found.same_locks) (rw c.as_ref.ensures.value at c.in_err-judge_holding.ensures.rules))))

pub returns-in_err-info-clause-rules : goal.returns-in_err-info-clause-rules
returns-in_err-info-clause-rules g c =
    let found = c.in_ok-found.ensures in
    judges_then _ _ _ _ _ _ _ found.rules
    (judges_then _ _ _ _ _ _ _ (judges_known _ _ _ (sym (c.judge_depth.ensures ∙ ap depth_verdict c.depth_or_all.ensures) ∙ c.in_ok-judge_depth.was))
    (judges_then _ _ _ _ _ _ _
    (in_same_state (λ s. holding c.args.request.now s c.in_ok-found.found) _ _ _ _ _ (still g.L.DavLockSystem.seen _ _ _ _ found.rules.same found.same_locks) (rw c.as_ref.ensures.value at c.in_ok-judge_holding.ensures.rules))
    (info_unread c.args.request.now c.in_ok-found.found _ _ _ (found_in_error _ _ c.from_residual-in_err-info.ensures.1) c.in_err-info.ensures)))

pub returns-clause-rules : goal.returns-clause-rules
returns-clause-rules g c =
    let found = c.in_ok-found.ensures in
    judges_then _ _ _ _ _ _ _ found.rules
    (judges_then _ _ _ _ _ _ _ (judges_known _ _ _ (sym (c.judge_depth.ensures ∙ ap depth_verdict c.depth_or_all.ensures) ∙ c.in_ok-judge_depth.was))
    (judges_then _ _ _ _ _ _ _
    (in_same_state (λ s. holding c.args.request.now s c.in_ok-found.found) _ _ _ _ _ (still g.L.DavLockSystem.seen _ _ _ _ found.rules.same found.same_locks) (rw c.as_ref.ensures.value at c.in_ok-judge_holding.ensures.rules))
    (info_read c.args.request.now c.in_ok-found.found _ c.in_ok-info.info c.in_ok-info.ensures)))
