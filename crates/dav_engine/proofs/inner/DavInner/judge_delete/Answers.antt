use Rattle.std.proofs.Common.{◌∙◌, Some, refl, sym, ap}
use Rattle.dav_messages.specs.Dialogues.{judges_exit, judges_then}
use Rattle.dav_engine.specs.DavInner.{seen_by}
use Rattle.dav_engine.specs.Rules.{depth_verdict}
use Rattle.dav_engine.specs.State.{state_of}
use Rattle.dav_engine.proofs.Deleting.{judges_known, finds, finds_nothing, delete_unheld, delete_held}
use Rattle.dav_engine.proofs.Judging.{same_conditions}
use Rattle.dav_engine.proofs.inner.DavInner.judge_delete.Goals as goal

pub returns-in_err-judge_depth-clause-rules : goal.returns-in_err-judge_depth-clause-rules
returns-in_err-judge_depth-clause-rules g c =
    judges_exit _ _ _ _ _ _ c.from_residual.ensures.1 (judges_known _ _ _ (sym (c.judge_depth.ensures ∙ ap depth_verdict c.depth_or_all.ensures) ∙ c.in_err-judge_depth.was))

pub returns-in_err-meta-clause-rules : goal.returns-in_err-meta-clause-rules
returns-in_err-meta-clause-rules g c =
    let passed = judges_known _ _ _ (sym (c.judge_depth.ensures ∙ ap depth_verdict c.depth_or_all.ensures) ∙ c.in_ok-judge_depth.was) in
    judges_then _ _ _ _ _ _ _ passed (judges_exit _ _ _ _ _ _ c.from_residual-in_err-meta.ensures.1 (finds_nothing _ _ _ _ c.in_err-meta.ensures.declined))

pub returns-in_err-tokens-clause-rules : goal.returns-in_err-tokens-clause-rules
returns-in_err-tokens-clause-rules g c =
    let request = c.args.request.now in
    let state = state_of (seen_by g.F.GuardedFileSystem.seen g.L.DavLockSystem.seen c.args.self.now) in
    let reached = sym (c.judge_depth.ensures ∙ ap depth_verdict c.depth_or_all.ensures) ∙ c.in_ok-judge_depth.was in
    let found = finds request.path.key c.in_ok-meta.meta _ _ c.in_ok-meta.ensures.granted in
    delete_unheld request state _ _ _ c.in_ok-meta.meta reached found _ _ c.from_residual-in_err-tokens.ensures.1
    (same_conditions request (Some c.in_ok-meta.meta) request.path state.contents _ state.locks _ _ _ _ found.same refl c.in_err-tokens.ensures.rules)

pub returns-clause-rules : goal.returns-clause-rules
returns-clause-rules g c =
    let request = c.args.request.now in
    let state = state_of (seen_by g.F.GuardedFileSystem.seen g.L.DavLockSystem.seen c.args.self.now) in
    let reached = sym (c.judge_depth.ensures ∙ ap depth_verdict c.depth_or_all.ensures) ∙ c.in_ok-judge_depth.was in
    let found = finds request.path.key c.in_ok-meta.meta _ _ c.in_ok-meta.ensures.granted in
    let judged = c.in_ok-tokens.ensures in
    let permitted = rw (c.is_permitted-permitted.ensures, c.as_slice.ensures, judged.tokens, judged.same_locks) at c.where_permitted.ensures in
    delete_held request state _ _ _ c.in_ok-meta.meta reached found c.in_ok-tokens.tokens _
    (same_conditions request (Some c.in_ok-meta.meta) request.path state.contents _ state.locks _ _ _ _ found.same refl judged.rules) permitted
