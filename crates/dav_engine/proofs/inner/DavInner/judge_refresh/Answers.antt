use Rattle.std.proofs.Common.{◌∙◌, sym, ap}
use Rattle.dav_messages.specs.Conditions.{dav_if_match}
use Rattle.dav_messages.specs.Dialogues.{judges_exit, judges_then, judges_memory, judges_if}
use Rattle.dav_engine.specs.Locking.{one_token}
use Rattle.dav_engine.proofs.Deleting.{judges_known}
use Rattle.dav_engine.proofs.Judging.{still, in_same_state, found_in_error, judges_error}
use Rattle.dav_engine.proofs.inner.DavInner.judge_refresh.Goals as goal

pub returns-in_err-found-clause-rules : goal.returns-in_err-found-clause-rules
returns-in_err-found-clause-rules g c = judges_exit _ _ _ _ _ _ (found_in_error _ _ c.from_residual.ensures.1) c.in_err-found.ensures.rules

pub returns-in_err-tokens-clause-rules : goal.returns-in_err-tokens-clause-rules
returns-in_err-tokens-clause-rules g c =
    let found = c.in_ok-found.ensures in
    judges_then _ _ _ _ _ _ _ found.rules
    (judges_exit _ _ _ _ _ _ (found_in_error _ _ c.from_residual-in_err-tokens.ensures.1)
    (in_same_state (λ s. dav_if_match s.contents s.locks c.args.request.now c.args.request.now.path) _ _ _ _ _ (still g.L.DavLockSystem.seen _ _ _ _ found.rules.same found.same_locks) c.in_err-tokens.ensures.rules))

pub returns-in_err-token-clause-rules : goal.returns-in_err-token-clause-rules
returns-in_err-token-clause-rules g c =
    let found = c.in_ok-found.ensures in
    judges_then _ _ _ _ _ _ _ found.rules
    (judges_then _ _ _ _ _ _ _
    (in_same_state (λ s. dav_if_match s.contents s.locks c.args.request.now c.args.request.now.path) _ _ _ _ _ (still g.L.DavLockSystem.seen _ _ _ _ found.rules.same found.same_locks) c.in_ok-tokens.ensures.rules)
    (judges_exit _ _ _ _ _ _ (found_in_error _ _ c.from_residual-in_err-token.ensures.1) (judges_known _ _ _ (ap one_token (sym c.as_slice.ensures) ∙ c.in_err-token.ensures.err))))

pub returns-in_err-where_permitted-clause-rules : goal.returns-in_err-where_permitted-clause-rules
returns-in_err-where_permitted-clause-rules g c =
    let found = c.in_ok-found.ensures in
    let asked = c.in_ok-tokens.ensures in
    let held = rw (c.is_permitted-permitted.ensures, c.as_slice-2.ensures, asked.tokens, asked.same_locks, found.same_locks) at c.where_permitted.ensures in
    judges_then _ _ _ _ _ _ _ found.rules
    (judges_then _ _ _ _ _ _ _
    (in_same_state (λ s. dav_if_match s.contents s.locks c.args.request.now c.args.request.now.path) _ _ _ _ _ (still g.L.DavLockSystem.seen _ _ _ _ found.rules.same found.same_locks) asked.rules)
    (judges_then _ _ _ _ _ _ _ (judges_known _ _ _ (ap one_token (sym c.as_slice.ensures) ∙ c.in_ok-token.ensures.ok))
    (judges_error _ _ _ _ _ (found_in_error _ _ c.from_residual-in_err-where_permitted.ensures.1) (judges_if _ _ _ _ _ (sym c.in_err-where_permitted.was ∙ held)))))

pub returns-in_err-clone-clause-rules : goal.returns-in_err-clone-clause-rules
returns-in_err-clone-clause-rules g c =
    let found = c.in_ok-found.ensures in
    let asked = c.in_ok-tokens.ensures in
    judges_then _ _ _ _ _ _ _ found.rules
    (judges_then _ _ _ _ _ _ _
    (in_same_state (λ s. dav_if_match s.contents s.locks c.args.request.now c.args.request.now.path) _ _ _ _ _ (still g.L.DavLockSystem.seen _ _ _ _ found.rules.same found.same_locks) asked.rules)
    (judges_then _ _ _ _ _ _ _ (judges_known _ _ _ (ap one_token (sym c.as_slice.ensures) ∙ c.in_ok-token.ensures.ok))
    (judges_memory _ _ _ (found_in_error _ _ c.from_residual-in_err-clone.ensures.1))))

pub returns-clause-rules : goal.returns-clause-rules
returns-clause-rules g c =
    let found = c.in_ok-found.ensures in
    let asked = c.in_ok-tokens.ensures in
    let held = rw (c.is_permitted-permitted.ensures, c.as_slice-2.ensures, asked.tokens, asked.same_locks, found.same_locks) at c.where_permitted.ensures in
    judges_then _ _ _ _ _ _ _ found.rules
    (judges_then _ _ _ _ _ _ _
    (in_same_state (λ s. dav_if_match s.contents s.locks c.args.request.now c.args.request.now.path) _ _ _ _ _ (still g.L.DavLockSystem.seen _ _ _ _ found.rules.same found.same_locks) asked.rules)
    (judges_then _ _ _ _ _ _ _ (judges_known _ _ _ (ap one_token (sym c.as_slice.ensures) ∙ c.in_ok-token.ensures.ok))
    (judges_if _ _ _ _ _ (sym c.in_ok-where_permitted.was ∙ held))))
