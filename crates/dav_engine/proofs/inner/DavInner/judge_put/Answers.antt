use Rattle.std.proofs.Common.{◌∙◌, ◌<◌, ◌^◌, length, ap, refl, subst, sym}
use Rattle.dav_messages.specs.Dialogues.{judges_exit, judges_refusing}
use Rattle.dav_engine.specs.DavInner.{lent, seen_by, bodies_by}
use Rattle.dav_engine.specs.State.{state_of}
use Rattle.dav_engine.specs.Rules.{closing}
use Rattle.dav_engine.specs.Put.{as_looked}
use Rattle.dav_engine.specs.Target.{target_of}
use Rattle.dav_engine.proofs.Judging.{still, same_rules, found_in_error}
use Rattle.dav_engine.proofs.Aiming.{put_unaimed, put_unheld, put_held, exit_is, closed_found, reaches_end, aims_as_looked, body_passed, same_verdict}
use Rattle.dav_engine.proofs.Putting.{same_bytes}
use Rattle.dav_engine.proofs.inner.DavInner.judge_put.Goals as goal

pub returns-in_err-looked-clause-rules : goal.returns-in_err-looked-clause-rules
returns-in_err-looked-clause-rules g c = judges_exit _ _ _ _ _ _ (found_in_error _ _ c.from_residual.ensures.1) c.in_err-looked.ensures.rules

pub returns-in_err-target-clause-rules : goal.returns-in_err-target-clause-rules
returns-in_err-target-clause-rules g c =
    let see = g.F.GuardedFileSystem.seen in
    let state = state_of (seen_by see g.L.DavLockSystem.seen c.args.self.now) in
    put_unaimed (bodies_by see c.args.self.now) c.args.partial c.args.request.now state (see (lent c.args.self.now)) _ (see (lent c.look_up_result.new.self)) c.in_ok-looked.looked c.in_ok-looked.ensures.rules _ _
    (found_in_error _ _ c.from_residual-in_err-target.ensures.1) c.in_err-target.ensures

pub returns-in_err-found-clause-rules : goal.returns-in_err-found-clause-rules
returns-in_err-found-clause-rules g c =
    let see = g.F.GuardedFileSystem.seen in
    let state = state_of (seen_by see g.L.DavLockSystem.seen c.args.self.now) in
    let looked = c.in_ok-looked.ensures in
    let judged = same_rules c.args.request.now _ state _ _ _ _ (still g.L.DavLockSystem.seen _ _ _ _ looked.rules.same looked.same_locks) (rw c.ok.ensures.value at c.judge_path.ensures.rules) in
    let closed = judges_refusing closing _ _ _ c.judge_path.result refl judged in
    put_unheld (bodies_by see c.args.self.now) c.args.partial c.args.request.now state _ _ _ c.in_ok-looked.looked looked.rules _ c.in_ok-target.ensures _ _
    (found_in_error _ _ c.from_residual-in_err-found.ensures.1) (rw (← c.closed.ensures, c.in_err-found.was) at closed)

pub returns-in_err-judge_body-clause-rules : goal.returns-in_err-judge_body-clause-rules
returns-in_err-judge_body-clause-rules g c =
    let see = g.F.GuardedFileSystem.seen in
    let state = state_of (seen_by see g.L.DavLockSystem.seen c.args.self.now) in
    let looked = c.in_ok-looked.ensures in
    let judged = same_rules c.args.request.now _ state _ _ _ _ (still g.L.DavLockSystem.seen _ _ _ _ looked.rules.same looked.same_locks) (rw c.ok.ensures.value at c.judge_path.ensures.rules) in
    let closed = judges_refusing closing _ _ _ c.judge_path.result refl judged in
    put_held (bodies_by see c.args.self.now) c.args.partial c.args.request.now state _ _ _ c.in_ok-looked.looked looked.rules _ c.in_ok-target.ensures c.in_ok-found.found _ (rw (← c.closed.ensures, c.in_ok-found.was) at closed)
    (exit_is _ _ (found_in_error _ _ c.from_residual-in_err-judge_body.ensures.1) ∙ c.in_err-judge_body.ensures.verdict ∙ same_verdict c.in_ok-target.target c.args.request.now.body c.in_ok-found.found _ _ (c.judge_path.ensures.rules.fixed ∙ looked.rules.fixed))

pub returns-clause-aimed : goal.returns-clause-aimed
returns-clause-aimed g c =
    let found = closed_found closing c.judge_path.result _ _ (sym c.closed.ensures ∙ c.in_ok-found.was) c.judge_path.ensures.found ∙ c.ok.ensures.value in
    let passed = (body_passed _ c.in_ok-target.target c.args.request.now.body _ _ (sym c.in_ok-judge_body.ensures.verdict)).1 in
    ap (λ f. target_of c.args.partial c.args.request.now.headers (as_looked f)) (sym passed ∙ found) ∙ aims_as_looked c.args.partial c.args.request.now.headers c.in_ok-looked.looked _ (sym c.in_ok-target.ensures)

pub returns-clause-reach : goal.returns-clause-reach
returns-clause-reach g c =
    let body = c.args.request.now.body in
    let fixed = c.judge_path.ensures.rules.fixed ∙ c.in_ok-looked.ensures.rules.fixed in
    let passed = body_passed _ c.in_ok-target.target body _ _ (sym (c.in_ok-judge_body.ensures.verdict ∙ same_verdict c.in_ok-target.target body c.in_ok-found.found _ _ fixed)) in
    reaches_end _ c.args.partial c.args.request.now.headers c.in_ok-looked.looked c.in_ok-target.target body (sym c.in_ok-target.ensures) passed.0
    (subst (λ bytes. length bytes < 2 ^ 64) (sym (same_bytes body _ _ fixed)) c.in_ok-judge_body.ensures.fits)

pub returns-clause-rules : goal.returns-clause-rules
returns-clause-rules g c =
    let see = g.F.GuardedFileSystem.seen in
    let state = state_of (seen_by see g.L.DavLockSystem.seen c.args.self.now) in
    let looked = c.in_ok-looked.ensures in
    let judged = same_rules c.args.request.now _ state _ _ _ _ (still g.L.DavLockSystem.seen _ _ _ _ looked.rules.same looked.same_locks) (rw c.ok.ensures.value at c.judge_path.ensures.rules) in
    let closed = judges_refusing closing _ _ _ c.judge_path.result refl judged in
    put_held (bodies_by see c.args.self.now) c.args.partial c.args.request.now state _ _ _ c.in_ok-looked.looked looked.rules _ c.in_ok-target.ensures c.in_ok-found.found _ (rw (← c.closed.ensures, c.in_ok-found.was) at closed)
    (c.in_ok-judge_body.ensures.verdict ∙ same_verdict c.in_ok-target.target c.args.request.now.body c.in_ok-found.found _ _ (c.judge_path.ensures.rules.fixed ∙ looked.rules.fixed))
