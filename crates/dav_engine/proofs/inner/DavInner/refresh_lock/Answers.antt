use Rattle.std.proofs.Common.{ap}
use Rattle.std.proofs.lemmas.Result.{err_from_is_err_and}
use Rattle.dav_engine.proofs.Locking.{refreshes_not, refreshes}
use Rattle.dav_engine.proofs.inner.DavInner.refresh_lock.Goals as goal

pub returns-in_err-lock-clause-work : goal.returns-in_err-lock-clause-work
returns-in_err-lock-clause-work g c =
    let p = err_from_is_err_and c.from_residual.result c.from_residual.ensures.1 in
    rw (p.1, p.2) (refreshes_not c.args.self.now.profile c.args.request.now c.args.found c.args.token.now c.requires.token _ _ _ c.in_err-lock.ensures.refused)

pub returns-clause-work : goal.returns-clause-work
returns-clause-work g c = refreshes c.args.self.now.profile c.args.request.now c.args.found c.args.token.now c.requires.token c.in_ok-lock.lock _ _ c.refreshed_reply.result c.in_ok-lock.ensures.refreshed
    (rw (ap (λ f. f.1.3) c.in_ok-lock.ensures.same_engine) at c.refreshed_reply.ensures.ok) c.refreshed_reply.ensures.err
