use Rattle.std.proofs.Common.{ap, option_map}
use Rattle.std.proofs.lemmas.Result.{err_from_is_err_and}
use Rattle.dav_engine.proofs.Locking.{locks_denied, locks_told, locks_removed}
use Rattle.dav_engine.proofs.inner.DavInner.grant_lock.Goals as goal

pub returns-in_err-lock-clause-work : goal.returns-in_err-lock-clause-work
returns-in_err-lock-clause-work g c =
    let p = err_from_is_err_and c.from_residual.result c.from_residual.ensures.1 in
    rw (p.1, p.2) (locks_denied c.args.self.now.profile c.args.request.now c.args.found c.args.info.now c.requires.info _ _ _ c.in_err-lock.ensures.refused)

pub returns-in-Ok-clause-work : goal.returns-in-Ok-clause-work
returns-in-Ok-clause-work g c =
    locks_told c.args.self.now.profile c.args.request.now c.args.found c.args.info.now c.requires.info _ _ _ c.in_ok-lock.ensures.granted (ap (option_map g.L.DavLockSystem.seen) c.in-Ok.ensures.same_locks) _
    (rw (ap (λ f. f.1.3) c.in_ok-lock.ensures.same_engine, c.in_ok-lock.ensures.lock) at c.in-Ok.ensures.work)

pub returns-clause-work : goal.returns-clause-work
returns-clause-work g c =
    locks_removed c.args.self.now.profile c.args.request.now c.args.found c.args.info.now c.requires.info _ _ _ c.in_ok-lock.ensures.granted (ap (option_map g.L.DavLockSystem.seen) c.in-Err.ensures.same_locks) c.in-Err.error _ c.remove_lock.result
    (rw (ap (λ f. f.1.3) c.in_ok-lock.ensures.same_engine, c.in_ok-lock.ensures.lock) at c.in-Err.ensures.work) (rw (c.as_str.ensures, c.in_ok-lock.ensures.lock) at c.remove_lock.ensures.removed) (rw (c.as_str.ensures, c.in_ok-lock.ensures.lock) at c.remove_lock.ensures.kept)
