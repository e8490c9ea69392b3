use Rattle.std.proofs.Common.{ap}
use Rattle.dav_engine.specs.DavInner.{settings_by}
use Rattle.dav_engine.specs.Methods.{delete_method}
use Rattle.dav_engine.proofs.Running.{lawful}
use Rattle.dav_engine.proofs.Serving.{delete_sound, serves_exit, serves_work}
use Rattle.dav_engine.proofs.inner.DavInner.handle_delete.Goals as goal

pub returns-in_err-meta-clause-step : goal.returns-in_err-meta-clause-step
returns-in_err-meta-clause-step g c =
    let judged = c.in_err-meta.ensures in
    rw judged.same_locks (serves_exit delete_method delete_sound (settings_by g.F.GuardedFileSystem.seen c.args.self.now) c.args.request.now _ _ _ _ _ (lawful g.F.GuardedFileSystem.seen g.L.DavLockSystem.seen g.met.F.GuardedFileSystem.well_formed g.met.L.DavLockSystem.distinct c.args.self.now) c.from_residual.ensures.1 judged.rules)

pub returns-clause-step : goal.returns-clause-step
returns-clause-step g c =
    let judged = c.in_ok-meta.ensures in
    serves_work delete_method delete_sound (settings_by g.F.GuardedFileSystem.seen c.args.self.now) c.args.request.now _ c.in_ok-meta.meta _ _ _ _ (lawful g.F.GuardedFileSystem.seen g.L.DavLockSystem.seen g.met.F.GuardedFileSystem.well_formed g.met.L.DavLockSystem.distinct c.args.self.now) judged.rules (rw (ap (λ f. f.1.3) judged.same_engine, judged.same_locks) at c.delete_found.ensures.work)
