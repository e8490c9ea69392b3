use Rattle.std.proofs.Common.{ap}
use Rattle.dav_engine.specs.DavInner.{settings_by}
use Rattle.dav_engine.specs.Methods.{options_method}
use Rattle.dav_engine.proofs.Running.{lawful}
use Rattle.dav_engine.proofs.Serving.{options_sound, serves_exit, serves_work}
use Rattle.dav_engine.proofs.inner.DavInner.handle_options.Goals as goal

pub returns-in_err-found-clause-step : goal.returns-in_err-found-clause-step
returns-in_err-found-clause-step g c =
    let judged = c.in_err-found.ensures in
    rw judged.same_locks (serves_exit options_method options_sound (settings_by g.F.GuardedFileSystem.seen c.args.self.now) c.args.request.now _ _ _ _ _ (lawful g.F.GuardedFileSystem.seen g.L.DavLockSystem.seen g.met.F.GuardedFileSystem.well_formed g.met.L.DavLockSystem.distinct c.args.self.now) c.from_residual.ensures.1 judged.rules)

pub returns-clause-step : goal.returns-clause-step
returns-clause-step g c =
    let judged = c.in_ok-found.ensures in
    let work = rw (ap (λ f. f.1.1) judged.same_engine, judged.same_locks) at c.answer_methods.ensures in
    rw judged.same_locks (serves_work options_method options_sound (settings_by g.F.GuardedFileSystem.seen c.args.self.now) c.args.request.now _ c.in_ok-found.found _ _ _ _ (lawful g.F.GuardedFileSystem.seen g.L.DavLockSystem.seen g.met.F.GuardedFileSystem.well_formed g.met.L.DavLockSystem.distinct c.args.self.now) judged.rules work)
