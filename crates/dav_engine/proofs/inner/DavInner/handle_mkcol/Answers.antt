use Rattle.dav_engine.specs.DavInner.{settings_by}
use Rattle.dav_engine.specs.Methods.{mkcol_method}
use Rattle.dav_engine.proofs.Running.{lawful}
use Rattle.dav_engine.proofs.Serving.{mkcol_sound, serves_exit, serves_work, performs_on_store}
use Rattle.dav_engine.proofs.inner.DavInner.handle_mkcol.Goals as goal

pub returns-in_err-judge_shallow-clause-step : goal.returns-in_err-judge_shallow-clause-step
returns-in_err-judge_shallow-clause-step g c =
    let judged = c.in_err-judge_shallow.ensures in
    rw judged.same_locks (serves_exit mkcol_method mkcol_sound (settings_by g.F.GuardedFileSystem.seen c.args.self.now) c.args.request.now _ _ _ _ _ (lawful g.F.GuardedFileSystem.seen g.L.DavLockSystem.seen g.met.F.GuardedFileSystem.well_formed g.met.L.DavLockSystem.distinct c.args.self.now) c.from_residual.ensures.1 judged.rules)

pub returns-clause-step : goal.returns-clause-step
returns-clause-step g c =
    let judged = c.in_ok-judge_shallow.ensures in
    rw (c.make_collection.ensures.same_locks, judged.same_locks) (serves_work mkcol_method mkcol_sound (settings_by g.F.GuardedFileSystem.seen c.args.self.now) c.args.request.now _ c.in_ok-judge_shallow.field-0 _ _ _ _ (lawful g.F.GuardedFileSystem.seen g.L.DavLockSystem.seen g.met.F.GuardedFileSystem.well_formed g.met.L.DavLockSystem.distinct c.args.self.now) judged.rules (performs_on_store _ _ _ _ c.make_collection.ensures.work))
