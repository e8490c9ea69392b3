use Rattle.std.proofs.Common.{ap}
use Rattle.dav_engine.specs.DavInner.{seen_by, settings_by}
use Rattle.dav_engine.specs.Methods.{lock_method}
use Rattle.dav_engine.specs.State.{state_of}
use Rattle.dav_engine.proofs.Locking.{judges_new, works_new}
use Rattle.dav_engine.proofs.Running.{lawful}
use Rattle.dav_engine.proofs.Serving.{lock_sound, serves_exit, serves_work}
use Rattle.dav_engine.proofs.inner.DavInner.new_lock.Goals as goal

pub returns-in_err-found-clause-step : goal.returns-in_err-found-clause-step
returns-in_err-found-clause-step g c =
    let state = state_of (seen_by g.F.GuardedFileSystem.seen g.L.DavLockSystem.seen c.args.self.now) in
    let judged = c.in_err-found.ensures in
    rw judged.same_locks (serves_exit lock_method lock_sound (settings_by g.F.GuardedFileSystem.seen c.args.self.now) c.args.request.now _ _ _ _ _ (lawful g.F.GuardedFileSystem.seen g.L.DavLockSystem.seen g.met.F.GuardedFileSystem.well_formed g.met.L.DavLockSystem.distinct c.args.self.now) c.from_residual.ensures.1 (judges_new _ c.args.request.now c.requires.body state judged.rules))

pub returns-clause-step : goal.returns-clause-step
returns-clause-step g c =
    let state = state_of (seen_by g.F.GuardedFileSystem.seen g.L.DavLockSystem.seen c.args.self.now) in
    let judged = c.in_ok-found.ensures in
    serves_work lock_method lock_sound (settings_by g.F.GuardedFileSystem.seen c.args.self.now) c.args.request.now _ c.in_ok-found.found _ _ _ _ (lawful g.F.GuardedFileSystem.seen g.L.DavLockSystem.seen g.met.F.GuardedFileSystem.well_formed g.met.L.DavLockSystem.distinct c.args.self.now) (judges_new _ c.args.request.now c.requires.body state judged.rules)
    (works_new _ c.args.request.now c.requires.body c.args.self.now.profile c.in_ok-found.found _ _ _ (rw (ap (λ f. f.1.3) judged.same_engine, judged.same_locks) at c.grant_lock.ensures.work))
