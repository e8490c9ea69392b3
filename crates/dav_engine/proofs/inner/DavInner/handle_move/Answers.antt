use Rattle.std.proofs.Common.{ap}
use Rattle.dav_engine.specs.DavInner.{lent, seen_by, settings_by}
use Rattle.dav_engine.specs.Methods.{move_method}
use Rattle.dav_engine.specs.State.{state_of}
use Rattle.dav_engine.proofs.Passing.{move_passed}
use Rattle.dav_engine.proofs.Running.{lawful}
use Rattle.dav_engine.proofs.Serving.{move_sound, serves_exit, serves_work}
use Rattle.dav_engine.proofs.inner.DavInner.handle_move.Goals as goal

pub returns-in_err-found-clause-step : goal.returns-in_err-found-clause-step
returns-in_err-found-clause-step g c =
    let judged = c.in_err-found.ensures in
    rw judged.same_locks (serves_exit move_method move_sound (settings_by g.F.GuardedFileSystem.seen c.args.self.now) c.args.request.now _ _ _ _ _ (lawful g.F.GuardedFileSystem.seen g.L.DavLockSystem.seen g.met.F.GuardedFileSystem.well_formed g.met.L.DavLockSystem.distinct c.args.self.now) c.from_residual.ensures.1 judged.rules)

pub move_found-requires : goal.move_found-requires
move_found-requires g c =
    let state = state_of (seen_by g.F.GuardedFileSystem.seen g.L.DavLockSystem.seen c.args.self.now) in
    let judged = c.in_ok-found.ensures in
    rw judged.rules.same ((move_passed (settings_by g.F.GuardedFileSystem.seen c.args.self.now) c.args.request.now state judged.rules.records c.in_ok-found.found judged.rules.ends).may (g.met.F.GuardedFileSystem.well_formed (lent c.args.self.now)))

pub returns-clause-step : goal.returns-clause-step
returns-clause-step g c =
    let judged = c.in_ok-found.ensures in
    serves_work move_method move_sound (settings_by g.F.GuardedFileSystem.seen c.args.self.now) c.args.request.now _ c.in_ok-found.found _ _ _ _ (lawful g.F.GuardedFileSystem.seen g.L.DavLockSystem.seen g.met.F.GuardedFileSystem.well_formed g.met.L.DavLockSystem.distinct c.args.self.now) judged.rules (rw (ap (λ f. f.1.3) judged.same_engine, judged.same_locks) at c.move_found.ensures.work)
