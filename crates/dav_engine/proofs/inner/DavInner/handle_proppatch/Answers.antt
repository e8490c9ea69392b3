use Rattle.std.proofs.Common.{◌≡◌, ◌∙◌, true, false, sym, ap, map}
use Rattle.dav_props.specs.Groups.{groups_of}
use Rattle.dav_props.specs.Propstat.{grouped}
use Rattle.dav_props.specs.Update.{change_of, some_refused, failed_report}
use Rattle.dav_engine.specs.DavInner.{lent, seen_by, settings_by}
use Rattle.dav_engine.specs.Methods.{proppatch_method}
use Rattle.dav_engine.specs.Proppatch.{proppatch_reply}
use Rattle.dav_engine.specs.State.{state_of}
use Rattle.dav_engine.proofs.Patching.{judges_unfound, judges_unreadable, judges_untold, reaches_refusal, judges_update}
use Rattle.dav_engine.proofs.Running.{lawful}
use Rattle.dav_engine.proofs.Serving.{proppatch_sound, serves_exit, serves_told, serves_work, performs_on_store}
use Rattle.dav_engine.proofs.inner.DavInner.handle_proppatch.Goals as goal

pub returns-in_err-found-clause-step : goal.returns-in_err-found-clause-step
returns-in_err-found-clause-step g c =
    let keeps = (g.F.GuardedFileSystem.seen (lent c.args.self.now)).facts.keeps_properties in
    let state = state_of (seen_by g.F.GuardedFileSystem.seen g.L.DavLockSystem.seen c.args.self.now) in
    let judged = c.in_err-found.ensures in
    rw judged.same_locks (serves_exit proppatch_method proppatch_sound (settings_by g.F.GuardedFileSystem.seen c.args.self.now) c.args.request.now _ _ _ _ _ (lawful g.F.GuardedFileSystem.seen g.L.DavLockSystem.seen g.met.F.GuardedFileSystem.well_formed g.met.L.DavLockSystem.distinct c.args.self.now) c.from_residual.ensures.1 (judges_unfound c.args.self.now.profile keeps c.args.request.now state _ _ _ judged.rules))

pub returns-in_err-changes-clause-step : goal.returns-in_err-changes-clause-step
returns-in_err-changes-clause-step g c =
    let keeps = (g.F.GuardedFileSystem.seen (lent c.args.self.now)).facts.keeps_properties in
    let state = state_of (seen_by g.F.GuardedFileSystem.seen g.L.DavLockSystem.seen c.args.self.now) in
    let judged = c.in_ok-found.ensures in
    let read = rw (ap (λ f. f.1.3) judged.same_engine, c.have_props.ensures, judged.rules.fixed) at c.in_err-changes.ensures.given in
    rw judged.same_locks (serves_exit proppatch_method proppatch_sound (settings_by g.F.GuardedFileSystem.seen c.args.self.now) c.args.request.now _ _ _ _ _ (lawful g.F.GuardedFileSystem.seen g.L.DavLockSystem.seen g.met.F.GuardedFileSystem.well_formed g.met.L.DavLockSystem.distinct c.args.self.now) c.from_residual-in_err-changes.ensures.1 (judges_unreadable c.args.self.now.profile keeps c.args.request.now state _ _ c.in_ok-found.found judged.rules _ read))

pub returns-in_err-groups-clause-step : goal.returns-in_err-groups-clause-step
returns-in_err-groups-clause-step g c =
    let keeps = (g.F.GuardedFileSystem.seen (lent c.args.self.now)).facts.keeps_properties in
    let state = state_of (seen_by g.F.GuardedFileSystem.seen g.L.DavLockSystem.seen c.args.self.now) in
    let judged = c.in_ok-found.ensures in
    let read = rw (ap (λ f. f.1.3) judged.same_engine, c.have_props.ensures, judged.rules.fixed) at c.in_ok-changes.ensures.given in
    rw judged.same_locks (serves_exit proppatch_method proppatch_sound (settings_by g.F.GuardedFileSystem.seen c.args.self.now) c.args.request.now _ _ _ _ _ (lawful g.F.GuardedFileSystem.seen g.L.DavLockSystem.seen g.met.F.GuardedFileSystem.well_formed g.met.L.DavLockSystem.distinct c.args.self.now) c.from_residual-in_err-groups.ensures.1 (judges_untold c.args.self.now.profile keeps c.args.request.now state _ _ c.in_ok-found.found judged.rules _ read))

pub returns-then-some_refused-clause-step : goal.returns-then-some_refused-clause-step
returns-then-some_refused-clause-step g c =
    let keeps = (g.F.GuardedFileSystem.seen (lent c.args.self.now)).facts.keeps_properties in
    let state = state_of (seen_by g.F.GuardedFileSystem.seen g.L.DavLockSystem.seen c.args.self.now) in
    let judged = c.in_ok-found.ensures in
    let read = rw (ap (λ f. f.1.3) judged.same_engine, c.have_props.ensures, judged.rules.fixed) at c.in_ok-changes.ensures.given in
    let is : some_refused (map change_of c.as_slice.result.now) ≡ true = sym c.some_refused.ensures ∙ c.if-some_refused.true in
    let refused = rw c.as_slice.ensures.value at is in
    let groups = grouped (failed_report (map change_of c.in_ok-changes.changes.items)) in
    let are : groups_of c.in_ok-groups.groups ≡ groups = rw c.as_slice-then-some_refused.ensures.value at c.in_ok-groups.ensures.groups in
    let recorded = rw (ap (λ f. f.1.3) judged.same_engine, are) at c.proppatch_reply.ensures.ok in
    rw judged.same_locks
    (serves_told proppatch_method proppatch_sound (settings_by g.F.GuardedFileSystem.seen c.args.self.now) c.args.request.now _ _ _ (proppatch_reply c.args.self.now.profile c.args.request.now.path c.in_ok-found.found groups) c.proppatch_reply.result (lawful g.F.GuardedFileSystem.seen g.L.DavLockSystem.seen g.met.F.GuardedFileSystem.well_formed g.met.L.DavLockSystem.distinct c.args.self.now) recorded c.proppatch_reply.ensures.err
    (reaches_refusal c.args.self.now.profile keeps c.args.request.now state _ _ c.in_ok-found.found judged.rules _ read refused) (judges_untold c.args.self.now.profile keeps c.args.request.now state _ _ c.in_ok-found.found judged.rules _ read))

pub returns-clause-step : goal.returns-clause-step
returns-clause-step g c =
    let keeps = (g.F.GuardedFileSystem.seen (lent c.args.self.now)).facts.keeps_properties in
    let state = state_of (seen_by g.F.GuardedFileSystem.seen g.L.DavLockSystem.seen c.args.self.now) in
    let judged = c.in_ok-found.ensures in
    let read = rw (ap (λ f. f.1.3) judged.same_engine, c.have_props.ensures, judged.rules.fixed) at c.in_ok-changes.ensures.given in
    let is : some_refused (map change_of c.as_slice.result.now) ≡ false = sym c.some_refused.ensures ∙ c.if-some_refused.false in
    let none = rw c.as_slice.ensures.value at is in
    let work = rw (ap (λ f. f.1.3) judged.same_engine, c.as_slice-2.ensures.value, judged.rules.fixed) at c.patch_found.ensures.work in
    rw (c.patch_found.ensures.same_locks, judged.same_locks)
    (serves_work proppatch_method proppatch_sound (settings_by g.F.GuardedFileSystem.seen c.args.self.now) c.args.request.now _ (c.in_ok-found.found, map change_of c.in_ok-changes.changes.items) _ _ _ _ (lawful g.F.GuardedFileSystem.seen g.L.DavLockSystem.seen g.met.F.GuardedFileSystem.well_formed g.met.L.DavLockSystem.distinct c.args.self.now)
    (judges_update c.args.self.now.profile keeps c.args.request.now state _ _ c.in_ok-found.found judged.rules _ read none) (performs_on_store _ _ _ _ work))
