use Rattle.std.proofs.Common.{refl, ap, ◌∙◌}
use Rattle.dav_resource.specs.Errors.{dav_status, fs_status}
use Rattle.dav_wire.specs.Replies.{Done, Failed}
use Rattle.dav_wire.specs.Views.{modified_frame_of}
use Rattle.dav_server.specs.Events as events
use Rattle.dav_server.specs.State.{state_of}
use Rattle.dav_server.proofs.OperatorSteps.{changes_nothing, changes_time, keeps_time}
use Rattle.dav_server.proofs.Reactions.{reacts}
use Rattle.dav_server.proofs.server.Server.set_modified.Goals as goal

pub returns-in-Err-clause-reacts : goal.returns-in-Err-clause-reacts
returns-in-Err-clause-reacts g c =
    let asked = modified_frame_of c.args.asked in
    let e = c.in-Err.error in
    reacts _ _ _ _ _ _ _ (events.ModifiedSet asked (Failed (dav_status e))) _ refl
    (changes_nothing _ asked _ e (rw c.prefix.ensures at (c.in-Err.ensures {u = tt})))
    (c.failed.ensures ∙ ap Failed c.statuscode.ensures) c.encode.ensures

pub returns-in-Ok-set_modified-clause-reacts : goal.returns-in-Ok-set_modified-clause-reacts
returns-in-Ok-set_modified-clause-reacts g c =
    let asked = modified_frame_of c.args.asked in
    let state = state_of g.F.GuardedFileSystem.seen g.L.DavLockSystem.seen c.args.self.now in
    reacts _ _ _ _ _ _ _ (events.ModifiedSet asked Done) _ refl
    (changes_time _ asked c.in-Ok.path state _ _ (rw c.prefix.ensures at (c.in-Ok.ensures {u = tt})) (rw c.inner_mut.ensures.inner at (c.in-Ok-set_modified.ensures {u = tt}).ok))
    refl c.encode-in-Ok-set_modified.ensures

pub returns-clause-reacts : goal.returns-clause-reacts
returns-clause-reacts g c =
    let asked = modified_frame_of c.args.asked in
    let state = state_of g.F.GuardedFileSystem.seen g.L.DavLockSystem.seen c.args.self.now in
    let e = c.in-Err-set_modified.error in
    let failed = c.in-Err-set_modified.ensures {u = tt} in
    reacts _ _ _ _ _ _ _ (events.ModifiedSet asked (Failed (fs_status e))) _ refl
    (keeps_time _ asked c.in-Ok.path state _ _ e (rw c.prefix.ensures at (c.in-Ok.ensures {u = tt})) (rw c.inner_mut.ensures.inner at failed.err) (rw c.inner_mut.ensures.inner at failed.cause))
    (c.failed-in-Err-set_modified.ensures ∙ ap Failed c.statuscode-in-Err-set_modified.ensures) c.encode-in-Err-set_modified.ensures
