use Rattle.std.proofs.Common.{refl, ap, ◌∙◌}
use Rattle.dav_resource.specs.Errors.{dav_status}
use Rattle.dav_wire.specs.Replies.{Done, Failed}
use Rattle.dav_wire.specs.Views.{unlock_frame_of}
use Rattle.dav_server.specs.Events as events
use Rattle.dav_server.specs.Operating.{lock_status_of}
use Rattle.dav_server.proofs.OperatorSteps.{removes_nothing, removes_lock, keeps_lock}
use Rattle.dav_server.proofs.Reactions.{reacts}
use Rattle.dav_server.proofs.server.Server.remove_lock.Goals as goal

pub returns-in-Err-clause-reacts : goal.returns-in-Err-clause-reacts
returns-in-Err-clause-reacts g c =
    let asked = unlock_frame_of c.args.asked in
    let e = c.in-Err.error in
    reacts _ _ _ _ _ _ _ (events.LockRemoved asked (Failed (dav_status e))) _ refl
    (removes_nothing _ asked _ e (rw c.prefix.ensures at (c.in-Err.ensures {u = tt})))
    (c.failed.ensures ∙ ap Failed c.statuscode.ensures) c.encode.ensures

pub returns-in-Ok-unlock-clause-reacts : goal.returns-in-Ok-unlock-clause-reacts
returns-in-Ok-unlock-clause-reacts g c =
    let asked = unlock_frame_of c.args.asked in
    reacts _ _ _ _ _ _ _ (events.LockRemoved asked Done) _ refl
    (removes_lock _ asked c.in-Ok.path _ _ c.in-Ok-unlock.field-0 (rw c.prefix.ensures at (c.in-Ok.ensures {u = tt})) (c.in-Ok-unlock.ensures {u = tt}).removed)
    refl c.encode-in-Ok-unlock.ensures

pub returns-clause-reacts : goal.returns-clause-reacts
returns-clause-reacts g c =
    let asked = unlock_frame_of c.args.asked in
    let e = c.in-Err-unlock.error in
    reacts _ _ _ _ _ _ _ (events.LockRemoved asked (Failed (lock_status_of e))) _ refl
    (keeps_lock _ asked c.in-Ok.path _ _ e (rw c.prefix.ensures at (c.in-Ok.ensures {u = tt})) (c.in-Err-unlock.ensures {u = tt}).removed)
    (c.failed-in-Err-unlock.ensures ∙ ap Failed c.lock_status.ensures) c.encode-in-Err-unlock.ensures
