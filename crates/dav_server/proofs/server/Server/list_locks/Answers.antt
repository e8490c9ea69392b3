use Rattle.std.proofs.Common.{refl, ap, ◌∙◌, map, inl, inr}
use Rattle.dav_wire.specs.Replies.{Failed, Locks}
use Rattle.dav_server.specs.Events as events
use Rattle.dav_server.specs.Operating.{lock_value, locks_in}
use Rattle.dav_server.specs.State.{state_of}
use Rattle.dav_server.proofs.Reactions.{reacts}
use Rattle.dav_server.proofs.server.Server.list_locks.Goals as goal

pub returns-in_default : goal.returns-in_default
returns-in_default g c = record { reacts = reacts _ _ _ _ _ _ _ (events.LocksListed (Failed 507)) _ refl (refl, inr refl) c.failed.ensures c.encode.ensures }

pub returns-in-Ok-lock_frames : goal.returns-in-Ok-lock_frames
returns-in-Ok-lock_frames g c =
    let all = locks_in (state_of g.F.GuardedFileSystem.seen g.L.DavLockSystem.seen c.args.self.now) in
    let shown = (c.in-Ok-lock_frames.ensures {u = tt}) ∙ ap (map lock_value) (c.as_slice.ensures ∙ (c.in-Ok.ensures {u = tt})) in
    record { reacts = reacts _ _ _ _ _ _ _ (events.LocksListed (Locks (map lock_value all))) _ refl (refl, inl refl) (ap Locks shown) c.encode-in-Ok-lock_frames.ensures }

pub returns : goal.returns
returns g c = record { reacts = reacts _ _ _ _ _ _ _ (events.LocksListed (Failed 507)) _ refl (refl, inr refl) c.failed-in-Err.ensures c.encode-in-Err.ensures }
