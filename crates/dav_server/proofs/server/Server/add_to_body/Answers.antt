use Rattle.std.proofs.Common.{Ok, Err, refl, ap, ◌∙◌}
use Rattle.dav_wire.specs.Replies.{Failed}
use Rattle.dav_server.specs.Events as events
use Rattle.dav_server.specs.State.{state_of}
use Rattle.dav_server.proofs.Reactions.{reacts, extends, fails_to_extend}
use Rattle.dav_server.proofs.server.Server.add_to_body.Goals as goal

pub returns-in-Ok-clause-reacts : goal.returns-in-Ok-clause-reacts
returns-in-Ok-clause-reacts g c =
    let state = state_of g.F.GuardedFileSystem.seen g.L.DavLockSystem.seen c.args.self.now in
    reacts _ _ _ _ _ _ _ (events.BodyExtended c.args.number c.args.bytes.now (Ok tt)) _ refl
    (extends state _ _ _ _ _ (c.in-Ok.ensures {u = tt}).inner) refl c.encode.ensures

pub returns-in-Err-clause-reacts : goal.returns-in-Err-clause-reacts
returns-in-Err-clause-reacts g c =
    let state = state_of g.F.GuardedFileSystem.seen g.L.DavLockSystem.seen c.args.self.now in
    reacts _ _ _ _ _ _ _ (events.BodyExtended c.args.number c.args.bytes.now (Err c.in-Err.error)) _ refl
    (fails_to_extend state _ _ _ _ _ _ (c.in-Err.ensures {u = tt}).inner c.drop_body.ensures.inner) (c.failed.ensures ∙ ap Failed c.statuscode.ensures) c.encode-in-Err.ensures
