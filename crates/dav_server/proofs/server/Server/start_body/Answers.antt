use Rattle.std.proofs.Common.{refl}
use Rattle.dav_server.specs.Events as events
use Rattle.dav_server.specs.State.{state_of}
use Rattle.dav_server.proofs.Reactions.{reacts, starts}
use Rattle.dav_server.proofs.server.Server.start_body.Goals as goal

pub returns-clause-reacts : goal.returns-clause-reacts
returns-clause-reacts g c =
    let state = state_of g.F.GuardedFileSystem.seen g.L.DavLockSystem.seen c.args.self.now in
    reacts _ _ _ _ _ _ _ (events.BodyStarted c.start_body-begun.result) _ refl (starts state _ _ _ c.start_body-begun.ensures.inner) c.started-reply.ensures c.encode.ensures
