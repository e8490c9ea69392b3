use Rattle.dav_server.proofs.PartReads.{look_fails}
use Rattle.dav_server.proofs.server.Server.look.Goals as goal

pub returns-in-Err-clause-failed : goal.returns-in-Err-clause-failed
returns-in-Err-clause-failed g c =
    rw c.statuscode.ensures
    (look_fails g.F.GuardedFileSystem.seen c.args.self.now.engine.fs.now c.metadata.new.self c.args.path.now c.in-Err.error (c.in-Err.ensures {u = tt}).guarded)
