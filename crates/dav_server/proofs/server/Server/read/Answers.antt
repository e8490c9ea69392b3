use Rattle.dav_server.proofs.PartReads.{read_fails}
use Rattle.dav_server.proofs.server.Server.read.Goals as goal

pub returns-in-Err-clause-failed : goal.returns-in-Err-clause-failed
returns-in-Err-clause-failed g c =
    let read = c.in-Err.ensures {u = tt} in
    rw c.statuscode.ensures
    (read_fails g.F.GuardedFileSystem.seen g.F.GuardedFileSystem.reads c.args.self.now.engine.fs.now c.read_bytes.new.self c.args.path.now c.args.place _ c.in-Err.error read.guarded read.passed)
