use Rattle.dav_server.proofs.KeptRuns.{keeps_now, keeps_either}
use Rattle.dav_server.proofs.server.Server.keep.Goals as goal

pub returns-clause-kept : goal.returns-clause-kept
returns-clause-kept g c =
    let e = c.keep_lent.ensures in
    keeps_now g.F.GuardedFileSystem.seen g.K.Keeper.lasts g.K.Keeper.same c.keep_lent.result c.args.keeper.now c.keep_lent.new.keeper c.args.self.now
    (record c.args.self.now { engine = c.keep_lent.new.engine }) e.locks e.there e.ok

pub returns-clause-either : goal.returns-clause-either
returns-clause-either g c =
    let e = c.keep_lent.ensures in
    keeps_either g.F.GuardedFileSystem.seen g.K.Keeper.lasts g.K.Keeper.lasts_either c.keep_lent.result c.args.keeper.now c.keep_lent.new.keeper c.args.self.now
    (record c.args.self.now { engine = c.keep_lent.new.engine }) e.locks e.err
