use Rattle.std.proofs.Common.{◌∙◌, refl}
use Rattle.dav_server.specs.State.{rules_of}
use Rattle.dav_server.proofs.KeptRuns.{keeps_none, keeps_more, keeps_end, stops_after, stops_at_last}
use Rattle.dav_server.proofs.server.Server.serve_kept.Goals as goal

pub returns-in_err-exchange_kept-clause-stopped : goal.returns-in_err-exchange_kept-clause-stopped
returns-in_err-exchange_kept-clause-stopped g c =
    let so_far = c.loop.invariant in
    stops_after g.F.GuardedFileSystem.seen g.L.DavLockSystem.seen g.F.GuardedFileSystem.reads (rules_of c.args.self.now)
    g.K.Keeper.lasts g.K.Keeper.lasts_either g.K.Keeper.same g.met.K.Keeper.same_as
    c.from_residual.result c.args.keeper.now c.loop.keeper c.exchange_kept.new.keeper c.args.self.now c.loop.self c.exchange_kept.new.self _ _ _ _ _
    so_far.run (rw so_far.same at c.in_err-exchange_kept.ensures.stopped)

pub loop-init : goal.loop-init
loop-init g c =
    record {
      same = refl;
      loans = refl;
      follows = g.met.K.Keeper.follows_same c.args.keeper.now;
      run = keeps_none g.F.GuardedFileSystem.seen g.L.DavLockSystem.seen g.F.GuardedFileSystem.reads (rules_of c.args.self.now)
          g.K.Keeper.lasts g.K.Keeper.same g.met.K.Keeper.same_as c.args.keeper.now c.args.self.now (g.R.Read.remaining c.args.input.now) (g.W.Write.contents c.args.output.now);
    }

pub loop-preserved : goal.loop-preserved
loop-preserved g c =
    let so_far = c.loop.invariant in
    let more = c.in_ok-exchange_kept.ensures.served c.if-not-branch.false in
    record {
      same = c.in_ok-exchange_kept.ensures.rules ∙ so_far.same;
      loans = c.in_ok-exchange_kept.ensures.loans ∙ so_far.loans;
      follows = g.met.K.Keeper.follows_both c.args.keeper.now c.loop.keeper c.exchange_kept.new.keeper so_far.follows c.in_ok-exchange_kept.ensures.follows;
      run = keeps_more g.F.GuardedFileSystem.seen g.L.DavLockSystem.seen g.F.GuardedFileSystem.reads (rules_of c.args.self.now)
          g.K.Keeper.lasts g.K.Keeper.same g.met.K.Keeper.same_as c.args.keeper.now c.loop.keeper c.exchange_kept.new.keeper c.args.self.now c.loop.self c.exchange_kept.new.self _ _ _ _ _ _
          so_far.run (rw so_far.same at more) c.in_ok-exchange_kept.ensures.kept;
    }

pub returns-clause-stopped : goal.returns-clause-stopped
returns-clause-stopped g c =
    stops_at_last g.F.GuardedFileSystem.seen g.L.DavLockSystem.seen g.F.GuardedFileSystem.reads (rules_of c.args.self.now)
    g.K.Keeper.lasts g.K.Keeper.lasts_either g.K.Keeper.same g.met.K.Keeper.same_as
    c.args.keeper.now c.loop.keeper c.args.self.now c.loop.self _ _ _ _ c.loop.invariant.run g.met.K.Keeper.as_first

pub returns-then-not-branch-clause-ran : goal.returns-then-not-branch-clause-ran
returns-then-not-branch-clause-ran g c =
    keeps_end g.F.GuardedFileSystem.seen g.L.DavLockSystem.seen g.F.GuardedFileSystem.reads (rules_of c.args.self.now)
    g.K.Keeper.lasts g.K.Keeper.same g.met.K.Keeper.same_as c.args.keeper.now c.loop.keeper c.exchange_kept.new.keeper c.args.self.now c.loop.self c.exchange_kept.new.self _ _ _ _ _ _
    c.loop.invariant.run (c.in_ok-exchange_kept.ensures.ended c.if-not-branch.true) c.in_ok-exchange_kept.ensures.kept
