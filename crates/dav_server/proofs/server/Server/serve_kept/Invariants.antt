use Rattle.std.proofs.Common.{◌≡◌}
use Rattle.dav_server.specs.Keeping.{RunsAndKeeps}
use Rattle.dav_server.specs.State.{rules_of, loans_of}
use Rattle.dav_server.proofs.server.Server.serve_kept.Given as goal

abbrev pub invariant-loop : goal.invariant-loop
invariant-loop g l =
    record {
      same : rules_of l.self ≡ rules_of l.fn.self;
      loans : loans_of l.self ≡ loans_of l.fn.self;
      follows : g.K.Keeper.follows l.fn.keeper l.keeper;
      run : RunsAndKeeps g.F.GuardedFileSystem.seen g.L.DavLockSystem.seen g.K.Keeper.lasts g.K.Keeper.same g.F.GuardedFileSystem.reads (rules_of l.fn.self)
          l.fn.keeper l.keeper l.fn.self l.self
          (g.R.Read.remaining l.fn.input) (g.R.Read.remaining l.input) (g.W.Write.contents l.fn.output) (g.W.Write.contents l.output);
    }
