use Rattle.std.proofs.Common.{◌≡◌}
use Rattle.dav_server.specs.Exchanges.{Runs}
use Rattle.dav_server.specs.State.{rules_of, loans_of, state_of}
use Rattle.dav_server.proofs.server.Server.serve.Given as goal

abbrev pub invariant-loop : goal.invariant-loop
invariant-loop g l =
    (rules_of l.self ≡ rules_of l.fn.self)
    × (loans_of l.self ≡ loans_of l.fn.self)
    × Runs g.F.GuardedFileSystem.seen g.F.GuardedFileSystem.reads (rules_of l.fn.self)
    (state_of g.F.GuardedFileSystem.seen g.L.DavLockSystem.seen l.fn.self) (state_of g.F.GuardedFileSystem.seen g.L.DavLockSystem.seen l.self)
    (g.R.Read.remaining l.fn.input) (g.R.Read.remaining l.input) (g.W.Write.contents l.fn.output) (g.W.Write.contents l.output)
