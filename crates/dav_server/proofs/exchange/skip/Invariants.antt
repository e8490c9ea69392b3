use Rattle.std.proofs.Common.{◌-◌, ◌≤◌}
use Rattle.dav_server.specs.Exchanges.{Skips}
use Rattle.dav_server.proofs.exchange.skip.Given as goal

abbrev pub invariant-loop-left : goal.invariant-loop-left
invariant-loop-left g l =
    (l.left ≤ l.count) × Skips (g.R.Read.remaining l.fn.input) (g.R.Read.remaining l.input) (l.count - l.left)

abbrev pub decreases-loop-left : goal.decreases-loop-left
decreases-loop-left g l = l.left
