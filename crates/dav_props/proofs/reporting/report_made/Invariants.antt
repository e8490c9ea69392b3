use Rattle.std.proofs.Common.{◌≡◌, ◌++◌, ℕ, map, Bor}
use Rattle.dav_resource.specs.Tree.{Tree}
use Rattle.dav_props.specs.Update.{change_of, live_made}
use Rattle.dav_props.proofs.reporting.report_made.Given as goal

-- the live ones, and the dead ones so far
abbrev pub invariant-loop-status : goal.invariant-loop-status
invariant-loop-status l = l.reported.items ≡ live_made (map change_of l.changes) ++ map (λ (p : Bor ℕ × Tree). (p.0.now, p.1)) l.yielded
