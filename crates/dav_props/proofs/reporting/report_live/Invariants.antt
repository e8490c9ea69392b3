use Rattle.std.proofs.Common.{◌≡◌, map, take}
use Rattle.dav_props.specs.Update.{change_of, live_made}
use Rattle.dav_props.proofs.reporting.report_live.Given as goal

-- those of the changes so far
abbrev pub invariant-loop-change : goal.invariant-loop-change
invariant-loop-change l = l.reported.items ≡ live_made (map change_of (take l.change-index l.changes))
