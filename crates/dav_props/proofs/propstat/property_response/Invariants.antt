use Rattle.std.proofs.Common.{◌≡◌}
use Rattle.dav_props.specs.Propstat.{property_response}
use Rattle.dav_props.proofs.Grouping.{seen_groups}
use Rattle.dav_props.proofs.propstat.property_response.Given as goal

-- the groups so far
abbrev pub invariant-loop-status : goal.invariant-loop-status
invariant-loop-status l = l.response ≡ property_response l.fn.profile l.path (seen_groups l.yielded)
