use Rattle.dav_props.specs.Groups.{AreStatuses}
use Rattle.dav_props.proofs.Grouping.{IsGrouping}
use Rattle.dav_props.proofs.propstat.group_by_status.Given as goal

-- the properties so far
abbrev pub invariant-loop-status : goal.invariant-loop-status
invariant-loop-status l = record { grouping : IsGrouping l.yielded l.groups; statuses : AreStatuses l.groups }
