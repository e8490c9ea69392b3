use Rattle.std.proofs.Common.{◌≡◌, ◌++◌, map, take}
use Rattle.std.specs.Prelude.{filter, not}
use Rattle.dav_props.specs.Update.{change_of, is_dead, failed}
use Rattle.dav_props.proofs.reporting.report_failed.Given as goal

-- the live ones so far
abbrev pub invariant-loop-change : goal.invariant-loop-change
invariant-loop-change l = l.reported.items ≡ map failed (filter (λ change. not (is_dead change)) (map change_of (take l.change-index l.changes)))

-- all live ones, and the dead ones so far
abbrev pub invariant-loop-change-2 : goal.invariant-loop-change-2
invariant-loop-change-2 l =
    l.reported.items
    ≡ map failed (filter (λ change. not (is_dead change)) (map change_of l.changes)) ++ map failed (filter is_dead (map change_of (take l.change-index l.changes)))
