use Rattle.std.proofs.Common.{◌≡◌, map, take}
use Rattle.std.specs.Prelude.{filter}
use Rattle.dav_props.specs.Property.{bare}
use Rattle.dav_props.specs.Update.{Change, change_of, is_dead}
use Rattle.dav_props.proofs.reporting.dead_elements.Given as goal

-- those of the changes so far
abbrev pub invariant-loop-change : goal.invariant-loop-change
invariant-loop-change l = l.elements.items ≡ map (λ (change : Change). bare change.element) (filter is_dead (map change_of (take l.change-index l.changes)))
