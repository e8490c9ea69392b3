use Rattle.std.proofs.Common.{◌≡◌, map, take}
use Rattle.dav_props.specs.Property.{bare}
use Rattle.dav_find.proofs.reporting.report_names.Given as goal

-- those so far
abbrev pub invariant-loop-element : goal.invariant-loop-element
invariant-loop-element l = l.reported.items ≡ map (λ element. (200, bare element)) (take l.element-index l.kept)
