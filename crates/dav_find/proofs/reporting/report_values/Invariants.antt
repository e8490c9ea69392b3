use Rattle.std.proofs.Common.{◌≡◌, map, take}
use Rattle.std.specs.Prelude.{filter, not}
use Rattle.dav_find.specs.Asked.{is_among}
use Rattle.dav_find.specs.Finding.{finding_of}
use Rattle.dav_find.specs.Reporting.{given_in}
use Rattle.dav_find.proofs.reporting.report_values.Given as goal

-- those so far
abbrev pub invariant-loop-element : goal.invariant-loop-element
invariant-loop-element l = l.reported.items ≡ map (λ element. (200, element)) (filter (λ element. not (is_among element (given_in (map finding_of l.found)))) (take l.element-index l.kept))
