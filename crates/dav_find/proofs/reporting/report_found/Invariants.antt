use Rattle.std.proofs.Common.{◌≡◌, map}
use Rattle.std.specs.List.{flat_map}
use Rattle.dav_find.specs.Finding.{finding_of}
use Rattle.dav_find.specs.Reporting.{report_one}
use Rattle.dav_find.proofs.reporting.report_found.Given as goal

-- of those so far
abbrev pub invariant-loop-one : goal.invariant-loop-one
invariant-loop-one l = l.reported.items ≡ flat_map (report_one l.stored) (map finding_of l.yielded)
