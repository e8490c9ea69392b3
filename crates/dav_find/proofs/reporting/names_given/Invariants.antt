use Rattle.std.proofs.Common.{map, take}
use Rattle.dav_find.specs.Finding.{finding_of}
use Rattle.dav_find.specs.Names.{AreNamesOf}
use Rattle.dav_find.specs.Reporting.{given_in}
use Rattle.dav_find.proofs.reporting.names_given.Given as goal

-- those so far
abbrev pub invariant-loop-one : goal.invariant-loop-one
invariant-loop-one l = AreNamesOf l.names.names (given_in (map finding_of (take l.one-index l.found)))
