use Rattle.std.proofs.Common.{take}
use Rattle.dav_find.specs.Names.{AreNamesOf}
use Rattle.dav_find.proofs.reporting.names_of.Given as goal

-- those so far
abbrev pub invariant-loop-element : goal.invariant-loop-element
invariant-loop-element l = AreNamesOf l.names.names (take l.element-index l.elements)
