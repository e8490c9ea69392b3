use Rattle.std.proofs.Common.{◌≡◌, length}
use Rattle.dav_resource.specs.PathText.{has_whole_escapes}
use Rattle.dav_resource.proofs.path.read.has_whole_escapes.Given as goal

abbrev pub invariant-loop-rest : goal.invariant-loop-rest
invariant-loop-rest l = has_whole_escapes l.rest ≡ has_whole_escapes l.part

abbrev pub decreases-loop-rest : goal.decreases-loop-rest
decreases-loop-rest l = length l.rest
