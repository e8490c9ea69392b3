use Rattle.std.proofs.Common.{◌≡◌, ◌++◌, drop}
use Rattle.dav_space.specs.Gaps.{gaps_of}
use Rattle.dav_space.proofs.gaps.gaps_between.Given as goal

abbrev pub invariant-loop-range : goal.invariant-loop-range
invariant-loop-range l = l.gaps.items ++ gaps_of l.end (drop l.range-index l.used) ≡ gaps_of 0 l.used
