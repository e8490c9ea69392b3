use Rattle.std.proofs.Common.{ℕ, List, ◌++◌, length}
use Rattle.dav_script.specs.Escape.{StandsFor, IsFaulty}
use Rattle.dav_script.proofs.directive.unescape.Given as goal

abbrev pub invariant-loop-rest : goal.invariant-loop-rest
invariant-loop-rest l = record {
  stands : (more : List ℕ) → StandsFor l.rest more → StandsFor l.text (l.bytes.items ++ more);
  faulty : IsFaulty l.rest → IsFaulty l.text;
}

abbrev pub decreases-loop-rest : goal.decreases-loop-rest
decreases-loop-rest l = length l.rest
