use Rattle.dav_cells.proofs.KeyLemmas.{KeyRead}
use Rattle.dav_cells.proofs.paths.read_key.Given as goal

abbrev pub invariant-loop-left : goal.invariant-loop-left
invariant-loop-left l = KeyRead l.fn.reader l.key l.left l.reader

abbrev pub decreases-loop-left : goal.decreases-loop-left
decreases-loop-left l = l.left
