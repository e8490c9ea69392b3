use Rattle.dav_cells.proofs.PieceReads.{PiecesSoFar}
use Rattle.dav_cells.proofs.pieces.append_decoded.Given as goal

abbrev pub invariant-loop-left : goal.invariant-loop-left
invariant-loop-left l = PiecesSoFar l.fn.bytes l.fn.into.items l.into.items l.left l.reader

abbrev pub decreases-loop-left : goal.decreases-loop-left
decreases-loop-left l = l.left
