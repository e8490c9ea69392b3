use Rattle.dav_keep.proofs.Reaches.{IsEndOf, piece_below, piece_higher}
use Rattle.dav_keep.proofs.ends.end_of_pieces.Given as goal

abbrev pub invariant-pieces : goal.invariant-pieces
invariant-pieces l = IsEndOf piece_below piece_higher l.pieces l.piece-index l.end
