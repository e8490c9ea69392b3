use Rattle.std.proofs.Common.{◌≡◌, take}
use Rattle.dav_pieces.specs.Pieces.{size_of}
use Rattle.dav_pieces.proofs.edits.size.Given as goal

abbrev pub invariant-loop-piece : goal.invariant-loop-piece
invariant-loop-piece l = l.size ≡ size_of (take l.piece-index l.pieces)
