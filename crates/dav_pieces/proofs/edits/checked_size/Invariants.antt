use Rattle.std.proofs.Common.{◌≡◌, ◌<◌, ◌^◌, take, true}
use Rattle.dav_pieces.specs.Pieces.{size_of, are_within}
use Rattle.dav_pieces.proofs.edits.checked_size.Given as goal

abbrev pub invariant-loop-piece : goal.invariant-loop-piece
invariant-loop-piece l = record {
  size : l.size ≡ size_of (take l.piece-index l.pieces);
  within : are_within (take l.piece-index l.pieces) ≡ true;
  fits : l.size < 2 ^ 63;
}
