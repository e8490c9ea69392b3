use Rattle.std.proofs.Common.{take}
use Rattle.dav_wire.proofs.WriteLemmas.{Run}
use Rattle.dav_cells.specs.Pieces.{piece_codec}
use Rattle.dav_cells.proofs.pieces.encode_pieces.Given as goal

abbrev pub invariant-loop-piece : goal.invariant-loop-piece
invariant-loop-piece l = Run piece_codec (take l.piece-index l.pieces) l.initial.writer l.writer
