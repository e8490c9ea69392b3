use Rattle.std.proofs.Common.{rules, sym, subst}
use Rattle.dav_keep.proofs.Reaches.{piece_below, piece_higher, end_first, end_next, end_none, end_all}
use Rattle.dav_keep.specs.Ends.{ArePiecesBelow, FindsEnd}
use Rattle.dav_keep.proofs.ends.end_of_pieces.Goals as goal

pub pieces-init : goal.pieces-init
pieces-init c = end_first piece_below piece_higher c.args.pieces.now

pub returns-in_err-end_of_piece : goal.returns-in_err-end_of_piece
returns-in_err-end_of_piece c =
    subst (FindsEnd (ArePiecesBelow c.args.pieces.now)) (sym c.from_residual.ensures)
    (end_none piece_below piece_higher c.args.pieces.now c.pieces.piece-index _ c.pieces-test.true c.in_err-end_of_piece.ensures)

pub pieces-preserved : goal.pieces-preserved
pieces-preserved c =
    end_next piece_below piece_higher c.args.pieces.now c.pieces.piece-index c.pieces.end c.in_ok-end_of_piece.field-0 c.max-end.result _ c.pieces-test.true
    c.pieces.invariant c.in_ok-end_of_piece.ensures (search rules)

pub returns : goal.returns
returns c = end_all piece_below piece_higher c.args.pieces.now c.pieces.piece-index c.pieces.end c.pieces-test.false c.pieces.invariant
