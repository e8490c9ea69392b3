use Rattle.std.proofs.Common.{◌≡◌, ◌≢◌, refl, true, false, [], arith}
use Rattle.dav_wire.specs.Numbers.{number}
use Rattle.dav_wire.proofs.ReadLemmas.{may_allocate}
use Rattle.dav_cells.specs.Pieces.{piece_codec, pieces_codec}
use Rattle.dav_cells.proofs.Exits.{stops_decoding}
use Rattle.dav_cells.proofs.PieceReads.{pieces_begin-fails, pieces_more, pieces_fail, pieces_end, pieces_left}
use Rattle.dav_cells.proofs.pieces.append_decoded.Goals as goal

pub returns-in_err-left-clause-cause : goal.returns-in_err-left-clause-cause
returns-in_err-left-clause-cause c =
    stops_decoding number pieces_codec c.args.bytes.now c.args.bytes.now c.from_residual.result c.in_err-left.field-0.0 c.from_residual.ensures.1
    (pieces_begin-fails c.args.bytes.now) (may_allocate number c.args.bytes.now _ (rw c.new-reader.ensures at c.in_err-left.ensures))

pub loop-left-preserved : goal.loop-left-preserved
loop-left-preserved c =
    rw c.in_ok-push.ensures.items
    (pieces_more c.args.bytes.now c.args.into.now.items c.loop-left.into.items c.loop-left.left c.loop-left.reader c.read_piece.new.reader c.in_ok-piece.piece c.loop-left.invariant c.loop-left-test.true c.in_ok-piece.ensures)

pub returns-in_err-piece-clause-cause : goal.returns-in_err-piece-clause-cause
returns-in_err-piece-clause-cause c =
    stops_decoding piece_codec pieces_codec c.loop-left.reader c.args.bytes.now c.from_residual-in_err-piece.result c.in_err-piece.field-0.0 c.from_residual-in_err-piece.ensures.1
    (pieces_fail c.args.bytes.now c.args.into.now.items c.loop-left.into.items c.loop-left.left c.loop-left.reader c.loop-left.invariant c.loop-left-test.true)
    (may_allocate piece_codec c.loop-left.reader _ c.in_err-piece.ensures)

pub returns-then-is_at_end-clause-ok : goal.returns-then-is_at_end-clause-ok
returns-then-is_at_end-clause-ok c =
    pieces_end c.args.bytes.now c.args.into.now.items c.loop-left.into.items c.loop-left.left c.loop-left.reader c.loop-left.invariant (omega arith) (c.if-is_at_end.ensures.0 refl)

pub returns-else-is_at_end-clause-cause : goal.returns-else-is_at_end-clause-cause
returns-else-is_at_end-clause-cause c =
    let more : c.loop-left.reader ≢ [] = λ e. (let clash : false ≡ true = c.if-is_at_end.ensures.1 e in cc) in
    pieces_left c.args.bytes.now c.args.into.now.items c.loop-left.into.items c.loop-left.left c.loop-left.reader c.loop-left.invariant (omega arith) more
