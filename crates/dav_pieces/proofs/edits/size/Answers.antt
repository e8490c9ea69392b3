use Rattle.std.proofs.Common.{arith}
use Rattle.dav_pieces.proofs.CutSteps.{nothing, size_of-at, size_of-more}
use Rattle.dav_pieces.proofs.edits.size.Goals as goal

pub overflow_add-size : goal.overflow_add-size
overflow_add-size c =
    let within = size_of-at c.args.pieces.now c.loop-piece.piece-index nothing c.loop-piece-test.true in
    let is = c.len-size.ensures in let was = c.loop-piece.invariant in let fits = c.requires in
    omega arith

pub loop-piece-preserved : goal.loop-piece-preserved
loop-piece-preserved c =
    let more = size_of-more c.args.pieces.now c.loop-piece.piece-index nothing c.loop-piece-test.true in
    let is = c.len-size.ensures in let was = c.loop-piece.invariant in
    omega arith
