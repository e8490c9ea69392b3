use Rattle.std.proofs.Common.{arith}
use Rattle.dav_pieces.proofs.CutSteps.{nothing, size_of-at, size_of-more}
use Rattle.dav_store_rows.proofs.saving.groups.first_group.Goals as goal

pub returns-in_err-end-clause-none : goal.returns-in_err-end-clause-none
returns-in_err-end-clause-none c =
    let within = size_of-at c.args.pieces.now c.pieces.piece-index nothing c.pieces-test.true in
    let is = c.len.ensures in let was = c.pieces.invariant.end in let large = c.in_err-end.ensures in
    rw c.from_residual.ensures (omega (arith, large))

pub pieces-preserved : goal.pieces-preserved
pieces-preserved c =
    let more = size_of-more c.args.pieces.now c.pieces.piece-index nothing c.pieces-test.true in
    let is = c.len.ensures in let was = c.pieces.invariant.end in let count = c.pieces.invariant.count in let sum = c.in_ok-end.ensures in
    record { count = omega arith; end = omega (arith, sum.1) }
