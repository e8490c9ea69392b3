use Rattle.std.proofs.Common.{◌∙◌, sym, arith}
use Rattle.std.proofs.lemmas.Bool.{and_from}
use Rattle.std.proofs.lemmas.List.Folds.{list_all_more}
use Rattle.dav_pieces.specs.Pieces.{is_within}
use Rattle.dav_pieces.proofs.CutSteps.{nothing, size_of-at, size_of-more}
use Rattle.dav_pieces.proofs.edits.checked_size.Goals as goal

pub returns-in_err-size-clause-none : goal.returns-in_err-size-clause-none
returns-in_err-size-clause-none c =
    let within = size_of-at c.args.pieces.now c.loop-piece.piece-index nothing c.loop-piece-test.true in
    let is = c.len.ensures in let was = c.loop-piece.invariant.size in let large = c.in_err-size.ensures in
    rw c.from_residual.ensures (λ _. omega arith)

pub returns-then-size-ge-LIMIT-clause-none : goal.returns-then-size-ge-LIMIT-clause-none
returns-then-size-ge-LIMIT-clause-none c = λ _.
    let within = size_of-at c.args.pieces.now c.loop-piece.piece-index nothing c.loop-piece-test.true in
    let is = c.len.ensures in let was = c.loop-piece.invariant.size in let sum = c.in_ok-size.ensures.1 in let large = c.if-size-ge-LIMIT.true in
    omega arith

pub loop-piece-preserved : goal.loop-piece-preserved
loop-piece-preserved c =
    let xs = c.args.pieces.now in let i = c.loop-piece.piece-index in
    let more = size_of-more xs i nothing c.loop-piece-test.true in
    record {
      size = let is = c.len.ensures in let was = c.loop-piece.invariant.size in let sum = c.in_ok-size.ensures.1 in omega arith;
      within = list_all_more is_within xs i nothing c.loop-piece-test.true
          ∙ and_from _ _ c.loop-piece.invariant.within (sym c.is_within.ensures ∙ c.if-not-is_within.false);
      fits = let small = c.if-size-ge-LIMIT.false in omega arith;
    }
