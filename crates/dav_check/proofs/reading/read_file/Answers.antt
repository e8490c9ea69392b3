use Rattle.std.proofs.Common.{◌∙◌, ◌+◌, refl, sym, subst, arith}
use Rattle.std.proofs.lemmas.Result.{err_from_is_err_and}
use Rattle.dav_check.specs.Reading.{IsFailure, IsReadBetween}
use Rattle.dav_check.proofs.PieceReads.{read_on}
use Rattle.dav_check.proofs.reading.read_file.Goals as goal

pub loop-place-init : goal.loop-place-init
loop-place-init g c = record {
  same = refl;
  fixed = refl;
  read = λ place below. absurd (omega (arith, below));
  within = omega arith;
}

pub loop-place-preserved : goal.loop-place-preserved
loop-place-preserved g c =
    let seen = g.F.GuardedFileSystem.seen in
    let reads = g.F.GuardedFileSystem.reads in
    let so_far = c.loop-place.invariant in
    record {
      same = c.in_ok-read_piece.ensures.same ∙ so_far.same;
      fixed = c.in_ok-read_piece.ensures.fixed ∙ so_far.fixed;
      read = read_on seen reads (seen c.args.fs.now).contents c.args.path.now.key c.loop-place.place (c.loop-place.place + c.piece_len-count.result) so_far.read
          (subst (λ contents. IsReadBetween seen reads contents c.args.path.now.key c.loop-place.place (c.loop-place.place + c.piece_len-count.result)) so_far.same c.in_ok-read_piece.ensures.ok);
      within = omega (arith, c.piece_len-count.ensures.most, c.loop-place-test.true, so_far.within);
    }

pub returns-in_err-read_piece-clause-err : goal.returns-in_err-read_piece-clause-err
returns-in_err-read_piece-clause-err g c =
    let seen = g.F.GuardedFileSystem.seen in
    let reads = g.F.GuardedFileSystem.reads in
    let p = err_from_is_err_and c.from_residual.result c.from_residual.ensures.1 in
    rw p.1 (subst (IsFailure seen reads (seen c.args.fs.now).contents c.args.path.now.key) (sym p.2)
    (subst (λ contents. IsFailure seen reads contents c.args.path.now.key c.in_err-read_piece.field-0.0) c.loop-place.invariant.same c.in_err-read_piece.ensures.err))

pub returns-clause-ok : goal.returns-clause-ok
returns-clause-ok g c = λ place below. c.loop-place.invariant.read place (omega (arith, below, c.loop-place-test.false))
