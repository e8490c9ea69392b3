use Rattle.std.proofs.Common.{sym, subst}
use Rattle.std.proofs.lemmas.Result.{err_from_is_err_and}
use Rattle.dav_check.specs.Reading.{IsFailure}
use Rattle.dav_check.proofs.PieceReads.{piece_read, piece_refused, contents_left, facts_left}
use Rattle.dav_check.proofs.reading.read_piece.Goals as goal

pub returns : goal.returns
returns g c =
    let seen = g.F.GuardedFileSystem.seen in
    let reads = g.F.GuardedFileSystem.reads in
    record {
      same = contents_left seen reads c.args.path.now.key c.args.fs.now c.clear_log.new.self c.read_bytes.new.self c.args.place c.args.count c.clear_log.ensures.seen _ c.in_ok-read_bytes.ensures.read;
      fixed = facts_left seen reads c.args.path.now.key c.args.fs.now c.clear_log.new.self c.read_bytes.new.self c.args.place c.args.count c.clear_log.ensures.seen _ c.in_ok-read_bytes.ensures.read;
      ok = piece_read seen reads c.args.path.now.key c.args.fs.now c.clear_log.new.self c.read_bytes.new.self c.args.place c.args.count c.clear_log.ensures.seen _ c.in_ok-read_bytes.ensures.read;
      err = tt;
    }

pub returns-in_err-read_bytes-clause-same : goal.returns-in_err-read_bytes-clause-same
returns-in_err-read_bytes-clause-same g c =
    contents_left g.F.GuardedFileSystem.seen g.F.GuardedFileSystem.reads c.args.path.now.key c.args.fs.now c.clear_log.new.self c.read_bytes.new.self c.args.place c.args.count c.clear_log.ensures.seen _ c.in_err-read_bytes.ensures.read

pub returns-in_err-read_bytes-clause-fixed : goal.returns-in_err-read_bytes-clause-fixed
returns-in_err-read_bytes-clause-fixed g c =
    facts_left g.F.GuardedFileSystem.seen g.F.GuardedFileSystem.reads c.args.path.now.key c.args.fs.now c.clear_log.new.self c.read_bytes.new.self c.args.place c.args.count c.clear_log.ensures.seen _ c.in_err-read_bytes.ensures.read

pub returns-in_err-read_bytes-clause-err : goal.returns-in_err-read_bytes-clause-err
returns-in_err-read_bytes-clause-err g c =
    let seen = g.F.GuardedFileSystem.seen in
    let reads = g.F.GuardedFileSystem.reads in
    let p = err_from_is_err_and c.from_residual.result c.from_residual.ensures.1 in
    rw p.1 (subst (IsFailure seen reads (seen c.args.fs.now).contents c.args.path.now.key) (sym p.2)
    (piece_refused seen reads c.args.path.now.key c.args.fs.now c.clear_log.new.self c.read_bytes.new.self c.args.place c.args.count c.clear_log.ensures.seen c.in_err-read_bytes.field-0.0 c.in_err-read_bytes.ensures.read))
