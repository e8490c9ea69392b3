use Rattle.std.proofs.Common.{◌+◌, subst}
use Rattle.disk_readonly.specs.Copies.{IsExcused}
use Rattle.dav_rows_files.proofs.JudgeLemmas.{excused-behind, if-err-same}
use Rattle.dav_rows_files.proofs.judging.copy_files.Goals as goal

pub returns-in_err-db-clause-err : goal.returns-in_err-db-clause-err
returns-in_err-db-clause-err g c =
    let faults = g.D.Disk.faults in
    let before = faults c.args.files.now.db in let after = faults c.of-2.new.disk in
    let e = c.in_err-db.field-0.0 in
    if-err-same c.from_residual-in_err-db.result e _ c.from_residual-in_err-db.ensures.1
    (subst (λ n. IsExcused (n + before) (faults c.of.new.disk + after) e) c.in_ok-log.ensures.faults
    (excused-behind (faults c.of.new.disk) before after e c.in_err-db.ensures.err))
