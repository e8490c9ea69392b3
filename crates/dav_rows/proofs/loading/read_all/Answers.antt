use Rattle.dav_rows.proofs.LoadingLemmas.{none_read}
use Rattle.dav_rows.proofs.FailLemmas.{fails_first}
use Rattle.dav_rows.proofs.loading.read_all.Goals as goal

pub returns-in_err-rows-clause-reads : goal.returns-in_err-rows-clause-reads
returns-in_err-rows-clause-reads g c = none_read c.from_residual.result c.from_residual.ensures.0 c.in_err-rows.ensures.reads

pub returns-in_err-rows-clause-err : goal.returns-in_err-rows-clause-err
returns-in_err-rows-clause-err g c = fails_first c.from_residual.result c.from_residual.ensures.1 c.in_err-rows.ensures.reads c.in_err-rows.ensures.err
