use Rattle.std.proofs.Common.{rules}
use Rattle.dav_rows.proofs.LoadingLemmas.{then_reads, none_read, read_as}
use Rattle.dav_rows.proofs.FailLemmas.{fails_first, fails_after}
use Rattle.dav_rows.proofs.loading.read_older.Goals as goal

pub returns-in_err-resources-clause-reads : goal.returns-in_err-resources-clause-reads
returns-in_err-resources-clause-reads g c = none_read c.from_residual.result c.from_residual.ensures.0 c.in_err-resources.ensures.reads

pub returns-in_err-extents-clause-reads : goal.returns-in_err-extents-clause-reads
returns-in_err-extents-clause-reads g c = none_read c.from_residual-in_err-extents.result c.from_residual-in_err-extents.ensures.0 (then_reads c.in_ok-resources.ensures.reads c.in_err-extents.ensures.reads)

pub returns-in_err-properties-clause-reads : goal.returns-in_err-properties-clause-reads
returns-in_err-properties-clause-reads g c = none_read c.from_residual-in_err-properties.result c.from_residual-in_err-properties.ensures.0 (then_reads c.in_ok-resources.ensures.reads (then_reads c.in_ok-extents.ensures.reads c.in_err-properties.ensures.reads))

pub returns-in_err-locks-clause-reads : goal.returns-in_err-locks-clause-reads
returns-in_err-locks-clause-reads g c =
    none_read c.from_residual-in_err-locks.result c.from_residual-in_err-locks.ensures.0 (then_reads c.in_ok-resources.ensures.reads (then_reads c.in_ok-extents.ensures.reads (then_reads c.in_ok-properties.ensures.reads c.in_err-locks.ensures.reads)))

pub returns-in_err-states-clause-reads : goal.returns-in_err-states-clause-reads
returns-in_err-states-clause-reads g c =
    none_read c.from_residual-in_err-states.result c.from_residual-in_err-states.ensures.0 (then_reads c.in_ok-resources.ensures.reads (then_reads c.in_ok-extents.ensures.reads (then_reads c.in_ok-properties.ensures.reads (then_reads c.in_ok-locks.ensures.reads c.in_err-states.ensures.reads))))

pub returns-clause-reads : goal.returns-clause-reads
returns-clause-reads g c =
    read_as (λ m it. record { resources = it.0; extents = it.1.0; properties = it.1.1.0; locks = it.1.1.1.0; states = it.1.1.1.1; none = search rules })
    (then_reads c.in_ok-resources.ensures.reads (then_reads c.in_ok-extents.ensures.reads (then_reads c.in_ok-properties.ensures.reads (then_reads c.in_ok-locks.ensures.reads c.in_ok-states.ensures.reads))))

pub returns-in_err-resources-clause-err : goal.returns-in_err-resources-clause-err
returns-in_err-resources-clause-err g c = fails_first c.from_residual.result c.from_residual.ensures.1 c.in_err-resources.ensures.reads c.in_err-resources.ensures.err

pub returns-in_err-extents-clause-err : goal.returns-in_err-extents-clause-err
returns-in_err-extents-clause-err g c = fails_after c.from_residual-in_err-extents.result c.from_residual-in_err-extents.ensures.1 c.in_ok-resources.ensures.reads c.in_err-extents.ensures.reads c.in_err-extents.ensures.err

pub returns-in_err-properties-clause-err : goal.returns-in_err-properties-clause-err
returns-in_err-properties-clause-err g c = fails_after c.from_residual-in_err-properties.result c.from_residual-in_err-properties.ensures.1 (then_reads c.in_ok-resources.ensures.reads c.in_ok-extents.ensures.reads) c.in_err-properties.ensures.reads c.in_err-properties.ensures.err

pub returns-in_err-locks-clause-err : goal.returns-in_err-locks-clause-err
returns-in_err-locks-clause-err g c = fails_after c.from_residual-in_err-locks.result c.from_residual-in_err-locks.ensures.1 (then_reads c.in_ok-resources.ensures.reads (then_reads c.in_ok-extents.ensures.reads c.in_ok-properties.ensures.reads)) c.in_err-locks.ensures.reads c.in_err-locks.ensures.err

pub returns-in_err-states-clause-err : goal.returns-in_err-states-clause-err
returns-in_err-states-clause-err g c = fails_after c.from_residual-in_err-states.result c.from_residual-in_err-states.ensures.1 (then_reads c.in_ok-resources.ensures.reads (then_reads c.in_ok-extents.ensures.reads (then_reads c.in_ok-properties.ensures.reads c.in_ok-locks.ensures.reads))) c.in_err-states.ensures.reads c.in_err-states.ensures.err
