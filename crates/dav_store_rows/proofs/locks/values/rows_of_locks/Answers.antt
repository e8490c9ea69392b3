use Rattle.std.proofs.Common.{subst}
use Rattle.dav_store_rows.specs.SaveErrors.{AreFlatLocks, IsFlatLock}
use Rattle.dav_store_rows.proofs.Failing.{fails_on}
use Rattle.dav_store_rows.proofs.LockSaves.{values_next, values_all}
use Rattle.dav_store_rows.proofs.locks.values.rows_of_locks.Goals as goal

pub locks-preserved : goal.locks-preserved
locks-preserved c = record {
  first =
      values_next c.locks.rows.items c.push.new.self.items c.in_ok-row.row c.in-Some.lock.now c.locks.lock-iterator c.next.new.self c.args.locks
      c.locks.invariant.first c.in-Some.ensures.steps c.in_ok-row.ensures.values c.in_ok-row.ensures.valid c.in_ok-push.ensures.items;
  flat = λ all. (subst AreFlatLocks c.in-Some.ensures.steps (c.locks.invariant.flat all)).1;
}

pub returns-in_err-row-clause-err : goal.returns-in_err-row-clause-err
returns-in_err-row-clause-err c =
    fails_on c.from_residual.result (Unit {0}) (AreFlatLocks c.args.locks) (Unit {0}) (IsFlatLock c.in-Some.lock.now) c.in_err-row.field-0.0
    c.from_residual.ensures.1 c.in_err-row.ensures.err (λ x. x) (λ all. (subst AreFlatLocks c.in-Some.ensures.steps (c.locks.invariant.flat all)).0)

pub returns-clause-ok : goal.returns-clause-ok
returns-clause-ok c = values_all c.locks.rows.items c.locks.lock-iterator c.args.locks c.locks.invariant.first c.in-None.ensures.steps.0
