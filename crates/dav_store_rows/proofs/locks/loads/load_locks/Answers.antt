use Rattle.std.proofs.Common.{ap, ◌∙◌, map, inl, inr}
use Rattle.std.proofs.lemmas.List.{take_all}
use Rattle.std.proofs.lemmas.Result.{err_from_is_err_and}
use Rattle.dav_cells.specs.Locks.{kept_lock}
use Rattle.dav_store_rows.proofs.LockLoads.{lock_in_row, rows_decode, same_locks, none_damaged}
use Rattle.dav_store_rows.proofs.locks.loads.load_locks.Goals as goal

pub returns-clause-ok : goal.returns-clause-ok
returns-clause-ok c = λ locks are.
    same_locks c.rows.all.items (map kept_lock locks)
    (c.rows.invariant ∙ ap (map lock_in_row) (take_all c.rows.row-index c.args.rows.now c.rows-test.false) ∙ rows_decode c.args.rows.now are.table locks are.rows_are are.stand)

pub returns-in_err-lock-clause-err : goal.returns-in_err-lock-clause-err
returns-in_err-lock-clause-err c = λ locks are.
    let p = err_from_is_err_and c.from_residual.result c.from_residual.ensures.1 in rw (p.1, p.2)
    (elim c.in_err-lock.ensures.err [
      | inl is ↦ is
      | inr none ↦ absurd (none_damaged c.args.rows.now c.rows.row-index c.row-item.result (map kept_lock locks) c.rows-test.true c.row-item.is (rows_decode c.args.rows.now are.table locks are.rows_are are.stand) none)
    ])
