use Rattle.std.proofs.Common.{◌++◌, map, drop, ap, sym, subst, ◌∙◌, ◌+◌, append-nil, length, arith}
use Rattle.std.proofs.lemmas.List.{drop_all}
use Rattle.dav_rows.specs.Changes.{lock_entry}
use Rattle.dav_store_rows.specs.LockRows.{BringsLocks}
use Rattle.dav_store_rows.proofs.LockSteps.{brings_then, saved_from, up_to_at}
use Rattle.dav_store_rows.specs.SaveErrors.{HaveRoom}
use Rattle.dav_store_rows.proofs.Failing.{fails_on}
use Rattle.dav_store_rows.proofs.locks.diff.save_rows.Goals as goal

pub saved-preserved : goal.saved-preserved
saved-preserved c =
    let later = map lock_entry (drop (c.saved.row-index + 1) c.args.saved.now) in (
      brings_then (map lock_entry c.args.saved.now) (map lock_entry c.saved.rows.items ++ map lock_entry (drop c.saved.row-index c.args.saved.now)) (map lock_entry c.save_row.new.rows.items ++ later)
          c.args.changes.now.items c.saved.changes.items c.save_row.new.changes.items c.saved.invariant.0
          (subst (λ es. BringsLocks (map lock_entry c.saved.rows.items ++ es) (map lock_entry c.save_row.new.rows.items ++ later) c.saved.changes.items c.save_row.new.changes.items)
          (sym (saved_from c.args.saved.now c.saved.row-index c.row-item.result c.saved-test.true c.row-item.is)) (c.in_ok-left.ensures.brings later)),
      c.in_ok-left.ensures.values ∙ c.saved.invariant.1,
      λ top all. c.in_ok-left.ensures.low top (c.saved.invariant.2 top all) (up_to_at c.args.saved.now c.saved.row-index c.row-item.result top all c.saved-test.true c.row-item.is),
      (let fewer = c.in_ok-left.ensures.fewer in let was = c.saved.invariant.3 in omega arith),
    )

pub returns-clause-brings : goal.returns-clause-brings
returns-clause-brings c =
    let none = ap (λ rs. map lock_entry c.saved.rows.items ++ map lock_entry rs) (drop_all c.saved.row-index c.args.saved.now c.saved-test.false) ∙ append-nil (map lock_entry c.saved.rows.items) in
    brings_then (map lock_entry c.args.saved.now) (map lock_entry c.saved.rows.items) (map lock_entry c.add_rows.new.rows.items) c.args.changes.now.items c.saved.changes.items c.add_rows.new.changes.items
    (subst (λ es. BringsLocks (map lock_entry c.args.saved.now) es c.args.changes.now.items c.saved.changes.items) none c.saved.invariant.0) c.in_ok-add_rows.ensures.brings

pub returns-clause-values : goal.returns-clause-values
returns-clause-values c = c.in_ok-add_rows.ensures.values ∙ c.saved.invariant.1

pub returns-in_err-add_rows-clause-err : goal.returns-in_err-add_rows-clause-err
returns-in_err-add_rows-clause-err c =
    fails_on c.from_residual-in_err-add_rows.result (HaveRoom (map lock_entry c.args.saved.now) (length c.args.wanted.now)) (Unit {0})
    (HaveRoom (map lock_entry c.saved.rows.items) (length c.saved.left.now)) (Unit {0}) c.in_err-add_rows.field-0.0
    c.from_residual-in_err-add_rows.ensures.1 c.in_err-add_rows.ensures.err
    (λ (top, all, room). (top, c.saved.invariant.2 top all, (let fewer = c.saved.invariant.3 in omega arith))) (λ x. x)
