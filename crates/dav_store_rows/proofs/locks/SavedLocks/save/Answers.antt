use Rattle.std.proofs.Common.{length, arith}
use Rattle.dav_store_rows.specs.SaveErrors.{HaveRoom, AreFlatLocks}
use Rattle.dav_store_rows.proofs.Failing.{fails_on}
use Rattle.dav_store_rows.proofs.LockSaves.{saves, values_length}
use Rattle.dav_store_rows.proofs.locks.SavedLocks.save.Goals as goal

pub returns-clause-ok : goal.returns-clause-ok
returns-clause-ok c =
    let saved = c.deref.ensures.value in
    let whole = c.self.view_is in
    let all = c.deref-2.ensures.value in
    saves c.args.locks c.args.self.now c.args.changes.now.items c.save_rows.new.changes.items c.in_ok-rows.rows.items c.in_ok-wanted.wanted.items
    (rw (saved, whole) at c.in_ok-rows.ensures.brings) (rw all at c.in_ok-rows.ensures.values) c.in_ok-wanted.ensures.ok

pub returns-in_err-rows-clause-err : goal.returns-in_err-rows-clause-err
returns-in_err-rows-clause-err c =
    let saved = c.deref.ensures.value in
    let whole = c.self.view_is in
    let all = c.deref-2.ensures.value in
    let long = values_length c.in_ok-wanted.wanted.items c.args.locks c.in_ok-wanted.ensures.ok in
    fails_on c.from_residual-in_err-rows.result (HaveRoom c.args.self.now (length c.args.locks)) (AreFlatLocks c.args.locks)
    (HaveRoom c.args.self.now (length c.in_ok-wanted.wanted.items)) (Unit {0}) c.in_err-rows.field-0.0 c.from_residual-in_err-rows.ensures.1
    (rw (saved, whole, all) at c.in_err-rows.ensures.err) (λ (top, low, room). (top, low, omega arith)) (λ _. tt)
