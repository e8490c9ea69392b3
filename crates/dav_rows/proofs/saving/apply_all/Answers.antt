use Rattle.std.proofs.Common.{◌∷◌, [], arith}
use Rattle.sqlite.specs.State.{HasCleanDisk}
use Rattle.sqlite.specs.Held.{state}
use Rattle.dav_rows.specs.declared.change.Change.TheVariants.{PutState}
use Rattle.dav_rows.specs.Changes.{after, put_state}
use Rattle.dav_rows.proofs.SavingLemmas.{edits_then, after_two, long_before, long_at_end}
use Rattle.dav_rows.proofs.CreateFailLemmas.{applied_fails, longer_fails}
use Rattle.dav_rows.proofs.saving.apply_all.Goals as goal

pub returns-in_err-apply_each-in-Some-clause-err : goal.returns-in_err-apply_each-in-Some-clause-err
returns-in_err-apply_each-in-Some-clause-err g c =
    longer_fails (state g.S.Store c.args.tx.now.conn.now) (state g.S.Store c.apply_each.new.tx.conn.now) _ _ c.in_err-apply_each-in-Some.field-0.0 c.from_residual.result c.from_residual.ensures.1
    c.in_err-apply_each-in-Some.ensures.err
    (long_before c.in-Some.others.now (PutState c.in-Some.first.now ∷ PutState c.in-Some.second.now ∷ []) c.args.changes.now c.in-Some.ensures)

pub returns-in_err-put_two-in-Some-clause-err : goal.returns-in_err-put_two-in-Some-clause-err
returns-in_err-put_two-in-Some-clause-err g c =
    applied_fails (state g.S.Store c.args.tx.now.conn.now) (state g.S.Store c.apply_each.new.tx.conn.now) (state g.S.Store c.put_two.new.tx.conn.now) (after c.in-Some.others.now) _ _
    c.in_err-put_two-in-Some.field-0.0 c.from_residual-in_err-put_two-in-Some.result c.from_residual-in_err-put_two-in-Some.ensures.1 c.apply_each.ensures.survives c.put_two.ensures.survives.clean
    c.in_ok-apply_each-in-Some.ensures.rows c.in_err-put_two-in-Some.ensures.err
    (long_at_end c.in-Some.others.now c.in-Some.first.now c.in-Some.second.now c.args.changes.now c.in-Some.ensures)

pub returns-in_ok-put_two-in-Some-clause-rows : goal.returns-in_ok-put_two-in-Some-clause-rows
returns-in_ok-put_two-in-Some-clause-rows g c now ready =
    let first = state g.S.Store c.args.tx.now.conn.now in
    let mid = state g.S.Store c.apply_each.new.tx.conn.now in
    let last = state g.S.Store c.put_two.new.tx.conn.now in
    let clean : HasCleanDisk mid = omega (arith, c.put_two.ensures.survives.clean, now) in
    let was = c.in_ok-apply_each-in-Some.ensures.rows clean ready in
    edits_then first mid last (after c.in-Some.others.now) (λ m. put_state c.in-Some.second.now (put_state c.in-Some.first.now m)) (after c.args.changes.now)
    (after_two c.in-Some.others.now c.in-Some.first.now c.in-Some.second.now c.args.changes.now c.in-Some.ensures) was (c.in_ok-put_two-in-Some.ensures.rows now was.ready)
