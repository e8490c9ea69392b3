use Rattle.std.proofs.Common.{arith}
use Rattle.sqlite.specs.State.{HasCleanDisk}
use Rattle.sqlite.specs.Held.{state}
use Rattle.dav_rows.proofs.CreateLemmas.{all_there, upgraded}
use Rattle.dav_rows.proofs.CreateFailLemmas.{notes_fail, filled_notes_fail}
use Rattle.dav_rows.proofs.creating.fill_notes.Goals as goal

pub returns-clause-made : goal.returns-clause-made
returns-clause-made g c clean begun m was =
    let old = state g.S.Store c.args.tx.now.conn.now in
    let mid = state g.S.Store c.create_table.new.tx.conn.now in
    let early : HasCleanDisk mid = omega (arith, c.apply_all.ensures.survives.clean) in
    let added = c.in_ok-create_table.ensures.added early begun in
    upgraded old mid (state g.S.Store c.apply_all.new.tx.conn.now) c.args.changes.now m c.apply_all.result added was (c.apply_all.ensures.rows clean (all_there old mid added))

pub returns-in_err-create_table-clause-err : goal.returns-in_err-create_table-clause-err
returns-in_err-create_table-clause-err g c =
    notes_fail (state g.S.Store c.args.tx.now.conn.now) (state g.S.Store c.create_table.new.tx.conn.now) c.args.changes.now c.in_err-create_table.field-0.0 c.from_residual.result c.from_residual.ensures.1 c.in_err-create_table.ensures.err

pub returns-clause-err : goal.returns-clause-err
returns-clause-err g c =
    filled_notes_fail (state g.S.Store c.args.tx.now.conn.now) (state g.S.Store c.create_table.new.tx.conn.now) (state g.S.Store c.apply_all.new.tx.conn.now) c.args.changes.now c.apply_all.result
    c.create_table.ensures.survives c.apply_all.ensures.survives.clean c.in_ok-create_table.ensures.added c.apply_all.ensures.err
