use Rattle.std.proofs.Common.{arith}
use Rattle.sqlite.specs.State.{HasCleanDisk}
use Rattle.sqlite.specs.Held.{state}
use Rattle.dav_rows.proofs.CreateLemmas.{none_built, all_built, filled}
use Rattle.dav_rows.proofs.CreateFailLemmas.{fill_fails, filled_fails}
use Rattle.dav_rows.proofs.creating.fill.Goals as goal

pub returns-clause-made : goal.returns-clause-made
returns-clause-made g c clean bare =
    let old = state g.S.Store c.args.tx.now.conn.now in
    let mid = state g.S.Store c.create_tables.new.tx.conn.now in
    let early : HasCleanDisk mid = omega (arith, c.apply_all.ensures.survives.clean) in
    let built = c.in_ok-create_tables.ensures.made early (none_built old bare) in
    filled old mid (state g.S.Store c.apply_all.new.tx.conn.now) c.args.changes.now c.apply_all.result built.0 built.1 (c.apply_all.ensures.rows clean (all_built mid built.0))

pub returns-in_err-create_tables-clause-err : goal.returns-in_err-create_tables-clause-err
returns-in_err-create_tables-clause-err g c =
    fill_fails (state g.S.Store c.args.tx.now.conn.now) (state g.S.Store c.create_tables.new.tx.conn.now) c.args.changes.now c.in_err-create_tables.field-0.0 c.from_residual.result c.from_residual.ensures.1 c.in_err-create_tables.ensures.err

pub returns-clause-err : goal.returns-clause-err
returns-clause-err g c =
    let old = state g.S.Store c.args.tx.now.conn.now in
    filled_fails old (state g.S.Store c.create_tables.new.tx.conn.now) (state g.S.Store c.apply_all.new.tx.conn.now) c.args.changes.now c.apply_all.result
    c.create_tables.ensures.survives c.apply_all.ensures.survives.clean (λ early bare. (c.in_ok-create_tables.ensures.made early (none_built old bare)).0) c.apply_all.ensures.err
