use Rattle.std.proofs.Common.{◌+◌, ◌∙◌, sym, subst, arith}
use Rattle.sqlite.specs.State.{HasCleanDisk}
use Rattle.sqlite.specs.Held.{state}
use Rattle.sqlite.proofs.StateLemmas.{survives_then}
use Rattle.dav_rows.specs.Creating.{IsBuilt}
use Rattle.dav_rows.proofs.SavingLemmas.{kept_then}
use Rattle.dav_rows.proofs.CreateLemmas.{in_place}
use Rattle.dav_rows.proofs.CreateFailLemmas.{built_fails}
use Rattle.dav_rows.proofs.creating.create_tables.Goals as goal

pub tables-preserved : goal.tables-preserved
tables-preserved g c =
    let first = state g.S.Store c.args.tx.now.conn.now in
    let mid = state g.S.Store c.tables.tx.conn.now in
    let last = state g.S.Store c.create_table.new.tx.conn.now in
    let clean = λ (now : HasCleanDisk last). let was : HasCleanDisk mid = omega (arith, c.create_table.ensures.survives.clean) in was in
    let at = in_place c.tables.table-index c.tables-test.true in
    record {
      same = c.create_table.ensures.same_reference ∙ c.tables.invariant.same;
      kept = λ now. kept_then first mid last (c.tables.invariant.kept (clean now)) (c.create_table.ensures.kept now);
      survives = survives_then first mid last (λ _. ⊥) (λ _. ⊥) (λ _. ⊥) (λ _ _ none. none) (λ _ _ none. none) c.tables.invariant.survives c.create_table.ensures.survives;
      made = λ now built.
          let was = c.tables.invariant.made (clean now) built in
          let one = c.in_ok-create_table.ensures.made now (subst (λ n. IsBuilt n mid) (sym at) was.0) in
          (subst (λ n. IsBuilt (n + 1) last) at one.0, one.1 ∙ was.1);
    }

pub returns-in_err-create_table-clause-err : goal.returns-in_err-create_table-clause-err
returns-in_err-create_table-clause-err g c =
    let mid = state g.S.Store c.tables.tx.conn.now in
    built_fails (state g.S.Store c.args.tx.now.conn.now) mid (state g.S.Store c.create_table.new.tx.conn.now) _ c.in_err-create_table.field-0.0 c.from_residual.result c.from_residual.ensures.1
    c.tables.invariant.survives c.create_table.ensures.survives.clean
    (λ clean built. subst (λ n. IsBuilt n mid) (sym (in_place c.tables.table-index c.tables-test.true)) (c.tables.invariant.made clean built).0) c.in_err-create_table.ensures.err
