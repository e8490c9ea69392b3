use Rattle.std.proofs.Common.{take, ◌+◌, ◌∙◌, sym, arith}
use Rattle.sqlite.specs.State.{HasCleanDisk}
use Rattle.sqlite.specs.Held.{state}
use Rattle.sqlite.proofs.StateLemmas.{survives_then}
use Rattle.dav_rows.specs.Changes.{after, after_one}
use Rattle.dav_rows.proofs.SavingLemmas.{kept_then, edits_then, after_next}
use Rattle.dav_rows.proofs.CreateFailLemmas.{applied_fails}
use Rattle.dav_rows.proofs.saving.apply_each.Goals as goal

pub changes-preserved : goal.changes-preserved
changes-preserved g c =
    let first = state g.S.Store c.args.tx.now.conn.now in
    let mid = state g.S.Store c.changes.tx.conn.now in
    let last = state g.S.Store c.apply.new.tx.conn.now in
    let clean = λ (now : HasCleanDisk last). let was : HasCleanDisk mid = omega (arith, c.apply.ensures.survives.clean) in was in
    let i = c.changes.change-index in
    record {
      same = c.apply.ensures.same_reference ∙ c.changes.invariant.same;
      kept = λ now. kept_then first mid last (c.changes.invariant.kept (clean now)) (c.apply.ensures.kept now);
      survives = survives_then first mid last (λ _. ⊥) (λ _. ⊥) (λ _. ⊥) (λ _ _ none. none) (λ _ _ none. none) c.changes.invariant.survives c.apply.ensures.survives;
      rows = λ now ready. let was = c.changes.invariant.rows (clean now) ready in
          edits_then first mid last (after (take i c.args.changes.now)) (after_one c.change-item.result) (after (take (i + 1) c.args.changes.now))
          (λ m. after_next c.args.changes.now i c.change-item.result m c.changes-test.true c.change-item.is) was (c.in_ok-apply.ensures.row now was.ready);
    }

pub returns-in_err-apply-clause-err : goal.returns-in_err-apply-clause-err
returns-in_err-apply-clause-err g c =
    let i = c.changes.change-index in
    applied_fails (state g.S.Store c.args.tx.now.conn.now) (state g.S.Store c.changes.tx.conn.now) (state g.S.Store c.apply.new.tx.conn.now) (after (take i c.args.changes.now)) _ _
    c.in_err-apply.field-0.0 c.from_residual.result c.from_residual.ensures.1 c.changes.invariant.survives c.apply.ensures.survives.clean c.changes.invariant.rows c.in_err-apply.ensures.err
    (λ long. (i, c.change-item.result, c.changes-test.true, sym c.change-item.is, long))
