use Rattle.dav_rows.proofs.RefuseLemmas.{removal_excused}
use Rattle.sqlite.specs.Held.{state}
use Rattle.dav_rows.proofs.PutLemmas.{remove_edits}
use Rattle.dav_rows.proofs.saving.remove.Goals as goal

pub returns-clause-row : goal.returns-clause-row
returns-clause-row g c clean ready =
    remove_edits (state g.S.Store c.args.tx.now.conn.now) (state g.S.Store c.execute.new.tx.conn.now) c.args.table c.args.number.now c.execute.result
    (rw (c.params-to_sql.ensures, c.removal_of-sql.ensures) at (c.execute.ensures.ran clean ready.inside)) ready

pub returns-clause-err : goal.returns-clause-err
returns-clause-err g c =
    removal_excused (state g.S.Store c.args.tx.now.conn.now) (state g.S.Store c.execute.new.tx.conn.now) c.args.table c.args.number.now c.execute.result
    (λ clean inside. rw (c.params-to_sql.ensures, c.removal_of-sql.ensures) at (c.execute.ensures.ran clean inside))
