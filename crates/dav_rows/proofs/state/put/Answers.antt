use Rattle.std.proofs.Common.{[], ◌∷◌, codes, rules}
use Rattle.dav_rows.specs.Tables.{state_columns}
use Rattle.dav_rows.specs.Contents.{state_cells}
use Rattle.dav_rows.specs.Changes.{state_entry}
use Rattle.dav_rows.proofs.StateTexts.{suits, put_text, puts}
use Rattle.dav_rows.proofs.RefuseLemmas.{put_excused, in_range}
use Rattle.sqlite.specs.Held.{state}
use Rattle.dav_rows.proofs.PutLemmas.{put_state_edits}
use Rattle.dav_rows.proofs.state.put.Goals as goal

pub returns-clause-row : goal.returns-clause-row
returns-clause-row g c clean ready =
    put_state_edits (state g.S.Store c.args.tx.now.conn.now) (state g.S.Store c.execute.new.tx.conn.now) c.args.row.now c.execute.result
    (rw (c.params-to_sql.ensures, c.params-to_sql-2.ensures, c.params-to_sql-3.ensures, c.params-to_sql-4.ensures, c.params-to_sql-5.ensures) at (c.execute.ensures.ran clean ready.inside)) ready

pub returns-clause-err : goal.returns-clause-err
returns-clause-err g c =
    put_excused state_cells (codes "state") 4 state_columns suits (λ m. m.states) (λ db m holds. holds.states) (state g.S.Store c.args.tx.now.conn.now) (state g.S.Store c.execute.new.tx.conn.now)
    put_text (state_entry c.args.row.now ∷ []) (puts (state_entry c.args.row.now)) (in_range c.args.row.now.number (search rules), tt) c.execute.result
    (λ clean inside. rw (c.params-to_sql.ensures, c.params-to_sql-2.ensures, c.params-to_sql-3.ensures, c.params-to_sql-4.ensures, c.params-to_sql-5.ensures) at (c.execute.ensures.ran clean inside))
