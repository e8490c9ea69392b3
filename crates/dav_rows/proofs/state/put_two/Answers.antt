use Rattle.std.proofs.Common.{[], ◌∷◌, codes, rules}
use Rattle.dav_rows.specs.Tables.{state_columns}
use Rattle.dav_rows.specs.Contents.{state_cells}
use Rattle.dav_rows.specs.Changes.{state_entry}
use Rattle.dav_rows.proofs.StateTexts.{suits, put_two_text, puts_two}
use Rattle.dav_rows.proofs.RefuseLemmas.{put_excused, in_range}
use Rattle.sqlite.specs.Held.{state}
use Rattle.dav_rows.proofs.PutLemmas.{put_states_edits}
use Rattle.dav_rows.proofs.state.put_two.Goals as goal

pub returns-clause-rows : goal.returns-clause-rows
returns-clause-rows g c clean ready =
    put_states_edits (state g.S.Store c.args.tx.now.conn.now) (state g.S.Store c.execute.new.tx.conn.now) c.args.first.now c.args.second.now c.execute.result
    (rw (c.params-to_sql.ensures, c.params-to_sql-2.ensures, c.params-to_sql-3.ensures, c.params-to_sql-4.ensures, c.params-to_sql-5.ensures, c.params-to_sql-6.ensures, c.params-to_sql-7.ensures, c.params-to_sql-8.ensures, c.params-to_sql-9.ensures, c.params-to_sql-10.ensures) at (c.execute.ensures.ran clean ready.inside)) ready

pub returns-clause-err : goal.returns-clause-err
returns-clause-err g c =
    put_excused state_cells (codes "state") 4 state_columns suits (λ m. m.states) (λ db m holds. holds.states) (state g.S.Store c.args.tx.now.conn.now) (state g.S.Store c.execute.new.tx.conn.now)
    put_two_text (state_entry c.args.first.now ∷ state_entry c.args.second.now ∷ []) (puts_two (state_entry c.args.first.now) (state_entry c.args.second.now))
    (in_range c.args.first.now.number (search rules), (in_range c.args.second.now.number (search rules), tt)) c.execute.result
    (λ clean inside. rw (c.params-to_sql.ensures, c.params-to_sql-2.ensures, c.params-to_sql-3.ensures, c.params-to_sql-4.ensures, c.params-to_sql-5.ensures, c.params-to_sql-6.ensures, c.params-to_sql-7.ensures, c.params-to_sql-8.ensures, c.params-to_sql-9.ensures, c.params-to_sql-10.ensures) at (c.execute.ensures.ran clean inside))
