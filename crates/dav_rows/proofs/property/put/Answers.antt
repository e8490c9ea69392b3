use Rattle.std.proofs.Common.{[], ◌∷◌, codes, rules}
use Rattle.dav_rows.specs.Tables.{property_columns}
use Rattle.dav_rows.specs.Contents.{property_cells}
use Rattle.dav_rows.specs.Changes.{property_entry}
use Rattle.dav_rows.proofs.PropertyTexts.{suits, put_text, puts}
use Rattle.dav_rows.proofs.RefuseLemmas.{put_excused, in_range}
use Rattle.sqlite.specs.Held.{state}
use Rattle.dav_rows.proofs.PutLemmas.{put_property_edits}
use Rattle.dav_rows.proofs.property.put.Goals as goal

pub returns-clause-row : goal.returns-clause-row
returns-clause-row g c clean ready =
    put_property_edits (state g.S.Store c.args.tx.now.conn.now) (state g.S.Store c.execute.new.tx.conn.now) c.args.row.now c.execute.result
    (rw (c.params-to_sql.ensures, c.params-to_sql-2.ensures, c.params-to_sql-3.ensures, c.params-to_sql-4.ensures, c.params-to_sql-5.ensures) at (c.execute.ensures.ran clean ready.inside)) ready

pub returns-clause-err : goal.returns-clause-err
returns-clause-err g c =
    put_excused property_cells (codes "property") 2 property_columns suits (λ m. m.properties) (λ db m holds. holds.properties) (state g.S.Store c.args.tx.now.conn.now) (state g.S.Store c.execute.new.tx.conn.now)
    put_text (property_entry c.args.row.now ∷ []) (puts (property_entry c.args.row.now)) (in_range c.args.row.now.number (search rules), tt) c.execute.result
    (λ clean inside. rw (c.params-to_sql.ensures, c.params-to_sql-2.ensures, c.params-to_sql-3.ensures, c.params-to_sql-4.ensures, c.params-to_sql-5.ensures) at (c.execute.ensures.ran clean inside))
