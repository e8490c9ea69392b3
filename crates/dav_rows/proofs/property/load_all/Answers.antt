use Rattle.sqlite.specs.Held.{state}
use Rattle.dav_rows.specs.Contents.{property_cells}
use Rattle.dav_rows.specs.Failing.{IsUtf8Property}
use Rattle.dav_rows.proofs.LoadLemmas.{properties_read}
use Rattle.dav_rows.proofs.PropertyTexts.{suits, select_text, selects}
use Rattle.dav_rows.proofs.FailLemmas.{table_excused}
use Rattle.dav_rows.proofs.property.load_all.Goals as goal

pub returns-clause-reads : goal.returns-clause-reads
returns-clause-reads g c = properties_read (state g.S.Store c.args.conn.now) (state g.S.Store c.read_rows.new.conn) c.read_rows.result c.read_rows.ensures.reads

pub returns-clause-err : goal.returns-clause-err
returns-clause-err g c =
    table_excused property_cells 2 select_text selects IsUtf8Property (λ m. m.properties) suits.seen (λ db m holds. holds.properties) (λ m utf8. utf8.properties)
    (state g.S.Store c.args.conn.now) (state g.S.Store c.read_rows.new.conn) c.read_rows.result c.read_rows.ensures.err
