use Rattle.sqlite.specs.Held.{state}
use Rattle.dav_rows.specs.Contents.{resource_cells}
use Rattle.dav_rows.specs.Failing.{IsUtf8Resource}
use Rattle.dav_rows.proofs.LoadLemmas.{resources_read}
use Rattle.dav_rows.proofs.ResourceTexts.{suits, select_text, selects}
use Rattle.dav_rows.proofs.FailLemmas.{table_excused}
use Rattle.dav_rows.proofs.resource.load_all.Goals as goal

pub returns-clause-reads : goal.returns-clause-reads
returns-clause-reads g c = resources_read (state g.S.Store c.args.conn.now) (state g.S.Store c.read_rows.new.conn) c.read_rows.result c.read_rows.ensures.reads

pub returns-clause-err : goal.returns-clause-err
returns-clause-err g c =
    table_excused resource_cells 0 select_text selects IsUtf8Resource (λ m. m.resources) suits.seen (λ db m holds. holds.resources) (λ m utf8. utf8.resources)
    (state g.S.Store c.args.conn.now) (state g.S.Store c.read_rows.new.conn) c.read_rows.result c.read_rows.ensures.err
