use Rattle.sqlite.specs.Held.{state}
use Rattle.dav_rows.specs.Contents.{extent_cells}
use Rattle.dav_rows.specs.Failing.{HasNoText}
use Rattle.dav_rows.proofs.LoadLemmas.{extents_read}
use Rattle.dav_rows.proofs.ExtentTexts.{suits, select_text, selects}
use Rattle.dav_rows.proofs.FailLemmas.{table_excused, no_texts}
use Rattle.dav_rows.proofs.extent.load_all.Goals as goal

pub returns-clause-reads : goal.returns-clause-reads
returns-clause-reads g c = extents_read (state g.S.Store c.args.conn.now) (state g.S.Store c.read_rows.new.conn) c.read_rows.result c.read_rows.ensures.reads

pub returns-clause-err : goal.returns-clause-err
returns-clause-err g c =
    table_excused extent_cells 1 select_text selects HasNoText (λ m. m.extents) suits.seen (λ db m holds. holds.extents) (λ m utf8. no_texts m.extents)
    (state g.S.Store c.args.conn.now) (state g.S.Store c.read_rows.new.conn) c.read_rows.result c.read_rows.ensures.err
