use Rattle.sqlite.specs.Held.{state}
use Rattle.dav_rows.specs.Contents.{note_cells}
use Rattle.dav_rows.specs.Failing.{HasNoText}
use Rattle.dav_rows.proofs.LoadLemmas.{notes_read}
use Rattle.dav_rows.proofs.NoteTexts.{suits, select_text, selects}
use Rattle.dav_rows.proofs.FailLemmas.{table_excused, no_texts}
use Rattle.dav_rows.proofs.note.load_all.Goals as goal

pub returns-clause-reads : goal.returns-clause-reads
returns-clause-reads g c = notes_read (state g.S.Store c.args.conn.now) (state g.S.Store c.read_rows.new.conn) c.read_rows.result c.read_rows.ensures.reads

pub returns-clause-err : goal.returns-clause-err
returns-clause-err g c =
    table_excused note_cells 5 select_text selects HasNoText (λ m. m.notes) suits.seen (λ db m holds. holds.notes) (λ m utf8. no_texts m.notes)
    (state g.S.Store c.args.conn.now) (state g.S.Store c.read_rows.new.conn) c.read_rows.result c.read_rows.ensures.err
