use Rattle.sqlite.specs.Held.{state}
use Rattle.dav_rows.specs.Contents.{lock_cells}
use Rattle.dav_rows.specs.Failing.{IsUtf8Lock}
use Rattle.dav_rows.proofs.LoadLemmas.{locks_read}
use Rattle.dav_rows.proofs.LockTexts.{suits, select_text, selects}
use Rattle.dav_rows.proofs.FailLemmas.{table_excused}
use Rattle.dav_rows.proofs.lock.load_all.Goals as goal

pub returns-clause-reads : goal.returns-clause-reads
returns-clause-reads g c = locks_read (state g.S.Store c.args.conn.now) (state g.S.Store c.read_rows.new.conn) c.read_rows.result c.read_rows.ensures.reads

pub returns-clause-err : goal.returns-clause-err
returns-clause-err g c =
    table_excused lock_cells 3 select_text selects IsUtf8Lock (λ m. m.locks) suits.seen (λ db m holds. holds.locks) (λ m utf8. utf8.locks)
    (state g.S.Store c.args.conn.now) (state g.S.Store c.read_rows.new.conn) c.read_rows.result c.read_rows.ensures.err
