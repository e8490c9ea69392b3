use Rattle.std.proofs.Common.{Some, option_map, ap, ◌∙◌}
use Rattle.dav_rows.proofs.ReadingLemmas.{fails_kept, stops_kept, gives}
use Rattle.dav_rows.proofs.reading.next_row.Goals as goal

pub returns-in_err-advance-clause-reads : goal.returns-in_err-advance-clause-reads
returns-in_err-advance-clause-reads g c = fails_kept c.from_residual.result c.from_residual.ensures.0 c.advance.ensures.survives c.in_err-advance.ensures.kept

pub returns-in_err-from_row-in-Some-clause-reads : goal.returns-in_err-from_row-in-Some-clause-reads
returns-in_err-from_row-in-Some-clause-reads g c = stops_kept c.from_residual-in_err-from_row-in-Some.result c.from_residual-in_err-from_row-in-Some.ensures.0 c.advance.ensures.survives c.in_ok-advance.ensures.same

pub returns-in_ok-from_row-in-Some-clause-reads : goal.returns-in_ok-from_row-in-Some-clause-reads
returns-in_ok-from_row-in-Some-clause-reads g c =
    gives g.S.Store g.T.TableRow.entry g.T.TableRow.entry_in c.args.rows.now.conn.now c.advance.new.self.conn.now _ _
    (ap Some c.in_ok-from_row-in-Some.ensures.ok ∙ ap (option_map g.T.TableRow.entry_in) c.in-Some.ensures) c.advance.ensures.survives c.in_ok-advance.ensures.same c.in_ok-advance.ensures.ok

pub returns-in-None-clause-reads : goal.returns-in-None-clause-reads
returns-in-None-clause-reads g c =
    gives g.S.Store g.T.TableRow.entry g.T.TableRow.entry_in c.args.rows.now.conn.now c.advance.new.self.conn.now _ _
    (ap (option_map g.T.TableRow.entry_in) c.in-None.ensures) c.advance.ensures.survives c.in_ok-advance.ensures.same c.in_ok-advance.ensures.ok
