use Rattle.dav_rows.proofs.CreateFailLemmas.{creates_fail}
use Rattle.sqlite.specs.Held.{state}
use Rattle.dav_rows.proofs.CreateLemmas.{creates, adds_table}
use Rattle.dav_rows.proofs.creating.create_table.Goals as goal

pub returns-clause-made : goal.returns-clause-made
returns-clause-made g c clean built =
    creates c.args.table (state g.S.Store c.args.tx.now.conn.now) (state g.S.Store c.execute.new.tx.conn.now) c.execute.result (rw c.creation_of-sql.ensures at (c.execute.ensures.ran clean built.inside)) built

pub returns-clause-err : goal.returns-clause-err
returns-clause-err g c =
    creates_fail c.args.table (state g.S.Store c.args.tx.now.conn.now) (state g.S.Store c.execute.new.tx.conn.now) c.execute.result (λ clean inside. rw c.creation_of-sql.ensures at (c.execute.ensures.ran clean inside))

pub returns-clause-added : goal.returns-clause-added
returns-clause-added g c clean begun =
    adds_table c.args.table (state g.S.Store c.args.tx.now.conn.now) (state g.S.Store c.execute.new.tx.conn.now) c.execute.result (rw c.creation_of-sql.ensures at (c.execute.ensures.ran clean begun.inside)) begun
