use Rattle.std.proofs.Common.{arith}
use Rattle.sqlite.specs.State.{HasCleanDisk}
use Rattle.sqlite.specs.Held.{state}
use Rattle.dav_rows.specs.Creating.{first, IsBlank}
use Rattle.dav_rows.proofs.LoadingLemmas.{read_where}
use Rattle.dav_rows.proofs.CreateFailLemmas.{loaded_fails}
use Rattle.dav_rows.proofs.opening.create_and_load.Goals as goal

pub returns-clause-ok : goal.returns-clause-ok
returns-clause-ok g c clean =
    let early : HasCleanDisk (state g.S.Store c.create.new.conn) = omega (arith, c.read_all.ensures.reads.clean) in
    read_where (state g.S.Store c.create.new.conn) (state g.S.Store c.read_all.new.conn) c.read_all.result (IsBlank (state g.S.Store c.args.conn.now)) (first c.args.changes.now) (c.read_all.ensures.reads.ok clean) (c.in_ok-create.ensures.ok early)

pub returns-clause-crash : goal.returns-clause-crash
returns-clause-crash g c clean blank db may =
    let early : HasCleanDisk (state g.S.Store c.create.new.conn) = omega (arith, c.read_all.ensures.reads.clean) in
    c.in_ok-create.ensures.crash early blank db (c.read_all.ensures.reads.crash clean (first c.args.changes.now) (c.in_ok-create.ensures.ok early blank) db may)

pub returns-clause-err : goal.returns-clause-err
returns-clause-err g c =
    loaded_fails (state g.S.Store c.args.conn.now) (state g.S.Store c.create.new.conn) (state g.S.Store c.read_all.new.conn) c.args.changes.now c.read_all.result
    c.create.ensures.faults c.create.ensures.limit c.read_all.ensures.reads.clean c.in_ok-create.ensures.ok c.read_all.ensures.err
