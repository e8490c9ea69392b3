use Rattle.std.proofs.Common.{rules, refl, subst, Err}
use Rattle.sqlite.specs.declared.error.Error.TheVariants.{SqliteFailure}
use Rattle.sqlite.specs.declared.error.ErrorCode.TheVariants.{OutOfMemory}
use Rattle.sqlite.specs.Held.{state}
use Rattle.dav_rows.specs.Loading.{Reads, AreShown}
use Rattle.dav_rows.specs.Failing.{FailsText}
use Rattle.dav_rows.proofs.LoadingLemmas.{none_read, then_reads}
use Rattle.dav_rows.proofs.ReadingLemmas.{none_begun, has_begun, reads_on, reads_end, fails_midway}
use Rattle.dav_rows.proofs.reading.read_rows.Goals as goal

pub returns-in_err-rows-clause-reads : goal.returns-in_err-rows-clause-reads
returns-in_err-rows-clause-reads g c plain =
    none_begun g.S.Store c.args.sql.now plain c.args.conn.now c.query.follows.lender-at-none c.query.result c.in_err-rows.field-0.0 c.in_err-rows.was c.query.follows.holds-at-none
    c.from_residual.result c.from_residual.ensures.0

pub rows-init : goal.rows-init
rows-init g c = record {
  same_reference = refl;
  idle = c.in_ok-rows.ensures.mode c.requires;
  reads = λ plain. has_begun g.S.Store g.T.TableRow.entry g.T.TableRow.entry_in c.args.sql.now plain c.args.conn.now c.in_ok-rows.rows.conn.now c.new-all.result c.new-all.ensures.items c.in_ok-rows.ensures.begun c.in_ok-rows.ensures.survives;
}

pub returns-in_err-row-clause-reads : goal.returns-in_err-row-clause-reads
returns-in_err-row-clause-reads g c plain =
    let old = state g.S.Store c.args.conn.now in
    let new = state g.S.Store c.next_row.new.rows.conn.now in
    let it : Reads old new c.from_residual-in_err-row.result (λ all m. AreShown g.T.TableRow.entry g.T.TableRow.entry_in c.args.sql.now old new all) =
    none_read c.from_residual-in_err-row.result c.from_residual-in_err-row.ensures.0 (then_reads (c.rows.invariant.reads plain) c.in_err-row.ensures.reads) in
    search rules

pub returns-in_default-clause-reads : goal.returns-in_default-clause-reads
returns-in_default-clause-reads g c plain =
    let it = reads_end g.S.Store g.T.TableRow.entry g.T.TableRow.entry_in c.args.sql.now plain c.args.conn.now c.rows.rows.conn.now c.next_row.new.rows.conn.now c.rows.all
    (c.rows.invariant.reads plain) (rw c.in_default.is at c.in_ok-row.ensures.reads) in
    search rules

pub returns-in_err-push-clause-reads : goal.returns-in_err-push-clause-reads
returns-in_err-push-clause-reads g c plain =
    let old = state g.S.Store c.args.conn.now in
    let new = state g.S.Store c.next_row.new.rows.conn.now in
    let it : Reads old new c.from_residual-in_err-push.result (λ all m. AreShown g.T.TableRow.entry g.T.TableRow.entry_in c.args.sql.now old new all) =
    none_read c.from_residual-in_err-push.result c.from_residual-in_err-push.ensures.0 (then_reads (c.rows.invariant.reads plain) c.in_ok-row.ensures.reads) in
    search rules

pub rows-preserved : goal.rows-preserved
rows-preserved g c = record {
  same_reference = search rules;
  idle = c.in_ok-row.ensures.idle c.rows.invariant.idle;
  reads = λ plain.
      reads_on g.S.Store g.T.TableRow.entry g.T.TableRow.entry_in c.args.sql.now plain c.args.conn.now c.rows.rows.conn.now c.next_row.new.rows.conn.now c.rows.all c.push.new.self c.in-Some.row
      c.in_ok-push.ensures.items (c.rows.invariant.reads plain) (rw c.in-Some.is at c.in_ok-row.ensures.reads);
}

pub returns-clause-reads : goal.returns-clause-reads
returns-clause-reads g c plain =
    let old = state g.S.Store c.args.conn.now in
    let new = state g.S.Store c.rows.rows.conn.now in
    let it : Reads old new (Err (SqliteFailure OutOfMemory)) (λ all m. AreShown g.T.TableRow.entry g.T.TableRow.entry_in c.args.sql.now old new all) =
    none_read (Err (SqliteFailure OutOfMemory)) refl (c.rows.invariant.reads plain) in
    search rules

pub returns-in_err-row-clause-err : goal.returns-in_err-row-clause-err
returns-in_err-row-clause-err g c =
    subst (λ new. FailsText g.T.TableRow.IsReadable c.args.sql.now (state g.S.Store c.args.conn.now) new c.from_residual-in_err-row.result) (search rules)
    (λ plain. fails_midway g.S.Store g.T.TableRow.entry g.T.TableRow.entry_in c.args.sql.now plain g.T.TableRow.IsReadable c.args.conn.now c.rows.rows.conn.now c.next_row.new.rows.conn.now c.rows.all
    c.in_err-row.field-0.0 c.from_residual-in_err-row.result c.from_residual-in_err-row.ensures.1 (c.rows.invariant.reads plain) c.in_err-row.ensures.reads c.in_err-row.ensures.err)
