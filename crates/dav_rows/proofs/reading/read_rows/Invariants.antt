use Rattle.std.proofs.Common.{◌≡◌, false, Ok}
use Rattle.sqlite.specs.Held.{state}
use Rattle.sqlite.specs.Given.{IsPlain}
use Rattle.sqlite.specs.Listing.{understood}
use Rattle.dav_rows.specs.Tables.{rows_schema}
use Rattle.dav_rows.specs.Loading.{Reads}
use Rattle.dav_rows.proofs.ReadingLemmas.{HasRead}
use Rattle.dav_rows.proofs.reading.read_rows.Given as goal

abbrev pub invariant-rows : goal.invariant-rows
invariant-rows g l = record {
  same_reference : l.rows.conn.ghost_name ≡ l.initial.rows.conn.ghost_name;
  idle : l.rows.conn.now.in_transaction ≡ false;
  reads : (plain : IsPlain (understood rows_schema l.sql)) → Reads (state g.S.Store l.fn.conn) (state g.S.Store l.rows.conn.now) (Ok l.all) (λ all m. HasRead g.S.Store g.T.TableRow.entry g.T.TableRow.entry_in l.sql plain l.fn.conn l.rows.conn.now all);
}
