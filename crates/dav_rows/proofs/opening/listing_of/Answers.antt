use Rattle.sqlite.specs.Held.{state}
use Rattle.dav_rows.proofs.ListingTexts.{listing_text, lists_none}
use Rattle.dav_rows.proofs.LoadingLemmas.{blank_read}
use Rattle.dav_rows.proofs.ListingLemmas.{blank_listed}
use Rattle.dav_rows.proofs.OnlyReads.{listed_alone}
use Rattle.dav_rows.proofs.FailLemmas.{listing_excused}
use Rattle.dav_rows.proofs.opening.listing_of.Goals as goal

pub returns-clause-blank : goal.returns-clause-blank
returns-clause-blank g c =
    let old = state g.S.Store c.args.conn.now in
    let new = state g.S.Store c.query_all.new.self in
    blank_listed old new c.query_all.result (blank_read listing_text old new lists_none.plain c.query_all.result c.query_all.ensures.ok c.query_all.ensures.err c.query_all.ensures.survives)

pub returns-clause-alone : goal.returns-clause-alone
returns-clause-alone g c =
    listed_alone (state g.S.Store c.args.conn.now) (state g.S.Store c.query_all.new.self) c.query_all.result c.query_all.ensures.ok c.query_all.ensures.survives

pub returns-clause-err_blank : goal.returns-clause-err_blank
returns-clause-err_blank g c = listing_excused (state g.S.Store c.args.conn.now) (state g.S.Store c.query_all.new.self) c.query_all.result c.query_all.ensures.err
