use Rattle.std.proofs.Common.{◌∙◌, inl, inr, arith, ap, sym, subst}
use Rattle.sqlite_trees.specs.Objects.{catalog_tree}
use Rattle.sqlite_trees.proofs.Doubt.{no_doubt}
use Rattle.sqlite.specs.State.{HasCleanDisk}
use Rattle.sqlite.specs.Files.{file_state, image_of}
use Rattle.sqlite.specs.Tree.{Trees}
use Rattle.dav_rows.specs.Changes.{after}
use Rattle.dav_rows.specs.Contents.{Holds}
use Rattle.dav_rows.specs.Creating.{first}
use Rattle.dav_rows_files.proofs.StartLemmas.{at_start, blank_start, older_start, known_found, unused_start, found_in, open_failed, open_failed_first, open_failed_older, load_stopped, first_stopped, next_only}
use Rattle.dav_rows_files.proofs.UnharmedLemmas.{open_unharmed, open_unharmed_first, open_unharmed_older, as_found, none_found, unused_or, older_or}
use Rattle.dav_rows_files.proofs.starting.start.Goals as goal

pub returns-in-Ok-bring_up_to_date-clause-at : goal.returns-in-Ok-bring_up_to_date-clause-at
returns-in-Ok-bring_up_to_date-clause-at g c clean m keeps =
    let early : HasCleanDisk (file_state c.in-Ok.conn) = omega (arith, c.bring_up_to_date.ensures.clean) in
    let opened = c.in-Ok.ensures.opened early in
    let found = found_in c.args.files c.in-Ok.conn (c.in-Ok.ensures.found early) in
    c.in-Ok-bring_up_to_date.ensures.ours clean m (at_start (file_state c.in-Ok.conn) (image_of g.D.Disk c.args.files) m opened.0 opened.1 found keeps)

pub returns-in-Ok-bring_up_to_date-clause-new : goal.returns-in-Ok-bring_up_to_date-clause-new
returns-in-Ok-bring_up_to_date-clause-new g c clean vacant =
    let early : HasCleanDisk (file_state c.in-Ok.conn) = omega (arith, c.bring_up_to_date.ensures.clean) in
    let opened = c.in-Ok.ensures.opened early in
    let found = found_in c.args.files c.in-Ok.conn (c.in-Ok.ensures.found early) in
    c.in-Ok-bring_up_to_date.ensures.blank clean (blank_start (file_state c.in-Ok.conn) (image_of g.D.Disk c.args.files) opened.0 opened.1 found vacant)

pub returns-in-Ok-bring_up_to_date-clause-upgraded : goal.returns-in-Ok-bring_up_to_date-clause-upgraded
returns-in-Ok-bring_up_to_date-clause-upgraded g c clean m keeps =
    let early : HasCleanDisk (file_state c.in-Ok.conn) = omega (arith, c.bring_up_to_date.ensures.clean) in
    let opened = c.in-Ok.ensures.opened early in
    let found = found_in c.args.files c.in-Ok.conn (c.in-Ok.ensures.found early) in
    c.in-Ok-bring_up_to_date.ensures.older clean m (older_start (file_state c.in-Ok.conn) (image_of g.D.Disk c.args.files) m opened.0 opened.1 found keeps)

pub returns-in-Ok-bring_up_to_date-clause-known : goal.returns-in-Ok-bring_up_to_date-clause-known
returns-in-Ok-bring_up_to_date-clause-known g c clean =
    let early : HasCleanDisk (file_state c.in-Ok.conn) = omega (arith, c.bring_up_to_date.ensures.clean) in
    let opened = c.in-Ok.ensures.opened early in
    let found = found_in c.args.files c.in-Ok.conn (c.in-Ok.ensures.found early) in
    known_found (file_state c.in-Ok.conn) (image_of g.D.Disk c.args.files) opened.0 opened.1 found c.in-Ok-bring_up_to_date.ensures.known

pub returns-in-Err-clause-err : goal.returns-in-Err-clause-err
returns-in-Err-clause-err g c = open_failed c.args.files c.in-Err.left c.in-Err.error c.in-Err.ensures.cause

pub returns-in-Err-clause-err_first : goal.returns-in-Err-clause-err_first
returns-in-Err-clause-err_first g c = open_failed_first c.args.files c.in-Err.left c.in-Err.error c.args.changes.now c.in-Err.ensures.cause

pub returns-in-Err-bring_up_to_date-clause-err : goal.returns-in-Err-bring_up_to_date-clause-err
returns-in-Err-bring_up_to_date-clause-err g c = λ clean m keeps utf8.
    let conn = file_state c.in-Ok.conn in
    let new = file_state c.bring_up_to_date.new.conn in
    let quiet = c.into_store.ensures.quiet in
    let late : HasCleanDisk new = omega (arith, quiet.clean, no_doubt _ clean) in
    let early : HasCleanDisk conn = omega (arith, late, c.bring_up_to_date.ensures.clean) in
    let opened = c.in-Ok.ensures.opened early in
    let found = found_in c.args.files c.in-Ok.conn (c.in-Ok.ensures.found early) in
    let at = at_start conn (image_of g.D.Disk c.args.files) m opened.0 opened.1 found keeps in
    load_stopped conn new c.into_store.result c.in-Err-bring_up_to_date.error c.in-Ok.ensures.fresh.unlimited quiet.counts (c.in-Err-bring_up_to_date.ensures.err late m at utf8)

pub returns-in-Err-bring_up_to_date-clause-err_first : goal.returns-in-Err-bring_up_to_date-clause-err_first
returns-in-Err-bring_up_to_date-clause-err_first g c = λ clean unused.
    let conn = file_state c.in-Ok.conn in
    let new = file_state c.bring_up_to_date.new.conn in
    let quiet = c.into_store.ensures.quiet in
    let late : HasCleanDisk new = omega (arith, quiet.clean, no_doubt _ clean) in
    let early : HasCleanDisk conn = omega (arith, late, c.bring_up_to_date.ensures.clean) in
    let opened = c.in-Ok.ensures.opened early in
    let found = found_in c.args.files c.in-Ok.conn (c.in-Ok.ensures.found early) in
    let blank = unused_start conn (image_of g.D.Disk c.args.files) opened.0 opened.1 found unused in
    first_stopped conn new c.into_store.result c.args.changes.now c.in-Err-bring_up_to_date.error c.in-Ok.ensures.fresh.unlimited quiet.counts (c.in-Err-bring_up_to_date.ensures.err_blank late blank)

pub returns-in-Err-clause-err_older : goal.returns-in-Err-clause-err_older
returns-in-Err-clause-err_older g c = open_failed_older c.args.files c.in-Err.left c.in-Err.error c.args.upgrade.now c.in-Err.ensures.cause

pub returns-in-Err-bring_up_to_date-clause-err_older : goal.returns-in-Err-bring_up_to_date-clause-err_older
returns-in-Err-bring_up_to_date-clause-err_older g c = λ clean m keeps.
    let conn = file_state c.in-Ok.conn in
    let new = file_state c.bring_up_to_date.new.conn in
    let quiet = c.into_store.ensures.quiet in
    let late : HasCleanDisk new = omega (arith, quiet.clean, no_doubt _ clean) in
    let early : HasCleanDisk conn = omega (arith, late, c.bring_up_to_date.ensures.clean) in
    let opened = c.in-Ok.ensures.opened early in
    let found = found_in c.args.files c.in-Ok.conn (c.in-Ok.ensures.found early) in
    let was = older_start conn (image_of g.D.Disk c.args.files) m opened.0 opened.1 found keeps in
    first_stopped conn new c.into_store.result c.args.upgrade.now c.in-Err-bring_up_to_date.error c.in-Ok.ensures.fresh.unlimited quiet.counts (c.in-Err-bring_up_to_date.ensures.err_older late m was)

pub returns-in-Err-clause-unharmed : goal.returns-in-Err-clause-unharmed
returns-in-Err-clause-unharmed g c = open_unharmed c.args.files c.in-Err.left c.in-Err.ensures.unharmed

pub returns-in-Err-clause-unharmed_first : goal.returns-in-Err-clause-unharmed_first
returns-in-Err-clause-unharmed_first g c = open_unharmed_first c.args.files c.in-Err.left c.in-Err.ensures.unharmed (first c.args.changes.now)

pub returns-in-Err-clause-unharmed_older : goal.returns-in-Err-clause-unharmed_older
returns-in-Err-clause-unharmed_older g c = open_unharmed_older c.args.files c.in-Err.left c.in-Err.ensures.unharmed (after c.args.upgrade.now)

pub returns-in-Err-bring_up_to_date-clause-unharmed : goal.returns-in-Err-bring_up_to_date-clause-unharmed
returns-in-Err-bring_up_to_date-clause-unharmed g c m keeps clean left may =
    let conn = file_state c.in-Ok.conn in
    let closed = c.into_store.ensures in
    let sure = no_doubt _ clean in
    let late : HasCleanDisk (file_state c.bring_up_to_date.new.conn) = omega (arith, closed.quiet.clean, sure) in
    let early : HasCleanDisk conn = omega (arith, late, c.bring_up_to_date.ensures.clean) in
    let opened = c.in-Ok.ensures.opened early in
    let found = found_in c.args.files c.in-Ok.conn (c.in-Ok.ensures.found early) in
    let at = at_start conn (image_of g.D.Disk c.args.files) m opened.0 opened.1 found keeps in
    inr (inl (next_only c.into_store.result m (closed.numbered sure) (λ db may.
    let was = c.bring_up_to_date.ensures.crash late m at db (closed.quiet.outcomes db may) in
    let same = as_found c.in-Ok.conn g.met.D.Disk.seen_may_stay opened.0 db was ∙ found.holds keeps.db keeps.database in
    subst (λ db. Holds db m) (sym same) keeps.holds) left may))

pub returns-in-Err-bring_up_to_date-clause-unharmed_first : goal.returns-in-Err-bring_up_to_date-clause-unharmed_first
returns-in-Err-bring_up_to_date-clause-unharmed_first g c unused clean left may =
    let conn = file_state c.in-Ok.conn in
    let closed = c.into_store.ensures in
    let sure = no_doubt _ clean in
    let late : HasCleanDisk (file_state c.bring_up_to_date.new.conn) = omega (arith, closed.quiet.clean, sure) in
    let early : HasCleanDisk conn = omega (arith, late, c.bring_up_to_date.ensures.clean) in
    let opened = c.in-Ok.ensures.opened early in
    let found = found_in c.args.files c.in-Ok.conn (c.in-Ok.ensures.found early) in
    let blank = unused_start conn (image_of g.D.Disk c.args.files) opened.0 opened.1 found unused in
    let none = none_found c.in-Ok.conn (image_of g.D.Disk c.args.files) found unused in
    inr (inl (unused_or c.into_store.result (closed.numbered sure) (closed.sound sure) left may (first c.args.changes.now) (λ db may.
    elim (c.bring_up_to_date.ensures.blank_crash late blank db (closed.quiet.outcomes db may)) [
      | inl was ↦ inl (ap (λ (db : Trees). db catalog_tree) (as_found c.in-Ok.conn g.met.D.Disk.seen_may_stay opened.0 db was) ∙ none)
      | inr made ↦ inr made
    ])))

pub returns-in-Err-bring_up_to_date-clause-unharmed_older : goal.returns-in-Err-bring_up_to_date-clause-unharmed_older
returns-in-Err-bring_up_to_date-clause-unharmed_older g c m keeps clean left may =
    let conn = file_state c.in-Ok.conn in
    let closed = c.into_store.ensures in
    let sure = no_doubt _ clean in
    let late : HasCleanDisk (file_state c.bring_up_to_date.new.conn) = omega (arith, closed.quiet.clean, sure) in
    let early : HasCleanDisk conn = omega (arith, late, c.bring_up_to_date.ensures.clean) in
    let opened = c.in-Ok.ensures.opened early in
    let found = found_in c.args.files c.in-Ok.conn (c.in-Ok.ensures.found early) in
    let was = older_start conn (image_of g.D.Disk c.args.files) m opened.0 opened.1 found keeps in
    inr (inl (older_or c.into_store.result (closed.numbered sure) (closed.sound sure) left may (image_of g.D.Disk c.args.files) m (after c.args.upgrade.now m) keeps (λ db may.
    elim (c.bring_up_to_date.ensures.older_crash late m was db (closed.quiet.outcomes db may)) [
      | inl before ↦ inl (as_found c.in-Ok.conn g.met.D.Disk.seen_may_stay opened.0 db before ∙ found.holds keeps.db keeps.database)
      | inr upgraded ↦ inr upgraded
    ])))
