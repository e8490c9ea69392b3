use Rattle.sqlite.specs.Held.{state}
use Rattle.sqlite.specs.Steps.{over_memory}
use Rattle.sqlite.proofs.Callers.{memory_is_clean}
use Rattle.dav_rows.specs.Saving.{IsAt}
use Rattle.dav_rows.specs.Changes.{after}
use Rattle.dav_rows.specs.Creating.{first}
use Rattle.dav_rows.proofs.CreateLemmas.{whole}
use Rattle.dav_rows.proofs.LoadingLemmas.{given}
use Rattle.dav_rows.proofs.memory.round_trip.Goals as goal

pub returns : goal.returns
returns c =
    let empty_one = c.in_ok-conn.ensures.empty in
    let made = c.in_ok-create.ensures.ok (memory_is_clean c.create.new.conn) (record { is_open = empty_one.0.is_open; schema = empty_one.2; settled = empty_one.0.clean; sound = whole (state over_memory c.in_ok-conn.conn).now (empty_one.1 empty_one.0.is_open).0 }) in
    let saved = c.in_ok-save.ensures.ok (memory_is_clean c.save.new.conn) (first c.args.initial.now) made in
    given c.load.result (IsAt (state over_memory c.save.new.conn)) (IsAt (state over_memory c.load.new.conn)) (after c.args.changes.now (first c.args.initial.now)) (c.load.ensures.ok (memory_is_clean c.load.new.conn)) saved
