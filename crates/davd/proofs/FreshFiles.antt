-- What files show that were just opened.
use Rattle.std.proofs.Common.{◌≡◌, ℕ, Bool, true, false, List, ap₂}
use Rattle.std.specs.Prelude.{if◌then◌else◌}
use Rattle.sqlite_disk.specs.Events.{Event, replay}
use Rattle.sqlite_disk.specs.Modelled.{start_of}
use Rattle.sqlite_disk.specs.declared.calls.Calls as calls
use Rattle.sqlite_disk.specs.declared.modelled.Modelled.{Modelled}
use Rattle.sqlite_disk.specs.declared.start.Start.{Ghosts}
use Rattle.sqlite_std_file.specs.File.{IsFresh}
use Rattle.sqlite_std_file.specs.declared.host.Host.{Host}
use Rattle.sqlite.specs.Recovery.{Image}

abbrev image : List ℕ → List ℕ → Image
image log db = record { log = log; db = db }

module _ {S : Type 0} {g : calls.Ghosts Host} {start : Ghosts S} where
  -- a file shows what it held
  pub fresh_seen : (f : Modelled Host S g start) → IsFresh false f → (replay (start_of start f) f.calls.log.events).seen ≡ start.db
  fresh_seen f fresh =
      ap₂ (λ (is_log : Bool) (events : List Event). (replay (if is_log then start.log else start.db) events).seen) fresh.0 fresh.1

  -- and so does a log
  fresh_log : (f : Modelled Host S g start) → IsFresh true f → (replay (start_of start f) f.calls.log.events).seen ≡ start.log
  fresh_log f fresh =
      ap₂ (λ (is_log : Bool) (events : List Event). (replay (if is_log then start.log else start.db) events).seen) fresh.0 fresh.1

  -- so the two show what the files of a database held
  pub fresh_image : (log db : Modelled Host S g start) → IsFresh true log → IsFresh false db
      → image (replay (start_of start log) log.calls.log.events).seen (replay (start_of start db) db.calls.log.events).seen ≡ image start.log start.db
  fresh_image log db is_log is_db = ap₂ image (fresh_log log is_log) (fresh_seen db is_db)
