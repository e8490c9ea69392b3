-- What a crash leaves of files that were just opened.
use Rattle.std.proofs.Common.{◌≡◌, ◌∷◌, ◌∙◌, inl, inr, ℕ, Bool, true, false, if◌then◌else◌, List, [], ap, ap₂, sym, subst}
use Rattle.sqlite_disk.specs.Events.{Event, Model, replay, settled}
use Rattle.sqlite_disk.specs.History.{MayLeave}
use Rattle.sqlite_disk.specs.Modelled.{start_of}
use Rattle.sqlite_disk.specs.declared.calls.Calls as calls
use Rattle.sqlite_disk.specs.declared.modelled.Modelled.{Modelled}
use Rattle.sqlite_disk.specs.declared.start.Start.{Ghosts}
use Rattle.sqlite_std_file.specs.File.{IsFresh}
use Rattle.sqlite_std_file.specs.declared.host.Host.{Host}
use Rattle.sqlite.specs.Recovery.{Image}
use Rattle.davd.proofs.FreshFiles.{fresh_seen}

abbrev image : List ℕ → List ℕ → Image
image log db = record { log = log; db = db }

-- what a crash leaves of a file after these calls
abbrev LeavesOf : Bool → Model → List ℕ → Type 0
LeavesOf mixes m = MayLeave mixes m.seen m.synced m.steps

-- a file that was settled has what it held, and nothing since
settled_only : (start : List ℕ) (key : ℕ) (mixes : Bool) (events : List Event) → events ≡ settled key ∷ [] → (c : List ℕ) → LeavesOf mixes (replay start events) c → c ≡ start
settled_only start key mixes events is c may =
    elim (subst (λ (events : List Event). LeavesOf mixes (replay start events) c) is may) [ inl seen ↦ seen | inr synced ↦ synced ]

module _ {S : Type 0} {g : calls.Ghosts Host} {start : Ghosts S} where
  abbrev model_of : Modelled Host S g start → Model
  model_of f = replay (start_of start f) f.calls.log.events

  fresh_only : (f : Modelled Host S g start) (is_log : Bool) → IsFresh is_log f → (c : List ℕ) → LeavesOf start.is_mixing (model_of f) c → c ≡ start_of start f
  fresh_only f is_log fresh c may = settled_only (start_of start f) f.key start.is_mixing f.calls.log.events fresh.1 c may

  -- a crash leaves only what the files of a database held as they were opened
  pub fresh_outcomes : (log db : Modelled Host S g start) → IsFresh true log → IsFresh false db → (left : Image)
      → LeavesOf start.is_mixing (model_of log) left.log × LeavesOf start.is_mixing (model_of db) left.db → left ≡ image start.log start.db
  fresh_outcomes log db is_log is_db left may =
      let of : Bool → List ℕ = λ is_log. if is_log then start.log else start.db in
      ap₂ image (fresh_only log true is_log left.log may.0 ∙ ap of is_log.0) (fresh_only db false is_db left.db may.1 ∙ ap of is_db.0)

  -- and of one file only what it shows
  pub fresh_contents : (f : Modelled Host S g start) → IsFresh false f → (c : List ℕ) → LeavesOf start.is_mixing (model_of f) c → c ≡ (model_of f).seen
  fresh_contents f fresh c may =
      fresh_only f false fresh c may ∙ ap (λ (is_log : Bool). if is_log then start.log else start.db) fresh.0 ∙ sym (fresh_seen f fresh)
