-- What contracts see of a store's log: this project's own choice.
use Rattle.std.specs.Prelude.{ℕ, List, [], map}
use Rattle.dav_key.specs.Key.{Key}
use Rattle.dav_resource.specs.PathText.{PathValue}
use Rattle.dav_resource.specs.declared.record.Op.{Op}
use Rattle.dav_resource.specs.declared.record.Outcome.{Outcome}
use Rattle.dav_resource.specs.declared.record.Record.{Record}

-- a record, with the keys of its paths
pub record Logged : Type 0 where
  pub op : Op
  pub keys : List Key
  pub outcome : Outcome
  pub statuses : List ℕ

abbrev pub logged_of : Record → Logged
logged_of r = record { op = r.op; keys = map (λ p. p.key) r.paths; outcome = r.outcome; statuses = r.statuses }

-- a record without statuses
abbrev pub logged : Op → List Key → Outcome → Logged
logged op keys outcome = record { op = op; keys = keys; outcome = outcome; statuses = [] }

-- the record of a call with these paths, which returned these statuses
abbrev pub record_with : Op → List PathValue → Outcome → List ℕ → Record
record_with op paths outcome statuses = record { op = op; paths = paths; outcome = outcome; statuses = statuses }

-- the record of a call with these paths, which returned no statuses
abbrev pub record_on : Op → List PathValue → Outcome → Record
record_on op paths outcome = record_with op paths outcome []
