-- What contracts see of a store that wraps another one: this project's own choice.
use Rattle.std.specs.Prelude.{Bool, List, [], ◌∷◌}
use Rattle.dav_key.specs.Key.{Key}
use Rattle.dav_resource.specs.declared.record.Outcome.{Outcome}
use Rattle.dav_resource.specs.declared.record.Outcome.TheVariants.{Granted}
use Rattle.dav_store.specs.Logged.{Logged}
use Rattle.dav_store.specs.Store.{Store, Facts}

-- the outcome of the last record; granted if there is none
abbrev pub last_outcome : List Logged → Outcome
last_outcome [] = Granted
last_outcome (r ∷ []) = r.outcome
last_outcome (r ∷ next ∷ rs) = last_outcome (next ∷ rs)

-- which records of granted calls the wrapper allows, and which members its listings may show, by the facts of the wrapped store
pub record Leave : Type 0 where
  pub allows : Facts → Logged → Bool
  pub shows : Facts → Key → Bool

abbrev pub with_leave : Leave → Facts → Facts
with_leave leave facts = record facts { allows = leave.allows facts; shows = leave.shows facts }

-- the wrapped store, but allowed and shown is what the wrapper says, and the log is this one
abbrev pub seen_with : Leave → Store → List Logged → Store
seen_with leave store log = record { contents = store.contents; facts = with_leave leave store.facts; log = log }
