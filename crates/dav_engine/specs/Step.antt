-- One step of the engine, which serves one request, and a run of steps, which serves a list of requests.
use Rattle.std.specs.Prelude.{◌≡◌, List, [], ◌∷◌, ◌++◌, Option}
use Rattle.dav_resource.specs.Methods.{method_of}
use Rattle.dav_resource.specs.declared.method.DavMethod.{DavMethod}
use Rattle.dav_resource.specs.declared.request.DavRequest.{DavRequest}
use Rattle.dav_store.specs.Logged.{Logged}
use Rattle.dav_messages.specs.Reply.{Answer}
use Rattle.dav_engine.specs.State.{State, Seen, state_of, facts_of, IsLawfulState, IsCompatible, HasSameSystem}
use Rattle.dav_engine.specs.Guarded.{IsGuarded}
use Rattle.dav_engine.specs.Law.{Law}
use Rattle.dav_engine.specs.Settings.{Settings}
use Rattle.dav_engine.specs.Methods.{Step}

-- The request is served as this method under these settings: the log gained `records`, over which `Step` gives this result and the new state. The
-- locks permit each change of a file, a directory or a dead property, except the empty file of a LOCK (`IsGuarded`). The laws of the method hold
-- (`Law`). The facts of the store and the lock system (`facts_of`) are unchanged, and compatible locks stay compatible.
pub record Serves (method : Option DavMethod) (settings : Settings) (old : Seen) (request : DavRequest) (answer : Answer) (new : Seen) : Type 0 where
  pub records : List Logged
  pub recorded : new.store.log ≡ old.store.log ++ records
  pub fixed : facts_of new ≡ facts_of old
  pub step : Step method settings request (state_of old) records answer (state_of new)
  pub guarded : IsGuarded method request (state_of old) (state_of new)
  pub law : Law method settings request (state_of old) records answer (state_of new)
  pub compatible : IsCompatible (state_of old) → IsCompatible (state_of new)

-- One request of a run, over its records: a `Step` as the request's own method, whose changes are guarded by the locks before it (`IsGuarded`), and
-- for which the laws of the method hold (`Law`). The state after it is one that a store and a lock system may be in (`IsLawfulState`), with the same
-- lock system (`HasSameSystem`).
pub record RunsOne (settings : Settings) (request : DavRequest) (old : State) (records : List Logged) (answer : Answer) (new : State) : Type 0 where
  pub step : Step (method_of request.method) settings request old records answer new
  pub guarded : IsGuarded (method_of request.method) request old new
  pub law : Law (method_of request.method) settings request old records answer new
  pub lawful : IsLawfulState new
  pub system : HasSameSystem old new

-- A run under settings that stay the same: the requests in order (`RunsOne`), with one result for each, and each over its own part of the records.
-- The parts, in order, are all the records. A run of no requests changes nothing.
abbrev pub Run : Settings → State → List DavRequest → List Logged → List Answer → State → Type 0
Run settings old [] records [] new = (records ≡ []) × (new ≡ old)
Run settings old (request ∷ requests) records (answer ∷ answers) new =
    (part rest : List Logged) × (mid : State) × (records ≡ part ++ rest)
    × RunsOne settings request old part answer mid × Run settings mid requests rest answers new
Run settings old [] records (answer ∷ answers) new = ⊥
Run settings old (request ∷ requests) records [] new = ⊥

-- A `Run` whose records are exactly what the log gained. The facts of the store and the lock system are unchanged, and compatible locks stay
-- compatible.
pub record Runs (settings : Settings) (old : Seen) (requests : List DavRequest) (answers : List Answer) (new : Seen) : Type 0 where
  pub records : List Logged
  pub recorded : new.store.log ≡ old.store.log ++ records
  pub fixed : facts_of new ≡ facts_of old
  pub run : Run settings (state_of old) requests records answers (state_of new)
  pub compatible : IsCompatible (state_of old) → IsCompatible (state_of new)
