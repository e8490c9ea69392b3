-- What requests reveal to a caller: nothing of what it may not see. This project's own choice.
use Rattle.std.specs.Prelude.{◌≡◌, true, List, [], ◌∷◌, ◌++◌, Option, Some, None}
use Rattle.dav_resource.specs.Methods.{method_of}
use Rattle.dav_resource.specs.declared.request.DavRequest.{DavRequest}
use Rattle.dav_rights.specs.declared.rule.Rule.{Rule}
use Rattle.dav_rights.specs.Rights.{may_list, may_read}
use Rattle.dav_store.specs.Logged.{Logged}
use Rattle.dav_messages.specs.Reply.{Answer}
use Rattle.dav_engine.specs.Methods.{Step}
use Rattle.dav_engine.specs.Settings.{Settings}
use Rattle.dav_engine.specs.State.{State, IsLawfulState, Seen, state_of}
use Rattle.dav_access.specs.Sight.{Sight, LooksAlike}

-- the states look alike to a caller: their contents do (`LooksAlike`), and their locks are the same
pub record AreAlike (sight : Sight) (one other : State) : Type 0 where
  pub contents : LooksAlike sight one.contents other.contents
  pub locks : other.locks ≡ one.locks
  pub reliable : other.reliable ≡ one.reliable

-- The requests may be served in order from this state, each as its own method by a `Step`, over these records and with these results. The state after
-- each is one that a store and a lock system may be in.
abbrev pub MayServe : Settings → State → List DavRequest → List Logged → List Answer → State → Type 0
MayServe settings old [] records [] new = (records ≡ []) × (new ≡ old)
MayServe settings old (request ∷ requests) records (answer ∷ answers) new =
    (part rest : List Logged) × (mid : State) × (records ≡ part ++ rest)
    × Step (method_of request.method) settings request old part answer mid × IsLawfulState mid × MayServe settings mid requests rest answers new
MayServe settings old [] records (answer ∷ answers) new = ⊥
MayServe settings old (request ∷ requests) records [] new = ⊥

-- from the other state too the requests may be served so, and what that leaves looks alike
pub record MayServeToo (sight : Sight) (settings : Settings) (requests : List DavRequest) (records : List Logged) (answers : List Answer) (other new : State) : Type 0 where
  pub after : State
  pub served : MayServe settings other requests records answers after
  pub alike : AreAlike sight new after

-- A caller cannot distinguish the state from any that looks alike: from each of those the requests may be served with the same records and results.
abbrev pub RevealsNothingElse : Sight → Settings → State → List DavRequest → List Logged → List Answer → State → Type 0
RevealsNothingElse sight settings old requests records answers new =
    (other : State) → IsLawfulState other → AreAlike sight old other → MayServeToo sight settings requests records answers other new

-- The requests revealed nothing else to a caller than that: over the records that the log has gained, any state that looks alike could have had these results.
pub record RevealsOnly (sight : Sight) (settings : Settings) (old : Seen) (requests : List DavRequest) (answers : List Answer) (new : Seen) : Type 0 where
  pub records : List Logged
  pub recorded : new.store.log ≡ old.store.log ++ records
  pub nothing_else : RevealsNothingElse sight settings (state_of old) requests records answers (state_of new)

-- what these rules let a caller see; without rules it sees everything
abbrev pub sight_by : Option (List Rule) → Sight
sight_by None = record { lists = λ key. true; reads = λ key. true }
sight_by (Some rules) = record { lists = λ key. may_list key rules; reads = λ key. may_read key rules }
