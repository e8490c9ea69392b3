-- The view of a `Finder`, and how it interprets a store's results: this project's own choice.
use Rattle.std.specs.Prelude.{◌≡◌, ◌≢◌, ℕ, List, [], ◌∷◌, ◌++◌, Result, Ok, Err, IfOk, IfErr}
use Rattle.std.specs.Option.{option_copied}
use Rattle.dav_resource.specs.Errors.{fs_status}
use Rattle.dav_resource.specs.declared.error.DavError.{DavError}
use Rattle.dav_resource.specs.declared.error.DavError.TheVariants as dav
use Rattle.dav_resource.specs.declared.error.FsError.{FsError}
use Rattle.dav_resource.specs.declared.error.FsError.TheVariants as fs
use Rattle.dav_resource.specs.declared.record.Outcome.{Outcome}
use Rattle.dav_resource.specs.declared.record.Outcome.TheVariants.{Granted, Barred, Refused}
use Rattle.dav_store.specs.Locks.{Locks}
use Rattle.dav_store.specs.Logged.{Logged}
use Rattle.dav_store.specs.Store.{Facts}
use Rattle.dav_messages.specs.Conditions.{locks_in}
use Rattle.dav_find.specs.Finding.{View}
use Rattle.dav_find.specs.declared.finding.Finder.{Finder}

-- the view of a finder, over a store of these facts
abbrev pub view_of : {C L : Type 0} → (L → Locks) → Finder C L → Facts → View
view_of seen finder facts =
    record {
      kind = finder.search.now.kind;
      keeps = facts.keeps_properties;
      shows = facts.shows;
      locks = locks_in seen (option_copied finder.ls);
      principal = option_copied finder.principal;
      user_agent = option_copied finder.user_agent;
      profile = finder.profile;
    }

-- the status of a call's outcome: that of the error if the call was refused, otherwise 404
abbrev pub refusal_of : Outcome → ℕ
refusal_of Granted = 404
refusal_of (Barred e) = 404
refusal_of (Refused e) = fs_status e

-- this is the log's last record
abbrev pub IsLast : Logged → List Logged → Type 0
IsLast record_of log = (before : List Logged) × (log ≡ before ++ record_of ∷ [])

-- the store's value, or `Memory` if memory ran out, or otherwise the status of the log's last record, if the log has one
pub record ReturnsAnswer {A : Type 0} (log : List Logged) (answer : Result A FsError) (returned : Result (Result A ℕ) DavError) : Type 0 where
  pub granted : IfOk answer (λ a. returned ≡ Ok (Ok a))
  pub lacked : answer ≡ Err fs.Memory → returned ≡ Err dav.Memory
  pub declined : IfErr answer (λ e. e ≢ fs.Memory → (last : Logged) → IsLast last log → returned ≡ Ok (Err (refusal_of last.outcome)))
