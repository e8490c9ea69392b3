-- What the steps of a PROPPATCH's work do to a store.
use Rattle.std.specs.Prelude.{◌≡◌, ◌⊎◌, ℕ, List, ◌++◌, Result, Ok, Err, Vec}
use Rattle.std.specs.declared.alloc.Global.{Global}
use Rattle.dav_resource.specs.Errors.{from_fs}
use Rattle.dav_key.specs.Key.{Key}
use Rattle.dav_resource.specs.declared.error.DavError.{DavError}
use Rattle.dav_resource.specs.declared.error.DavError.TheVariants.{Memory}
use Rattle.dav_resource.specs.declared.error.FsError.{FsError}
use Rattle.dav_resource.specs.declared.profile.Profile.{Profile}
use Rattle.dav_resource.specs.declared.request.DavRequest.{DavRequest}
use Rattle.dav_store.specs.Logged.{Logged}
use Rattle.dav_store.specs.PropertyCalls.{Patch}
use Rattle.dav_store.specs.Store.{Store}
use Rattle.dav_messages.specs.Reply.{Answer}
use Rattle.dav_engine.specs.Proppatch.{Update, MakesChanges, ProppatchWork, ProppatchCut}
use Rattle.dav_engine.specs.Work.{WorksOnStore}

-- the log gained `records`, over which the store returned `store_answer` for these changes and made all of them or none (`MakesChanges`)
pub record StoresChanges (key : Key) (patches : List Patch) (old : Store) (store_answer : Result (List ℕ) FsError) (new : Store) : Type 0 where
  pub records : List Logged
  pub logged : new.log ≡ old.log ++ records
  pub fixed : new.facts ≡ old.facts
  pub stored : MakesChanges old.facts.keeps_properties key patches old.contents records store_answer new.contents

-- the error: `Memory`, and nothing happened; or that of the store's call, which made none of the changes
abbrev pub IsUnmade : Key → List Patch → Store → DavError → Store → Type 0
IsUnmade key patches old e new = ((e ≡ Memory) × (new ≡ old)) ⊎ ((cause : FsError) × (e ≡ from_fs cause) × StoresChanges key patches old (Err cause) new)

-- the statuses that the store returned, or the error because of which it made no change
abbrev pub Storing : Key → List Patch → Store → Result (Vec ℕ Global) DavError → Store → Type 0
Storing key patches old (Ok statuses) new = StoresChanges key patches old (Ok statuses.items) new
Storing key patches old (Err e) new = IsUnmade key patches old e new

-- the whole work, or work that stopped because memory ran out
abbrev pub Patching : Profile → DavRequest → Update → Store → Answer → Store → Type 0
Patching profile request update old =
    WorksOnStore (ProppatchWork profile old.facts.keeps_properties request update) (ProppatchCut old.facts.keeps_properties request update) old
