-- What holds of every request, whatever its method and its result: where it may change something, by which calls, and which locks it may change (RFC
-- 4918, sections 6, 7 and 9).
use Rattle.std.specs.Prelude.{◌≡◌, ◌≢◌, ◌||◌, ◌&&◌, Bool, true, false, List, [], ◌∷◌, Option, Some, None, Result, Ok, Err}
use Rattle.std.specs.List.{list_any}
use Rattle.std.specs.Option.{option_map_or}
use Rattle.dav_key.specs.Key.{Key, is_same_key}
use Rattle.dav_resource.specs.PathText.{PathValue}
use Rattle.dav_resource.specs.declared.error.DavError.{DavError}
use Rattle.dav_resource.specs.declared.method.DavMethod.{DavMethod}
use Rattle.dav_resource.specs.declared.method.DavMethod.TheVariants.{Put, Patch, PropPatch, MkCol, Copy, Move, Delete, Lock, Unlock}
use Rattle.dav_resource.specs.declared.record.Op.{Op}
use Rattle.dav_resource.specs.declared.record.Op.TheVariants as ops
use Rattle.dav_resource.specs.declared.record.Outcome.{Outcome}
use Rattle.dav_resource.specs.declared.record.Outcome.TheVariants.{Granted}
use Rattle.dav_resource.specs.declared.request.DavRequest.{DavRequest}
use Rattle.dav_headers.specs.Destination.{destination_of}
use Rattle.dav_headers.specs.LockToken.{lock_token_of}
use Rattle.dav_store.specs.Locks.{is_at_or_below, is_submitted}
use Rattle.dav_store.specs.LockCalls.{is_named}
use Rattle.dav_store.specs.Logged.{Logged}
use Rattle.dav_store.specs.Members.{IsIn}
use Rattle.dav_store.specs.declared.lock.DavLock.{DavLock}
use Rattle.dav_messages.specs.Conditions.{submitted_tokens}
use Rattle.dav_walks.specs.KeyCall.{standing}
use Rattle.dav_engine.specs.Locking.{is_refresh}
use Rattle.dav_engine.specs.Settings.{Settings}
use Rattle.dav_engine.specs.State.{State}

-- ---- where a request changes something

-- the key is at or below the path, if there is one
abbrev pub is_within : Result PathValue DavError → Key → Bool
is_within (Ok path) key = is_at_or_below key path.key
is_within (Err e) key = false

-- the key is at or below the path in `Destination`
abbrev pub is_at_destination : Settings → DavRequest → Key → Bool
is_at_destination settings request key = is_within (destination_of request.headers settings.prefix) key

-- The keys at which a method may change a file, a directory or a dead property: DELETE and MOVE at the path and below it, COPY and MOVE at the path
-- in `Destination` and below that, and MKCOL, PUT, PATCH, LOCK and PROPPATCH at the path alone. Any other method changes none.
abbrev pub may_change : Option DavMethod → Settings → DavRequest → Key → Bool
may_change (Some Delete) settings request key = is_at_or_below key request.path.key
may_change (Some Copy) settings request key = is_at_destination settings request key
may_change (Some Move) settings request key = is_at_or_below key request.path.key || is_at_destination settings request key
may_change (Some MkCol) settings request key = is_same_key key request.path.key
may_change (Some Put) settings request key = is_same_key key request.path.key
may_change (Some Patch) settings request key = is_same_key key request.path.key
may_change (Some Lock) settings request key = is_same_key key request.path.key
may_change (Some PropPatch) settings request key = is_same_key key request.path.key
may_change _ settings request key = false

-- at every other key the file (with its bytes) or directory stays the same, and so do the dead properties
abbrev pub KeepsElsewhere : Option DavMethod → Settings → DavRequest → State → State → Type 0
KeepsElsewhere method settings request old new =
    (key : Key) → may_change method settings request key ≡ false → standing new.contents key ≡ standing old.contents key

-- ---- by which calls

-- a granted call of this kind on these keys may change what is at the key: it writes or removes there, copies a file to there, or renames something
-- at or above it, from there or to there
abbrev pub changes : Op → List Key → Key → Bool
changes ops.OpenFile (at ∷ []) key = is_same_key key at
changes ops.WriteBytes (at ∷ []) key = is_same_key key at
changes ops.CreateDir (at ∷ []) key = is_same_key key at
changes ops.RemoveFile (at ∷ []) key = is_same_key key at
changes ops.RemoveDir (at ∷ []) key = is_same_key key at
changes ops.PatchProps (at ∷ []) key = is_same_key key at
changes ops.Copy (from ∷ to ∷ []) key = is_same_key key to
changes ops.Rename (from ∷ to ∷ []) key = is_at_or_below key from || is_at_or_below key to
changes _ keys key = false

abbrev pub was_granted : Outcome → Bool
was_granted Granted = true
was_granted _ = false

-- the record is of such a call, and it was granted
abbrev pub changes_at : Key → Logged → Bool
changes_at key call = was_granted call.outcome && changes call.op call.keys key

-- what no granted call among the records may change stays the same: the file (with its bytes) or directory, and the dead properties
abbrev pub KeepsUnrecorded : List Logged → State → State → Type 0
KeepsUnrecorded records old new = (key : Key) → list_any (changes_at key) records ≡ false → standing new.contents key ≡ standing old.contents key

-- a call that may change something, and was granted
abbrev pub is_change : Op → Bool
is_change ops.OpenFile = true
is_change ops.WriteBytes = true
is_change ops.CreateDir = true
is_change ops.RemoveFile = true
is_change ops.RemoveDir = true
is_change ops.PatchProps = true
is_change ops.Copy = true
is_change ops.Rename = true
is_change _ = false

abbrev pub made_change : Logged → Bool
made_change call = was_granted call.outcome && is_change call.op

-- if no such call is among the records, the contents are the same, with all metadata
abbrev pub IsUntouched : List Logged → State → State → Type 0
IsUntouched records old new = list_any made_change records ≡ false → new.contents ≡ old.contents

-- ---- which locks

-- the lock exists
abbrev pub HasLock : DavLock → State → Type 0
HasLock lock state = (list : List DavLock) × (state.locks ≡ Some list) × IsIn lock list

-- a DELETE, COPY or MOVE removes only locks whose own path it may change, and that it submits as their principal
abbrev pub may_remove_lock : Option DavMethod → Settings → DavRequest → DavLock → Bool
may_remove_lock method settings request lock =
    may_change method settings request lock.path.key && is_submitted request.principal false (submitted_tokens request) lock

-- The request may remove the lock, or change its timeout: an UNLOCK may that names it in `Lock-Token`, a refresh that names it in `If`, and a DELETE,
-- COPY or MOVE as above. Any other request changes no lock.
abbrev pub may_change_lock : Option DavMethod → Settings → DavRequest → DavLock → Bool
may_change_lock (Some Unlock) settings request lock =
    option_map_or (λ token. is_named request.path.key token lock) (lock_token_of request.headers) false
may_change_lock (Some Lock) settings request lock =
    is_refresh settings.facts.bodies request.body && list_any (λ token. is_named request.path.key token lock) (submitted_tokens request)
may_change_lock (Some Delete) settings request lock = may_remove_lock (Some Delete) settings request lock
may_change_lock (Some Copy) settings request lock = may_remove_lock (Some Copy) settings request lock
may_change_lock (Some Move) settings request lock = may_remove_lock (Some Move) settings request lock
may_change_lock _ settings request lock = false

-- a lock without its timeout
abbrev pub untimed : DavLock → DavLock
untimed lock = record lock { timeout = None; timeout_at = None }

-- Every other lock stays as it is. Only a LOCK adds a lock or changes a timeout, and it removes none.
pub record KeepsOtherLocks (method : Option DavMethod) (settings : Settings) (request : DavRequest) (old new : State) : Type 0 where
  pub kept : (lock : DavLock) → HasLock lock old → may_change_lock method settings request lock ≡ false → HasLock lock new
  pub none_new : method ≢ Some Lock → (lock : DavLock) → HasLock lock new → HasLock lock old
  pub none_gone : method ≡ Some Lock → (lock : DavLock) → HasLock lock old → (now : DavLock) × HasLock now new × (untimed now ≡ untimed lock)

-- where the request changes something, by which calls, and which locks it changes
pub record IsBounded (method : Option DavMethod) (settings : Settings) (request : DavRequest) (old : State) (records : List Logged) (new : State)
    : Type 0 where
  pub elsewhere : KeepsElsewhere method settings request old new
  pub unrecorded : KeepsUnrecorded records old new
  pub untouched : IsUntouched records old new
  pub locks : KeepsOtherLocks method settings request old new
