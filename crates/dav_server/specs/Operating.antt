-- What a host asks for its operator: which locks there are, to remove a lock, and when a resource was last modified. This project's own choice.
use Rattle.std.specs.Prelude.{◌≡◌, ◌⊎◌, ℕ, false, List, [], map, Some, None, Result, Ok, Err}
use Rattle.std.specs.FinMap.{get}
use Rattle.std.specs.Option.{option_map_or, ForSome}
use Rattle.dav_key.specs.Key.{Key}
use Rattle.dav_resource.specs.Errors.{dav_status}
use Rattle.dav_resource.specs.PathForms.{prefixed}
use Rattle.dav_resource.specs.PathText.{PathValue, url_text}
use Rattle.dav_resource.specs.declared.error.DavError.{DavError}
use Rattle.dav_store.specs.Locks.{Locks}
use Rattle.dav_store.specs.LockCalls.{has_named, RemovesLock, KeepsNamed}
use Rattle.dav_store.specs.declared.lock.DavLock.{DavLock}
use Rattle.dav_store.specs.declared.lock.LockError.{LockError}
use Rattle.dav_store.specs.declared.lock.LockError.TheVariants as errors
use Rattle.dav_tree.specs.Modified.{SetsModified}
use Rattle.dav_wire.specs.Frames.{UnlockValue, ModifiedValue}
use Rattle.dav_wire.specs.Replies.{LockValue, ReplyValue}
use Rattle.dav_wire.specs.Replies as replies
use Rattle.dav_server.specs.State.{ServerState, locks_at, with_store}

-- the frame asks nothing that can be done: its path is no path of this server, which has the status of that error, or memory runs out
abbrev pub IsUnread : DavError → ReplyValue → Type 0
IsUnread e reply = (reply ≡ replies.Failed (dav_status e)) ⊎ (reply ≡ replies.Failed 507)

-- ---- which locks there are

-- a lock, as a reply has it
abbrev pub lock_value : DavLock → LockValue
lock_value lock =
    record { token = lock.token; path = url_text (prefixed lock.path); principal = lock.principal; deep = lock.deep; shared = lock.shared; expires = lock.timeout_at }

-- the locks, the oldest first; none without a lock system
abbrev pub locks_in : ServerState → List DavLock
locks_in state = option_map_or (λ list. list) (locks_at state) []

-- the reply has the locks; or memory runs out
abbrev pub ListsLocks : ServerState → ReplyValue → Type 0
ListsLocks state reply = (reply ≡ replies.Locks (map lock_value (locks_in state))) ⊎ (reply ≡ replies.Failed 507)

-- ---- a lock that is removed

-- there is such a lock, it is removed, and nothing else changes
pub record RemovesNamed (key : Key) (token : List ℕ) (old new : ServerState) : Type 0 where
  pub before : Locks
  pub after : Locks
  pub there : old.seen.locks ≡ Some before
  pub removes : RemovesLock key token before after
  pub same : new ≡ record old { seen = record old.seen { locks = Some after } }

-- why a lock is not removed: there is no such lock (404), or `unlock` is not reliable (500)
abbrev pub IsNotRemoved : Key → List ℕ → ServerState → ℕ → Type 0
IsNotRemoved key token state status =
    ((status ≡ 404) × (has_named key token (locks_in state) ≡ false)) ⊎ ((status ≡ 500) × ForSome state.seen.locks (KeepsNamed key token))

-- the status of the reply where the lock system does not remove a lock
abbrev pub lock_status_of : LockError → ℕ
lock_status_of errors.NotFound = 404
lock_status_of e = 500

-- what the lock system does, by its result
abbrev pub Unlocks : Key → List ℕ → Result (Unit {0}) LockError → ServerState → ServerState → Type 0
Unlocks key token (Ok done) old new = RemovesNamed key token old new
Unlocks key token (Err e) old new = (new ≡ old) × IsNotRemoved key token old (lock_status_of e)

-- the lock at the path or above it that has the token is removed; or the lock system does not remove it, and nothing changes
abbrev pub RemovesAt : Key → List ℕ → ServerState → ReplyValue → ServerState → Type 0
RemovesAt key token old replies.Done new = RemovesNamed key token old new
RemovesAt key token old (replies.Failed status) new = (new ≡ old) × IsNotRemoved key token old status
RemovesAt key token old _ new = ⊥

abbrev pub RemovesAsked : Result PathValue DavError → UnlockValue → ServerState → ReplyValue → ServerState → Type 0
RemovesAsked (Ok path) asked old reply new = RemovesAt path.key asked.token old reply new ⊎ ((new ≡ old) × (reply ≡ replies.Failed 507))
RemovesAsked (Err e) asked old reply new = (new ≡ old) × IsUnread e reply

-- ---- when a resource was last modified

-- the resource of this key has the new time, and nothing else changes
pub record ChangesTime (key : Key) (time : ℕ) (old new : ServerState) : Type 0 where
  pub sets : SetsModified key time old.seen.store new.seen.store
  pub same : new ≡ with_store old new.seen.store

-- it has it; or there is no resource (404) or no memory (507), and nothing changes
abbrev pub ChangesAt : Key → ℕ → ServerState → ReplyValue → ServerState → Type 0
ChangesAt key time old replies.Done new = ChangesTime key time old new
ChangesAt key time old (replies.Failed status) new = (new ≡ old) × (((status ≡ 404) × (get old.seen.store.contents.tree key ≡ None)) ⊎ (status ≡ 507))
ChangesAt key time old _ new = ⊥

abbrev pub ChangesAsked : Result PathValue DavError → ModifiedValue → ServerState → ReplyValue → ServerState → Type 0
ChangesAsked (Ok path) asked old reply new = ChangesAt path.key asked.time old reply new
ChangesAsked (Err e) asked old reply new = (new ≡ old) × IsUnread e reply
