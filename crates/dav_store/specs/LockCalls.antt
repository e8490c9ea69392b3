-- What the calls of a lock system do to its locks (RFC 4918, sections 6.5, 6.6, 9.10 and 9.11).
use Rattle.std.specs.Prelude.{◌≡◌, ℕ, ◌+◌, ◌-◌, ◌^◌, min, Bool, true, false, not, ◌&&◌, if◌then◌else◌, List, [], ◌∷◌, ◌++◌, map, Option, Some, ◌⊎◌}
use Rattle.std.specs.List.{filter, find, list_any, IsDistinct}
use Rattle.std.specs.Option.{option_map}
use Rattle.std.specs.Str.{bytes_eq}
use Rattle.dav_key.specs.Key.{Key}
use Rattle.dav_resource.specs.PathText.{PathValue}
use Rattle.dav_resource.specs.Tree as elements
use Rattle.dav_store.specs.declared.lock.DavLock.{DavLock}
use Rattle.dav_store.specs.declared.lock.LockError.{LockError}
use Rattle.dav_store.specs.declared.lock.LockError.TheVariants.{Conflict, NotFound, Failed, Memory}
use Rattle.dav_store.specs.Locks.{Locks, is_at_or_below, has_token, grants, elsewhere}

-- no two locks have the same token
abbrev pub HasDistinctTokens : List DavLock → Type 0
HasDistinctTokens locks = IsDistinct bytes_eq (map (λ lock. lock.token) locks)

-- when a timeout that begins now ends, in whole seconds since 1970, at most the greatest u64; none without a timeout
abbrev pub timeout_end : ℕ → Option ℕ → Option ℕ
timeout_end now timeout = option_map (λ seconds. min (now + seconds) (2 ^ 64 - 1)) timeout

-- the requested lock
abbrev pub asked_lock : PathValue → Option (List ℕ) → Option elements.Tree → Option ℕ → Bool → Bool → List ℕ → ℕ → DavLock
asked_lock path principal owner timeout shared deep token now =
    record { token = token; path = path; principal = principal; owner = owner; timeout = timeout; timeout_at = timeout_end now timeout; shared = shared; deep = deep }

-- the lock is granted, and is added at the end of the list
pub record AddsLock (lock : DavLock) (old new : Locks) : Type 0 where
  pub granted : grants old.list lock ≡ true
  pub added : new ≡ record old { list = old.list ++ lock ∷ [] }

-- `Memory`, or `Conflict` if the lock cannot be granted
abbrev pub RefusesLock : Locks → DavLock → LockError → Type 0
RefusesLock old lock e = (e ≡ Memory) ⊎ ((e ≡ Conflict) × (grants old.list lock ≡ false))

-- ---- the lock identified by a token and a path

-- the lock has the token, and its key is this key or above it
abbrev pub is_named : Key → List ℕ → DavLock → Bool
is_named key token lock = has_token token lock && is_at_or_below key lock.path.key

abbrev pub has_named : Key → List ℕ → List DavLock → Bool
has_named key token locks = list_any (is_named key token) locks

abbrev pub without_named : Key → List ℕ → List DavLock → List DavLock
without_named key token locks = filter (λ lock. not (is_named key token lock)) locks

-- there is such a lock, and it is removed
pub record RemovesLock (key : Key) (token : List ℕ) (old new : Locks) : Type 0 where
  pub named : has_named key token old.list ≡ true
  pub removed : new ≡ record old { list = without_named key token old.list }

-- there is no such lock, or `unlock` is not reliable
abbrev pub KeepsNamed : Key → List ℕ → Locks → Type 0
KeepsNamed key token locks = (locks.reliable.unlock && has_named key token locks.list) ≡ false

-- `NotFound` if there is no such lock, or `Failed`; a reliable `unlock` does not fail if there is such a lock
abbrev pub RefusesUnlock : Key → List ℕ → Locks → LockError → Type 0
RefusesUnlock key token old e = ((e ≡ NotFound) × (has_named key token old.list ≡ false)) ⊎ ((e ≡ Failed) × KeepsNamed key token old)

-- the lock with a timeout that begins now
abbrev pub refreshed : Option ℕ → ℕ → DavLock → DavLock
refreshed timeout now lock = record lock { timeout = timeout; timeout_at = timeout_end now timeout }

-- the locks with that lock refreshed
abbrev pub with_refreshed : Key → List ℕ → Option ℕ → ℕ → List DavLock → List DavLock
with_refreshed key token timeout now locks = map (λ lock. if is_named key token lock then refreshed timeout now lock else lock) locks

-- there is such a lock, and it is refreshed
pub record RefreshesLock (key : Key) (token : List ℕ) (timeout : Option ℕ) (now : ℕ) (lock : DavLock) (old new : Locks) : Type 0 where
  pub named : option_map (refreshed timeout now) (find (is_named key token) old.list) ≡ Some lock
  pub refreshed_alone : new ≡ record old { list = with_refreshed key token timeout now old.list }

-- `Memory`, or `NotFound` if there is no such lock
abbrev pub RefusesRefresh : Key → List ℕ → Locks → LockError → Type 0
RefusesRefresh key token old e = (e ≡ Memory) ⊎ ((e ≡ NotFound) × (has_named key token old.list ≡ false))

-- ---- the locks at a key and below it

-- the locks at or below the key are removed
abbrev pub RemovesLocks : Key → Locks → Locks → Type 0
RemovesLocks key old new = new ≡ record old { list = elsewhere old.list key }

-- `Failed`, which a reliable `delete` never returns
abbrev pub RefusesDelete : Locks → LockError → Type 0
RefusesDelete old e = (e ≡ Failed) × (old.reliable.delete ≡ false)
