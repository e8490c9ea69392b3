-- Locks (RFC 4918, section 6): what a lock covers, which locks conflict, when a request is allowed, when a lock is granted, and which locks are
-- compatible.
use Rattle.std.specs.Prelude.{◌≡◌, ℕ, Bool, true, not, ◌&&◌, ◌||◌, bytes_eq, if◌then◌else◌, List, [], ◌∷◌, length, ◌==◌, Option}
use Rattle.std.specs.List.{filter, list_all, list_any}
use Rattle.std.specs.Option.{option_eq}
use Rattle.dav_key.specs.Key.{Key, is_same_key}
use Rattle.dav_store.specs.declared.lock.DavLock.{DavLock}
pub use Rattle.dav_key.specs.Below.{is_at_or_below}

-- which calls of a lock system are reliable: whether `delete` never fails, and whether `unlock` of a lock that exists never fails
pub record Reliable : Type 0 where
  pub delete : Bool
  pub unlock : Bool

-- both calls are reliable
abbrev pub all_reliable : Reliable
all_reliable = record { delete = true; unlock = true }

-- what contracts see of a lock system: its locks, the oldest first, and which of its calls are reliable
pub record Locks : Type 0 where
  pub list : List DavLock
  pub reliable : Reliable

-- ---- what a lock covers

-- a lock covers its own key and, if it is deep, all keys below it
abbrev pub covers : DavLock → Key → Bool
covers lock key = if lock.deep then is_at_or_below key lock.path.key else is_same_key key lock.path.key

-- the locks that cover a key
abbrev pub covering : List DavLock → Key → List DavLock
covering locks key = filter (λ lock. covers lock key) locks

-- the locks whose own keys are at or below a key
abbrev pub at_or_below : List DavLock → Key → List DavLock
at_or_below locks key = filter (λ lock. is_at_or_below lock.path.key key) locks

-- the locks whose own keys are not at or below it
abbrev pub elsewhere : List DavLock → Key → List DavLock
elsewhere locks key = filter (λ lock. not (is_at_or_below lock.path.key key)) locks

-- ---- whether the locks permit a request

-- its token is one of those given, and its principal is the given one or is ignored
abbrev pub is_submitted : Option (List ℕ) → Bool → List (List ℕ) → DavLock → Bool
is_submitted principal ignore_principal tokens lock =
    list_any (bytes_eq lock.token) tokens && (ignore_principal || option_eq bytes_eq lock.principal principal)

-- each exclusive lock that covers the key is submitted and, if any lock covers the key, at least one is submitted
abbrev pub permits_at : List DavLock → (DavLock → Bool) → Bool
permits_at cover submitted = list_all (λ lock. lock.shared || submitted lock) cover && (length cover == 0 || list_any submitted cover)

-- for a deep request each lock at or below the key is submitted too
abbrev pub permits : List DavLock → Key → Option (List ℕ) → Bool → Bool → List (List ℕ) → Bool
permits locks key principal ignore_principal deep tokens =
    permits_at (covering locks key) (is_submitted principal ignore_principal tokens)
    && (not deep || list_all (is_submitted principal ignore_principal tokens) (at_or_below locks key))

-- ---- whether a lock is granted

-- two locks conflict unless both are shared
abbrev pub conflicts : DavLock → DavLock → Bool
conflicts a b = not (a.shared && b.shared)

abbrev pub has_token : List ℕ → DavLock → Bool
has_token token lock = bytes_eq token lock.token

-- its token is not in use, and it does not conflict with a lock that covers its key nor, if it is deep, with a lock at or below its key
abbrev pub grants : List DavLock → DavLock → Bool
grants locks lock =
    not (list_any (has_token lock.token) locks)
    && not (list_any (conflicts lock) (covering locks lock.path.key))
    && not (lock.deep && list_any (conflicts lock) (at_or_below locks lock.path.key))

-- ---- compatible locks: exclusive ones alone, shared ones beside each other (RFC 4918, section 6.2)

-- one of the two locks covers the other's own key
abbrev pub meet : DavLock → DavLock → Bool
meet a b = covers a b.path.key || covers b a.path.key

-- they do not meet, or they do not conflict
abbrev pub stand_together : DavLock → DavLock → Bool
stand_together a b = not (meet a b && conflicts a b)

-- each lock stands together with each of the others
abbrev pub are_compatible : List DavLock → Bool
are_compatible [] = true
are_compatible (lock ∷ locks) = list_all (stand_together lock) locks && are_compatible locks

abbrev pub AreCompatible : List DavLock → Type 0
AreCompatible locks = are_compatible locks ≡ true
