-- What contracts see of locks with an index: this project's own choice.
use Rattle.std.specs.Prelude.{◌≡◌, ℕ, false, List, Option, MatchOption}
use Rattle.std.specs.BTreeMap.{values}
use denote.Ref.{Bor}
use Rattle.dav_key.specs.Key.{Key}
use Rattle.dav_store.specs.LockCalls.{has_named}
use Rattle.dav_store.specs.declared.lock.DavLock.{DavLock}
use Rattle.dav_memls.specs.LockIndex.{IsNamedLock}
use Rattle.dav_memls.specs.declared.memory_locks.indexed.IndexedLocks.{IndexedLocks}

-- the locks, the oldest first
abbrev pub locks_in : IndexedLocks → List DavLock
locks_in held = values held.locks

-- the lock that is found has the token, and its key is this key or above it; none is found only if there is none
abbrev pub FindsNamed : Key → List ℕ → IndexedLocks → Option (ℕ × Bor DavLock) → Type 0
FindsNamed key token held found =
    MatchOption found (has_named key token (locks_in held) ≡ false) (λ f. IsNamedLock key token held.locks.entries f.0 f.1.now)
