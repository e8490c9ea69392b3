-- The state that requests act on: the contents of the store and, if there is a lock system, its locks (RFC 4918, sections 5 and 6).
use Rattle.std.specs.Prelude.{◌≡◌, ◌⊎◌, ℕ, false, List, Option, Some, is_some, option_map}
use Rattle.std.specs.Option.{ForSome, option_map_or}
use Rattle.dav_key.specs.Key.{Key}
use Rattle.dav_resource.specs.declared.error.DavError.{DavError}
use Rattle.dav_resource.specs.declared.error.DavError.TheVariants.{Memory, Status}
use Rattle.dav_store.specs.Store.{Store, Contents, Facts, IsWellFormed}
use Rattle.dav_store.specs.Locks.{Locks, Reliable, all_reliable, elsewhere, AreCompatible}
use Rattle.dav_store.specs.LockCalls.{HasDistinctTokens}
use Rattle.dav_store.specs.declared.lock.DavLock.{DavLock}

-- The contents of the store, and the locks if there is a lock system. `reliable` says which of the lock system's calls are reliable: whether `delete`
-- never fails, and whether `unlock` of a lock that exists never fails. Without a lock system `state_of` sets both to true.
pub record State : Type 0 where
  pub contents : Contents
  pub locks : Option (List DavLock)
  pub reliable : Reliable

-- a state that a store and a lock system may be in: the contents are well-formed, and no two locks have the same token
pub record IsLawfulState (state : State) : Type 0 where
  pub contents : IsWellFormed state.contents
  pub locks : ForSome state.locks HasDistinctTokens

-- the locks are compatible: if one of any two covers the path of the other, both are shared
abbrev pub IsCompatible : State → Type 0
IsCompatible state = ForSome state.locks AreCompatible

-- what a contract sees of an engine: the store that it borrows and, if there is one, the lock system
pub record Seen : Type 0 where
  pub store : Store
  pub locks : Option Locks

-- the view of this store with this lock system
abbrev pub seen_with : Store → Locks → Seen
seen_with store locks = record { store = store; locks = Some locks }

abbrev pub state_of : Seen → State
state_of seen =
    record {
      contents = seen.store.contents;
      locks = option_map (λ (l : Locks). l.list) seen.locks;
      reliable = option_map_or (λ (l : Locks). l.reliable) seen.locks all_reliable;
    }

-- the facts that no request changes: those of the store, whether there is a lock system, and which of its calls are reliable
abbrev pub facts_of : Seen → Facts × Option Reliable
facts_of seen = (seen.store.facts, option_map (λ (l : Locks). l.reliable) seen.locks)

-- both states have a lock system, or neither; and the same calls are reliable
pub record HasSameSystem (old new : State) : Type 0 where
  pub there : is_some new.locks ≡ is_some old.locks
  pub reliable : new.reliable ≡ old.reliable

-- ---- changes of the locks

-- the locks are the same as before
abbrev pub LocksStay : State → State → Type 0
LocksStay old new = new.locks ≡ old.locks

-- the locks at or below the key are removed, and no others; a lock system whose `delete` is not reliable may keep all locks instead
abbrev pub DropsLocks : Key → State → State → Type 0
DropsLocks key old new = (new.locks ≡ option_map (λ list. elsewhere list key) old.locks) ⊎ ((old.reliable.delete ≡ false) × LocksStay old new)

-- the same for a view of the engine, in which nothing else changes
pub record DropsSeen (key : Key) (old new : Seen) : Type 0 where
  pub dropped : DropsLocks key (state_of old) (state_of new)
  pub store : new.store ≡ old.store
  pub fixed : facts_of new ≡ facts_of old

-- the effect of a lock system's call: there is a lock system, its locks change in this way, and the store is unchanged
pub record ChangesLocks (Change : Locks → Locks → Type 0) (old new : Seen) : Type 0 where
  pub before : Locks
  pub after : Locks
  pub was : old.locks ≡ Some before
  pub is : new.locks ≡ Some after
  pub change : Change before after
  pub store : new.store ≡ old.store

-- a lock system's call that fails for this cause: if there is a lock system, the cause holds of it, and nothing changes
pub record KeepsLocks (Cause : Locks → Type 0) (old new : Seen) : Type 0 where
  pub cause : ForSome old.locks Cause
  pub same : new ≡ old

-- the error of such a call: `Memory`, or this status with the cause (`KeepsLocks`); nothing changes in either case
abbrev pub IsRefusedByLocks : (Locks → Type 0) → ℕ → DavError → Seen → Seen → Type 0
IsRefusedByLocks Cause status e old new = ((e ≡ Memory) × (new ≡ old)) ⊎ ((e ≡ Status status) × KeepsLocks Cause old new)
