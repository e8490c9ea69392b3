-- The index of the locks in memory. Each lock has a number, and later locks have greater numbers. The index finds the numbers by token and by key.
-- This project's own choice.
use Rattle.std.specs.Prelude.{◌≡◌, ◌==◌, ◌&&◌, ◌||◌, ◌++◌, ℕ, Bool, true, false, not, List, [], length, map, nat_lt, Option, Some, if◌then◌else◌}
use Rattle.std.specs.BTreeMap.{is_at}
use Rattle.std.specs.BTreeSet.{BTreeSet, contains}
use Rattle.std.specs.List.{filter, filter_map, list_all, list_any}
use Rattle.std.specs.Map.{lookup, remove_entry, values_of}
use Rattle.std.specs.HashMap.{get_by_text}
use Rattle.std.specs.Option.{IsSomeAnd, option_map_or, option_to_list}
use Rattle.std.specs.Ordering.{nat_cmp}
use denote.Ref.{Bor}
use Rattle.dav_key.specs.Key.{Key, is_same_key}
use Rattle.dav_key.specs.Flat.{flat}
use Rattle.dav_store.specs.declared.lock.DavLock.{DavLock}
use Rattle.dav_memls.specs.declared.memory_locks.by_key.ByKey.{ByKey}
use Rattle.dav_memls.specs.declared.memory_locks.index.LockIndex.{LockIndex}
use Rattle.dav_memls.specs.declared.memory_locks.index.Register.{Register}
use Rattle.dav_memls.specs.declared.memory_locks.index.Register.TheVariants.{All, Deep, Exclusive}
use Rattle.dav_store.specs.Locks.{is_at_or_below, has_token}
use Rattle.dav_store.specs.LockCalls.{is_named, refreshed}
use Rattle.dav_memls.specs.ByKey.{numbers_at, only_if, without_if}
use Rattle.dav_memls.specs.Expiry.{expires_at, has_expired}
use Rattle.dav_memls.specs.Expiries.{is_due, is_entry, KeepsExpiries, AddsExpiry, RemovesExpiry, MovesExpiry}

-- a lock and its number
abbrev pub Row : Type 0
Row = ℕ × DavLock

-- the numbers of the locks that pass the test, in order
abbrev pub numbers_of : (DavLock → Bool) → List Row → List ℕ
numbers_of test rows = map (λ (row : Row). row.0) (filter (λ (row : Row). test row.1) rows)

-- the lock of a number, and the locks of several numbers
abbrev pub lock_of : ℕ → List Row → Option DavLock
lock_of n rows = lookup (is_at (nat_cmp n)) rows

abbrev pub locks_of_numbers : List ℕ → List Row → List DavLock
locks_of_numbers numbers rows = filter_map (λ n. lock_of n rows) numbers

-- the locks without that of a number, and the locks with that of a number refreshed
abbrev pub locks_without : ℕ → List Row → List DavLock
locks_without n rows = values_of (remove_entry (is_at (nat_cmp n)) rows)

abbrev pub locks_refreshed : ℕ → Option ℕ → ℕ → List Row → List DavLock
locks_refreshed n timeout now rows = map (λ (row : Row). if n == row.0 then refreshed timeout now row.1 else row.1) rows

-- whether the lock's own key is this one, and whether it is at or below this one
abbrev pub is_of_key : Key → DavLock → Bool
is_of_key key lock = is_same_key key lock.path.key

abbrev pub is_within : Key → DavLock → Bool
is_within key lock = is_at_or_below lock.path.key key

-- the text of each lock's own key is shorter than this
abbrev pub are_within : ℕ → List Row → Bool
are_within reach rows = list_all (λ (row : Row). nat_lt (length (flat row.1.path.key)) reach) rows

-- whether a register contains the lock, and whether it contains the lock and the lock passes the test
abbrev pub belongs : Register → DavLock → Bool
belongs All lock = true
belongs Deep lock = lock.deep
belongs Exclusive lock = not lock.shared

abbrev pub among : Register → (DavLock → Bool) → DavLock → Bool
among register test lock = belongs register lock && test lock

-- the numbers in a register, by the own keys of the locks
abbrev pub register_of : LockIndex → Register → ByKey
register_of index All = index.all
register_of index Deep = index.deep
register_of index Exclusive = index.exclusive

-- the numbers that a register has for a key
abbrev pub found_at : LockIndex → Register → Key → List ℕ
found_at index register key = numbers_at (register_of index register) key

-- the number of the lock with a token, if there is one
abbrev pub by_token : LockIndex → List ℕ → List ℕ
by_token index token = option_to_list (get_by_text index.tokens token)

-- whether the number is that of a lock that expires at this time
abbrev pub ends_at : List Row → ℕ → ℕ → Bool
ends_at rows time n = option_map_or (expires_at time) (lock_of n rows) false

-- the index finds exactly the numbers of these locks
pub record IsIndexed (index : LockIndex) (rows : List Row) : Type 0 where
  pub tokens : (token : List ℕ) → by_token index token ≡ numbers_of (has_token token) rows
  pub at : (register : Register) (key : Key) → found_at index register key ≡ numbers_of (among register (is_of_key key)) rows
  pub expiries : (time n : ℕ) → is_due index.expiries time n ≡ ends_at rows time n

-- the index finds the same numbers
pub record KeepsIndex (old new : LockIndex) : Type 0 where
  pub tokens : (token : List ℕ) → by_token new token ≡ by_token old token
  pub at : (register : Register) (key : Key) → found_at new register key ≡ found_at old register key
  pub expiries : KeepsExpiries old.expiries new.expiries

-- the index finds the number of a lock as well
pub record EntersIndex (lock : DavLock) (n : ℕ) (old new : LockIndex) : Type 0 where
  pub tokens : (token : List ℕ) → by_token new token ≡ by_token old token ++ only_if (has_token token lock) n
  pub at : (register : Register) (key : Key) → found_at new register key ≡ found_at old register key ++ only_if (among register (is_of_key key) lock) n
  pub expiries : AddsExpiry lock.timeout_at n old.expiries new.expiries

-- by the lock's key and its time, the index may also find the lock's number; otherwise it finds the same numbers
pub record IsPartlyEntered (lock : DavLock) (n : ℕ) (old new : LockIndex) : Type 0 where
  pub tokens : (token : List ℕ) → by_token new token ≡ by_token old token
  pub at : (register : Register) (key : Key) → without_if (among register (is_of_key key) lock) n (found_at new register key) ≡ found_at old register key
  pub expiries : (time m : ℕ) → (is_due new.expiries time m && not (is_entry lock.timeout_at n time m)) ≡ is_due old.expiries time m

-- the index does not find the number of the lock any more
pub record LeavesIndex (lock : DavLock) (n : ℕ) (old new : LockIndex) : Type 0 where
  pub tokens : (token : List ℕ) → by_token new token ≡ (if has_token token lock then [] else by_token old token)
  pub at : (register : Register) (key : Key) → found_at new register key ≡ without_if (among register (is_of_key key) lock) n (found_at old register key)
  pub expiries : RemovesExpiry lock.timeout_at n old.expiries new.expiries

-- by the time when a lock expires, the index finds the number at another time or at none; otherwise it finds the same numbers
pub record MovesInIndex (due : Option ℕ) (n : ℕ) (old new : LockIndex) : Type 0 where
  pub tokens : (token : List ℕ) → by_token new token ≡ by_token old token
  pub at : (register : Register) (key : Key) → found_at new register key ≡ found_at old register key
  pub expiries : MovesExpiry due n old.expiries new.expiries

-- the lock of this number, which has the token and whose key is this key or above it
pub record IsNamedLock (key : Key) (token : List ℕ) (rows : List Row) (n : ℕ) (lock : DavLock) : Type 0 where
  pub held : lock_of n rows ≡ Some lock
  pub named : is_named key token lock ≡ true

-- the number is that of a lock whose key is at or below the key
abbrev pub StandsBelow : Key → List Row → ℕ → Type 0
StandsBelow key rows n = IsSomeAnd (lock_of n rows) (λ lock. is_within key lock ≡ true)

-- the number is that of a lock that has expired at this time
abbrev pub HasExpired : ℕ → List Row → ℕ → Type 0
HasExpired now rows n = IsSomeAnd (lock_of n rows) (λ lock. has_expired now lock ≡ true)

-- each call returns what the test gives for the lock
abbrev pub Computes : (Bor DavLock → Bool → Type 0) → (DavLock → Bool) → Type 0
Computes answers test = (lock : Bor DavLock) (answer : Bool) → answers lock answer → answer ≡ test lock.now

-- whether one of these locks passes the test that the closure computes
abbrev pub IsAnyBy : (Bor DavLock → Bool → Type 0) → List DavLock → Bool → Type 0
IsAnyBy answers locks found = (test : DavLock → Bool) → Computes answers test → found ≡ list_any test locks

-- the same of the locks of a register
abbrev pub IsAnyAmong : (Bor DavLock → Bool → Type 0) → Register → List DavLock → Bool → Type 0
IsAnyAmong answers register locks found = (test : DavLock → Bool) → Computes answers test → found ≡ list_any (among register test) locks

-- the set contains exactly these numbers
abbrev pub HasNumbers : BTreeSet ℕ → List ℕ → Type 0
HasNumbers found numbers = (n : ℕ) → contains nat_cmp found n ≡ list_any (λ m. n == m) numbers

-- these numbers are added to the set
abbrev pub AddsNumbers : List ℕ → BTreeSet ℕ → BTreeSet ℕ → Type 0
AddsNumbers numbers old new = (n : ℕ) → contains nat_cmp new n ≡ (contains nat_cmp old n || list_any (λ m. n == m) numbers)
