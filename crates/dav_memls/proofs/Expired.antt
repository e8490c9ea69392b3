-- What the first entry by time tells of the locks: when the first of them expires, and whether one has expired.
use Rattle.std.proofs.Common.{◌≡◌, ◌∙◌, ◌<◌, ◌≤◌, ◌||◌, ℕ, Bool, true, false, cond, not, List, [], ◌∷◌, length, Option, Some, None, IfSome, nat_cmp, refl, sym, ap, subst}
use Rattle.std.specs.List.{AllByRecursion, list_any, find, filter}
use Rattle.std.specs.Map.{keys_of, values_of}
use Rattle.std.specs.Option.{IsSomeAnd, option_map_or, option_to_list}
use Rattle.std.specs.Ordering.{is_eq}
use Rattle.dav_store.specs.declared.lock.DavLock.{DavLock}
use Rattle.dav_memls.specs.declared.memory_locks.index.LockIndex.{LockIndex}
use Rattle.dav_memls.specs.Expiry.{expires_at, has_expired, unexpired, earliest_expiry}
use Rattle.dav_memls.specs.ExpiryLaws.{earliest_is, earliest_none, unexpired_all}
use Rattle.dav_memls.specs.Expiries.{Expiry, is_due, is_time, IsFirst}
use Rattle.dav_memls.specs.LockIndex.{Row, lock_of, locks_without, HasExpired, IsIndexed}
use Rattle.dav_memls.proofs.Ascending.{Rises, same}
use Rattle.dav_memls.proofs.Expiring.{ends}
use Rattle.dav_memls.proofs.LockLists.{filter-removed, fewer}
use Rattle.dav_memls.proofs.LockRows.{each_found}

-- ---- each lock has its number

each_of : (find : ℕ → Option DavLock) (P : DavLock → Type 0) → ((n : ℕ) (l : DavLock) → find n ≡ Some l → P l) → (rows : List Row) → AllByRecursion (λ (r : Row). find r.0 ≡ Some r.1) rows → AllByRecursion P (values_of rows)
each_of find P h [] a = tt
each_of find P h (row ∷ rows) a = (h row.0 row.1 a.0, each_of find P h rows a.1)

-- what holds of the lock of each number holds of each lock
each_lock : (P : DavLock → Type 0) (rows : List Row) → Rises (keys_of rows) → ((n : ℕ) (l : DavLock) → lock_of n rows ≡ Some l → P l) → AllByRecursion P (values_of rows)
each_lock P rows rises h = each_of (λ n. lock_of n rows) P h rows (each_found rows rises)

-- a test that the lock of a number passes is passed by a lock
some_passes : (test : DavLock → Bool) (rows : List Row) (n : ℕ) → option_map_or test (lock_of n rows) false ≡ true → list_any test (values_of rows) ≡ true
some_passes test [] n e = e
some_passes test (row ∷ rows) n e =
    elim (is_eq (nat_cmp n row.0)) as (λ b. option_map_or test (cond b (Some row.1) (lock_of n rows)) false ≡ true → (test row.1 || list_any test (values_of rows)) ≡ true) [
      | true ↦ λ e. ap (λ b. b || list_any test (values_of rows)) e
      | false ↦ λ e. ap (λ b. test row.1 || b) (some_passes test rows n e) ∙ or_true (test row.1)
    ] e
  where
    or_true : (b : Bool) → (b || true) ≡ true
    or_true true = refl
    or_true false = refl

-- ---- no entry

no_time : (at : Option ℕ) → ((time : ℕ) → is_time at time ≡ false) → at ≡ None
no_time None h = refl
no_time (Some at) h = absurd (let no : true ≡ false = sym (same at) ∙ h at in cc)

pub none_expires : (index : LockIndex) (rows : List Row) → Rises (keys_of rows) → IsIndexed index rows → ((time n : ℕ) → is_due index.expiries time n ≡ false) → earliest_expiry (values_of rows) ≡ None
none_expires index rows rises h none = earliest_none (values_of rows) (each_lock _ rows rises (λ n l held. no_time l.timeout_at (λ time. ap (ends time) (sym held) ∙ sym (h.expiries time n) ∙ none time n)))

-- then no lock has expired
pub none_expired : (now : ℕ) (index : LockIndex) (rows : List Row) → Rises (keys_of rows) → IsIndexed index rows → ((time n : ℕ) → is_due index.expiries time n ≡ false) → unexpired now (values_of rows) ≡ values_of rows
none_expired now index rows rises h none = unexpired_all now (values_of rows) (subst (λ o. IfSome o (λ t. now < t)) (sym (none_expires index rows rises h none)) tt)

-- ---- the first entry

from_time : (t : ℕ) (at : Option ℕ) → ((time : ℕ) → is_time at time ≡ true → t ≤ time) → IfSome at (λ time. t ≤ time)
from_time t None h = tt
from_time t (Some at) h = h at (same at)

pub first_expires : (index : LockIndex) (rows : List Row) (first : Expiry) → Rises (keys_of rows) → IsIndexed index rows → IsFirst index.expiries first → earliest_expiry (values_of rows) ≡ Some first.0
first_expires index rows first rises h is =
    earliest_is first.0 (values_of rows)
    (each_lock _ rows rises (λ n l held. from_time first.0 l.timeout_at (λ time due. is.least time n (h.expiries time n ∙ ap (ends time) held ∙ due))))
    (some_passes (expires_at first.0) rows first.1 (sym (h.expiries first.0 first.1) ∙ is.due))

-- before its time no lock has expired
pub not_yet : (now : ℕ) (index : LockIndex) (rows : List Row) (first : Expiry) → Rises (keys_of rows) → IsIndexed index rows → IsFirst index.expiries first → now < first.0 → unexpired now (values_of rows) ≡ values_of rows
not_yet now index rows first rises h is before = unexpired_all now (values_of rows) (subst (λ o. IfSome o (λ t. now < t)) (sym (first_expires index rows first rises h is)) before)

-- ---- a lock that has expired is removed

-- the locks without it are fewer, and the same of them have not expired
pub record IsLess (now : ℕ) (rows : List Row) (n : ℕ) : Type 0 where
  pub fewer : length (locks_without n rows) < length (values_of rows)
  pub unexpired : unexpired now (locks_without n rows) ≡ unexpired now (values_of rows)

pub is_less : (now : ℕ) (rows : List Row) (n : ℕ) → HasExpired now rows n → IsLess now rows n
is_less now rows n expired = held (lock_of n rows) refl expired
  where
    held : (o : Option DavLock) → lock_of n rows ≡ o → IsSomeAnd o (λ lock. has_expired now lock ≡ true) → IsLess now rows n
    held None e h = absurd h
    held (Some lock) e h = record { fewer = fewer rows n lock e; unexpired = filter-removed (λ l. not (has_expired now l)) rows n lock e (ap not h) }

-- ---- the lock of a token

-- one lock at most passes, so it is the first that does
pub only_found : (test : DavLock → Bool) (o : Option DavLock) (locks : List DavLock) → option_to_list o ≡ filter test locks → o ≡ find test locks
only_found test o [] e = none o e
  where
    none : (o : Option DavLock) → option_to_list o ≡ [] → o ≡ None
    none None e = refl
    none (Some l) e = absurd cc
only_found test o (lock ∷ locks) e =
    elim (test lock) as (λ b. option_to_list o ≡ cond b (lock ∷ filter test locks) (filter test locks) → o ≡ cond b (Some lock) (find test locks)) [
      | true ↦ λ e. one o e
      | false ↦ λ e. only_found test o locks e
    ] e
  where
    one : (o : Option DavLock) → option_to_list o ≡ lock ∷ filter test locks → o ≡ Some lock
    one None e = absurd cc
    one (Some l) e = let same : l ≡ lock = cc in ap Some same
