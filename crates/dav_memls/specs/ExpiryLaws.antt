-- When locks expire: the earliest expiry is the least `timeout_at`. Before it nothing expires. The locks that are left expire later.
use Rattle.std.proofs.Common.{◌≡◌, ◌∙◌, ◌==◌, ◌<◌, ◌≤◌, ◌||◌, ℕ, min, Bool, true, false, cond, not, List, [], ◌∷◌, Option, Some, None, IfSome, nat_le, refl, ap, ap₂, subst, arith}
use Rattle.std.proofs.lemmas.Bool.Decides.{nat_tests}
use Rattle.std.specs.List.{AllByRecursion, list_any}
use Rattle.std.specs.Option.{option_map_or}
use Rattle.dav_store.specs.declared.lock.DavLock.{DavLock}
use Rattle.dav_memls.specs.Expiry.{expires_at, has_expired, unexpired, earlier, earliest_expiry}

-- the time, if there is one, is this one or later
abbrev IsFrom : ℕ → Option ℕ → Type 0
IsFrom t time = IfSome time (λ at. t ≤ at)

-- no lock expires before this time
abbrev pub NoneBefore : ℕ → List DavLock → Type 0
NoneBefore t locks = AllByRecursion (λ lock. IsFrom t lock.timeout_at) locks

-- ---- two times

both_from : (t : ℕ) (a b : Option ℕ) → IsFrom t (earlier a b) → IsFrom t a × IsFrom t b
both_from t None b h = (tt, h)
both_from t (Some a) None h = (h, tt)
both_from t (Some a) (Some b) h = (omega arith, omega arith)

from_both : (t : ℕ) (a b : Option ℕ) → IsFrom t a → IsFrom t b → IsFrom t (earlier a b)
from_both t None b ha hb = hb
from_both t (Some a) None ha hb = ha
from_both t (Some a) (Some b) ha hb = omega arith

-- ---- the earliest expiry is the least

-- no lock expires before the earliest expiry, or before a time that precedes it
pub none_before : (t : ℕ) (locks : List DavLock) → IsFrom t (earliest_expiry locks) → NoneBefore t locks
none_before t [] h = tt
none_before t (lock ∷ locks) h = let both = both_from t lock.timeout_at (earliest_expiry locks) h in (both.0, none_before t locks both.1)

-- where no lock expires before a time, the earliest expiry is at that time or later
pub earliest_from : (t : ℕ) (locks : List DavLock) → NoneBefore t locks → IsFrom t (earliest_expiry locks)
earliest_from t [] h = tt
earliest_from t (lock ∷ locks) h = from_both t lock.timeout_at (earliest_expiry locks) h.0 (earliest_from t locks h.1)

-- a time at which a lock expires, and before which none does
pub earliest_is : (t : ℕ) (locks : List DavLock) → NoneBefore t locks → list_any (expires_at t) locks ≡ true → earliest_expiry locks ≡ Some t
earliest_is t [] h some = absurd cc
earliest_is t (lock ∷ locks) h some = least lock.timeout_at (earliest_expiry locks) (list_any (expires_at t) locks) h.0 (earliest_from t locks h.1) (earliest_is t locks h.1) some
  where
    least : (a b : Option ℕ) (more : Bool) → IsFrom t a → IsFrom t b → (more ≡ true → b ≡ Some t) → (option_map_or (λ at. at == t) a false || more) ≡ true → earlier a b ≡ Some t
    least None b more ha hb is some = is some
    least (Some a) None true ha hb is some = absurd (let no : None ≡ Some t = is refl in cc)
    least (Some a) None false ha hb is some = (let same : a ≡ t = grind (arith, nat_tests, some) in ap Some same)
    least (Some a) (Some b) true ha hb is some = (let one : Some b ≡ Some t = is refl in let same : b ≡ t = cc in ap Some (omega arith))
    least (Some a) (Some b) false ha hb is some = (let same : a ≡ t = grind (arith, nat_tests, some) in ap Some (omega arith))

-- at the earliest expiry a lock expires
pub earliest_expires : (locks : List DavLock) → IfSome (earliest_expiry locks) (λ t. list_any (expires_at t) locks ≡ true)
earliest_expires [] = tt
earliest_expires (lock ∷ locks) = one lock.timeout_at (earliest_expiry locks) (earliest_expires locks)
  where
    right_true : (b : Bool) → (b || true) ≡ true
    right_true true = refl
    right_true false = refl

    same : (a : ℕ) (more : Bool) → ((a == a) || more) ≡ true
    same a more = ap (λ b. b || more) (let itself : (a == a) ≡ true = grind (arith, nat_tests) in itself)

    one : (a b : Option ℕ) → IfSome b (λ t. list_any (expires_at t) locks ≡ true) → IfSome (earlier a b) (λ t. (option_map_or (λ at. at == t) a false || list_any (expires_at t) locks) ≡ true)
    one None None h = tt
    one None (Some b) h = h
    one (Some a) None h = same a (list_any (expires_at a) locks)
    one (Some a) (Some b) h = split (nat_le a b) refl
      where
        split : (c : Bool) → nat_le a b ≡ c → ((a == min a b) || list_any (expires_at (min a b)) locks) ≡ true
        split true e = (let le : a ≤ b = grind (arith, nat_tests, e) in let first : a ≡ min a b = omega arith in subst (λ t. ((a == t) || list_any (expires_at t) locks) ≡ true) first (same a (list_any (expires_at a) locks)))
        split false e = (let lt : b < a = grind (arith, nat_tests, e) in let second : b ≡ min a b = omega arith in subst (λ t. ((a == t) || list_any (expires_at t) locks) ≡ true) second (ap (λ x. (a == b) || x) h ∙ right_true (a == b)))

-- no lock expires, since none has a timeout
pub earliest_none : (locks : List DavLock) → AllByRecursion (λ lock. lock.timeout_at ≡ None) locks → earliest_expiry locks ≡ None
earliest_none [] h = refl
earliest_none (lock ∷ locks) h = ap₂ earlier h.0 (earliest_none locks h.1)

-- ---- which locks are left

-- before the earliest expiry, or if there is none, each lock is left
pub unexpired_all : (now : ℕ) (locks : List DavLock) → IfSome (earliest_expiry locks) (λ t. now < t) → unexpired now locks ≡ locks
unexpired_all now [] h = refl
unexpired_all now (lock ∷ locks) h =
    let both = apart lock.timeout_at (earliest_expiry locks) h in
    ap (λ b. cond (not b) (lock ∷ unexpired now locks) (unexpired now locks)) both.0 ∙ ap (λ more. lock ∷ more) (unexpired_all now locks both.1)
  where
    not_yet : (at : ℕ) → now < at → nat_le at now ≡ false
    not_yet at h = grind (arith, nat_tests)

    apart : (a b : Option ℕ) → IfSome (earlier a b) (λ t. now < t) → (option_map_or (λ at. nat_le at now) a false ≡ false) × IfSome b (λ t. now < t)
    apart None b h = (refl, h)
    apart (Some a) None h = (not_yet a h, tt)
    apart (Some a) (Some b) h = (not_yet a (omega arith), omega arith)

-- those that are left expire later
pub earliest_later : (now : ℕ) (locks : List DavLock) → IfSome (earliest_expiry (unexpired now locks)) (λ t. now < t)
earliest_later now [] = tt
earliest_later now (lock ∷ locks) =
    elim (has_expired now lock) as (λ b. has_expired now lock ≡ b → IfSome (earliest_expiry (cond (not b) (lock ∷ unexpired now locks) (unexpired now locks))) (λ t. now < t)) [
      | true ↦ λ e. earliest_later now locks
      | false ↦ λ e. joined lock.timeout_at (earliest_expiry (unexpired now locks)) e (earliest_later now locks)
    ] refl
  where
    later : (at : ℕ) → nat_le at now ≡ false → now < at
    later at e = grind (arith, nat_tests, e)

    joined : (a b : Option ℕ) → option_map_or (λ at. nat_le at now) a false ≡ false → IfSome b (λ t. now < t) → IfSome (earlier a b) (λ t. now < t)
    joined None b e h = h
    joined (Some a) None e h = later a e
    joined (Some a) (Some b) e h = let first : now < a = later a e in omega arith
