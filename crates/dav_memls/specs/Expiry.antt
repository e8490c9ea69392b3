-- Locks that expire: when the first of them does, and which are left.
use Rattle.std.specs.Prelude.{◌==◌, ℕ, min, Bool, false, not, List, [], ◌∷◌, Option, Some, None, nat_le}
use Rattle.std.specs.List.{filter}
use Rattle.std.specs.Option.{option_map_or}
use Rattle.dav_store.specs.declared.lock.DavLock.{DavLock}

-- whether the lock's timeout ends at this time or before it; a lock without a timeout never expires
abbrev pub has_expired : ℕ → DavLock → Bool
has_expired now lock = option_map_or (λ at. nat_le at now) lock.timeout_at false

-- whether the lock's timeout ends at exactly this time
abbrev pub expires_at : ℕ → DavLock → Bool
expires_at time lock = option_map_or (λ at. at == time) lock.timeout_at false

-- the locks that have not expired, in order
abbrev pub unexpired : ℕ → List DavLock → List DavLock
unexpired now locks = filter (λ lock. not (has_expired now lock)) locks

-- the lesser of two times; if there is only one, that one
abbrev pub earlier : Option ℕ → Option ℕ → Option ℕ
earlier None time = time
earlier (Some at) None = Some at
earlier (Some at) (Some time) = Some (min at time)

-- the earliest time at which a lock expires; none if no lock has a timeout
abbrev pub earliest_expiry : List DavLock → Option ℕ
earliest_expiry [] = None
earliest_expiry (lock ∷ locks) = earlier lock.timeout_at (earliest_expiry locks)
