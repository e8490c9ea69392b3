-- Numbers by the time when their locks expire: this project's own choice.
use Rattle.std.specs.Prelude.{◌≡◌, ◌==◌, ◌&&◌, ◌||◌, ◌≤◌, ℕ, Bool, true, false, not, Option}
use Rattle.std.specs.BTreeSet.{contains}
use Rattle.std.specs.Option.{option_map_or}
use Rattle.std.specs.Ordering.{ordering_then, nat_cmp}
use Rattle.std.specs.declared.cmp.Ordering.{Ordering}
use Rattle.dav_memls.specs.declared.memory_locks.expiries.Expiries.{Expiries}

-- a time and a number
abbrev pub Expiry : Type 0
Expiry = ℕ × ℕ

-- the order of pairs: by time, then by number
abbrev pub expiry_cmp : Expiry → Expiry → Ordering
expiry_cmp a b = ordering_then (nat_cmp a.0 b.0) (nat_cmp a.1 b.1)

-- whether the number is in the set at this time
abbrev pub is_due : Expiries → ℕ → ℕ → Bool
is_due expiries time n = contains expiry_cmp expiries.set (time, n)

-- whether the time is this one, if there is one
abbrev pub is_time : Option ℕ → ℕ → Bool
is_time at time = option_map_or (λ t. t == time) at false

-- whether the number is n, and the time is this one
abbrev pub is_entry : Option ℕ → ℕ → ℕ → ℕ → Bool
is_entry at n time m = (m == n) && is_time at time

-- each number keeps its times
abbrev pub KeepsExpiries : Expiries → Expiries → Type 0
KeepsExpiries old new = (time m : ℕ) → is_due new time m ≡ is_due old time m

-- the number is added at this time, if there is one
abbrev pub AddsExpiry : Option ℕ → ℕ → Expiries → Expiries → Type 0
AddsExpiry at n old new = (time m : ℕ) → is_due new time m ≡ (is_due old time m || is_entry at n time m)

-- the number is removed at this time, if there is one
abbrev pub RemovesExpiry : Option ℕ → ℕ → Expiries → Expiries → Type 0
RemovesExpiry at n old new = (time m : ℕ) → is_due new time m ≡ (is_due old time m && not (is_entry at n time m))

-- the number has this time, if there is one, and no other; each other number keeps its times
pub record MovesExpiry (at : Option ℕ) (n : ℕ) (old new : Expiries) : Type 0 where
  pub own : (time : ℕ) → is_due new time n ≡ is_time at time
  pub others : (time m : ℕ) → (m == n) ≡ false → is_due new time m ≡ is_due old time m

-- a number in the set at its time, with no number at an earlier time
pub record IsFirst (expiries : Expiries) (first : Expiry) : Type 0 where
  pub due : is_due expiries first.0 first.1 ≡ true
  pub least : (time m : ℕ) → is_due expiries time m ≡ true → first.0 ≤ time
