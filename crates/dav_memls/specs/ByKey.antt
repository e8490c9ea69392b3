-- Numbers by key: this project's own choice.
use Rattle.std.specs.Prelude.{◌≡◌, ℕ, Bool, true, List, [], ◌∷◌, ◌++◌, if◌then◌else◌}
use Rattle.std.specs.List.{AllByRecursion}
use Rattle.std.specs.List.Sorted.{IsStrictlySortedBy}
use Rattle.std.specs.Map.{keys_of}
use Rattle.std.specs.Ordering.{is_le}
use Rattle.dav_key.specs.Key.{Key, key_cmp}
use Rattle.dav_key.specs.Flat.{IsFlatText}
use Rattle.dav_store.specs.Locks.{is_at_or_below}
use Rattle.dav_memls.specs.declared.memory_locks.numbers.Numbers.{Numbers}
use Rattle.dav_memls.specs.Numbers.{without}
use Rattle.dav_memls.specs.KeyEntries.{OwnKey, own_text, own_key, own_cmp, numbers_in}
use Rattle.dav_memls.specs.declared.memory_locks.by_key.ByKey.{ByKey}

-- the numbers at a key; none if the register has no entry for it
abbrev pub numbers_at : ByKey → Key → List ℕ
numbers_at register key = numbers_in register.map.entries key

-- the number if it belongs there, or else none
abbrev pub only_if : Bool → ℕ → List ℕ
only_if belongs n = if belongs then n ∷ [] else []

-- the numbers without this one, if it belonged there
abbrev pub without_if : Bool → ℕ → List ℕ → List ℕ
without_if belonged n xs = if belonged then without n xs else xs

-- each key keeps its numbers
abbrev pub KeepsNumbers : ByKey → ByKey → Type 0
KeepsNumbers old new = (key : Key) → numbers_at new key ≡ numbers_at old key

-- the number is added after those of each key that passes the test
abbrev pub JoinsNumber : (Key → Bool) → ℕ → ByKey → ByKey → Type 0
JoinsNumber test n old new = (key : Key) → numbers_at new key ≡ numbers_at old key ++ only_if (test key) n

-- the number is removed from those of each key that passes the test
abbrev pub LeavesNumber : (Key → Bool) → ℕ → ByKey → ByKey → Type 0
LeavesNumber test n old new = (key : Key) → numbers_at new key ≡ without_if (test key) n (numbers_at old key)

-- entries of the register from the key on, in the order of their keys, among them each at or below the key
pub record HasRun (key : Key) (register : ByKey) (run : List (OwnKey × Numbers)) : Type 0 where
  pub ordered : IsStrictlySortedBy own_cmp (keys_of run)
  pub flat : AllByRecursion (λ e. IsFlatText (own_text e.0)) run
  pub from : AllByRecursion (λ e. is_le (key_cmp key (own_key e.0)) ≡ true) run
  pub own : AllByRecursion (λ e. numbers_at register (own_key e.0) ≡ e.1.set.keys) run
  pub all : (k : Key) → is_at_or_below k key ≡ true → numbers_in run k ≡ numbers_at register k
