-- The calls of a store on the bodies that it holds for requests to come. They leave no record, and change nothing but the bodies: this project's own
-- choice.
use Rattle.std.specs.Prelude.{◌≡◌, ℕ, nat_eq, if◌then◌else◌, List, [], ◌++◌, Option, Some, None, IsSome, Result, ◌⊎◌, IfOk, IfErr}
use Rattle.std.specs.Option.{option_map_or}
use Rattle.dav_resource.specs.declared.error.FsError.{FsError}
use Rattle.dav_resource.specs.declared.error.FsError.TheVariants.{NotFound, Memory}
use Rattle.dav_store.specs.Store.{Store, Bodies}
use Rattle.dav_store.specs.Calls.{IsOwn}

-- the bodies with this one at a number, or with none there
abbrev pub put_body : Bodies → ℕ → Option (List ℕ) → Bodies
put_body bodies number body other = if nat_eq other number then body else bodies other

-- the store with this body at a number, or with none there
abbrev pub with_body : Store → ℕ → Option (List ℕ) → Store
with_body store number body = record store { facts = record store.facts { bodies = put_body store.facts.bodies number body } }

-- the bytes of the body at a number, none if there is no body
abbrev pub stored_bytes : Bodies → ℕ → List ℕ
stored_bytes bodies number = option_map_or (λ (bytes : List ℕ). bytes) (bodies number) []

-- ---- start_body

-- there was no body at the number, and now there is one of no bytes
pub record Starts (old : Store) (number : ℕ) (new : Store) : Type 0 where
  pub free : old.facts.bodies number ≡ None
  pub begun : new ≡ with_body old number (Some [])

-- a body is started; or the store refuses, or memory runs out, and nothing changes
pub record StartsBody (old : Store) (answer : Result ℕ FsError) (new : Store) : Type 0 where
  pub started : IfOk answer (λ number. Starts old number new)
  pub refused : IfErr answer (λ e. (new ≡ old) × ((e ≡ Memory) ⊎ IsOwn e))

-- ---- add_to_body

-- there is a body at the number, and it has these bytes after those that it had
pub record Extends (number : ℕ) (more : List ℕ) (old new : Store) : Type 0 where
  pub there : IsSome (old.facts.bodies number)
  pub extended : new ≡ with_body old number (Some (stored_bytes old.facts.bodies number ++ more))

-- the body is extended; or there is none (`NotFound`), the store refuses, or memory runs out, and nothing changes
pub record AddsToBody (number : ℕ) (more : List ℕ) (old : Store) (answer : Result (Unit {0}) FsError) (new : Store) : Type 0 where
  pub added : IfOk answer (λ _. Extends number more old new)
  pub refused : IfErr answer (λ e. (new ≡ old) × (((e ≡ NotFound) × (old.facts.bodies number ≡ None)) ⊎ ((e ≡ Memory) ⊎ IsOwn e)))
