-- The work of a method, from what is seen before it to what is seen after it.
use Rattle.std.specs.Prelude.{◌≡◌, List, ◌++◌, Err, ◌⊎◌}
use Rattle.dav_resource.specs.declared.error.DavError.TheVariants.{Memory}
use Rattle.dav_store.specs.Logged.{Logged}
use Rattle.dav_store.specs.Store.{Contents, Store}
use Rattle.dav_messages.specs.Reply.{Answer}
use Rattle.dav_engine.specs.State.{State, Seen, state_of, facts_of}

-- A method's work: the log gained `records`, over which the work is `Done` with this result, or the result is `Memory` and `Cut` holds. The facts of
-- the store and the lock system are unchanged.
pub record Performs (Done : State → List Logged → Answer → State → Type 0) (Cut : State → List Logged → State → Type 0)
    (old : Seen) (answer : Answer) (new : Seen) : Type 0 where
  pub records : List Logged
  pub recorded : new.store.log ≡ old.store.log ++ records
  pub fixed : facts_of new ≡ facts_of old
  pub done : Done (state_of old) records answer (state_of new) ⊎ ((answer ≡ Err Memory) × Cut (state_of old) records (state_of new))

-- The same for work that uses only the store: the log gained `records`, over which the work is `Done` with this result, or the result is `Memory` and
-- `Cut` holds. The facts of the store are unchanged.
pub record WorksOnStore (Done : Contents → List Logged → Answer → Contents → Type 0) (Cut : Contents → List Logged → Contents → Type 0)
    (old : Store) (answer : Answer) (new : Store) : Type 0 where
  pub records : List Logged
  pub recorded : new.log ≡ old.log ++ records
  pub fixed : new.facts ≡ old.facts
  pub done : Done old.contents records answer new.contents ⊎ ((answer ≡ Err Memory) × Cut old.contents records new.contents)
