-- What a keeper keeps of a server, and what it may change of the store.
use Rattle.std.specs.Prelude.{◌≡◌, ◌⊎◌, ℕ, List, Option}
use base.Stored.{Gv}
use Rattle.dav_store.specs.Locks.{Locks}
use Rattle.dav_store.specs.Store.{Store}
use Rattle.dav_rights.specs.declared.rules.WrittenRule.{WrittenRule}
use Rattle.dav_server.specs.State.{ServerState, resumed_state, with_store}

-- ---- what is saved

-- what is saved of a store elsewhere, as one value
abbrev pub saved_of : Store → Gv
saved_of store = store.facts.saved

-- the store, with this saved of it
abbrev pub resaved : Gv → Store → Store
resaved saved store = record store { facts = record store.facts { saved = saved } }

-- the stores differ in nothing but what is saved of them
abbrev pub OnlySavedDiffers : Store → Store → Type 0
OnlySavedDiffers old new = new ≡ resaved (saved_of new) old

-- the states of a server differ in nothing but what is saved of the store
abbrev pub IsResaved : ServerState → ServerState → Type 0
IsResaved old new = new ≡ with_store old (resaved (saved_of new.seen.store) old.seen.store)

-- ---- snapshots

-- a store and a lock system, the time (in whole seconds since 1970), and the number of the last batch
pub record Snapshot (F L : Type 0) : Type 0 where
  pub store : F
  pub locks : L
  pub now : ℕ
  pub last : ℕ

module _ {F L : Type 0} where
  abbrev pub snapshot_at : F → L → ℕ → ℕ → Snapshot F L
  snapshot_at store locks now last = record { store = store; locks = locks; now = now; last = last }

  -- the state of a server with this store and these locks, at this time and after this batch, with these access rights
  abbrev pub state_at : (F → Store) → (L → Locks) → Option (List WrittenRule) → Snapshot F L → ServerState
  state_at see_store see_locks rights snapshot =
      resumed_state (see_store snapshot.store) (see_locks snapshot.locks) rights snapshot.now snapshot.last

-- `lasts` and `same` are those of a keeper
module _ {F L K : Type 0} (lasts : K → Gv → Snapshot F L → Type 0) (same : Snapshot F L → Snapshot F L → Type 0) where
  -- a crash leaves what is in the snapshot of now; or what is in an earlier one, and of what is kept the one of now has the same
  abbrev pub KeepsOne : K → Gv → Snapshot F L → Snapshot F L → Type 0
  KeepsOne keeper saved before now = lasts keeper saved now ⊎ (lasts keeper saved before × same before now)
