-- Runs of a server with a keeper, which keeps each batch before its answer is written.
use Rattle.std.specs.Prelude.{◌≡◌, ◌⊎◌, ℕ, List, [], ◌∷◌, ◌++◌, flat_map, Option, Some, option_map}
use Rattle.std.specs.Io.KnownBytes.{Appends, Keeps}
use base.Stored.{Gv}
use Rattle.dav_store.specs.Calls.{Reads}
use Rattle.dav_store.specs.Locks.{Locks}
use Rattle.dav_store.specs.Store.{Store}
use Rattle.dav_engine.specs.DavInner.{lent_locks}
use Rattle.dav_rights.specs.declared.rules.WrittenRule.{WrittenRule}
use Rattle.dav_server.specs.Batches.{Exchange}
use Rattle.dav_server.specs.Exchanges.{bytes_out, InOrder, ExchangesBy, StopsBy, RunsBy, IsAnswered}
use Rattle.dav_server.specs.Guarantees.{AreOneRun}
use Rattle.dav_server.specs.Snapshots.{Snapshot, snapshot_at, state_at, saved_of, OnlySavedDiffers, IsResaved}
use Rattle.dav_server.specs.State.{Rules, ServerState, state_of, store_in}
use Rattle.dav_server.specs.declared.server.Server.{Server}

-- ---- exchanges

module _ {F : Type 0} (see_store : F → Store) (says : F → Reads) where
  -- the batch of this exchange is answered, and then nothing changes but what is saved of the store
  pub record IsAnsweredAndSaved (rules : Rules) (exchange : Exchange) (old new : ServerState) : Type 0 where
    pub served : ServerState
    pub answered : IsAnswered see_store says rules exchange old served
    pub saved : IsResaved served new

  -- one exchange: its bytes are read, and those of its answer are written
  abbrev pub ExchangesAndSaves : Rules → ServerState → ServerState → Option (List ℕ) → Option (List ℕ) → Option (List ℕ) → Option (List ℕ) → Type 0
  ExchangesAndSaves rules old new input input' output output' = ExchangesBy (IsAnsweredAndSaved rules) old new input input' output output'

  -- exchanges between which only what is saved of the store changes, and in which what a PUT wrote is what a later read returns
  abbrev pub AreSavedRun : Rules → List Exchange → ServerState → ServerState → Type 0
  AreSavedRun rules exchanges old new = AreOneRun see_store says OnlySavedDiffers rules exchanges old new

  -- the exchanges of a run: their bytes are read, and those of their answers are written; what a PUT wrote is what a later read returns
  abbrev pub RunsAndSaves : Rules → ServerState → ServerState → Option (List ℕ) → Option (List ℕ) → Option (List ℕ) → Option (List ℕ) → Type 0
  RunsAndSaves rules old new input input' output output' = RunsBy (IsAnsweredAndSaved rules) (AreSavedRun rules) old new input input' output output'

-- ---- what a crash leaves

module _ {F L : Type 0} where
  -- the snapshot of a server, if it has a lock system
  abbrev pub snapshot_of : Server F L → Option (Snapshot F L)
  snapshot_of server = option_map (λ locks. snapshot_at (store_in server) locks server.now server.last) (lent_locks server.engine)

module _ {F L K : Type 0} (see_store : F → Store) (lasts : K → Gv → Snapshot F L → Type 0) where
  -- a crash leaves what is in the server now
  pub record IsKept (keeper : K) (server : Server F L) : Type 0 where
    pub snapshot : Snapshot F L
    pub is : snapshot_of server ≡ Some snapshot
    pub kept : lasts keeper (saved_of (see_store snapshot.store)) snapshot

module _ {F L K : Type 0} (see_store : F → Store) (lasts_either : K → Gv → Snapshot F L → Snapshot F L → Type 0) where
  -- a crash leaves what is in this snapshot, or what is in the server now
  pub record LastsEither (keeper : K) (earlier : Snapshot F L) (server : Server F L) : Type 0 where
    pub snapshot : Snapshot F L
    pub is : snapshot_of server ≡ Some snapshot
    pub kept : lasts_either keeper (saved_of (see_store snapshot.store)) earlier snapshot

module _ {F L K : Type 0} (see_store : F → Store) (lasts : K → Gv → Snapshot F L → Type 0) (same : Snapshot F L → Snapshot F L → Type 0) where
  -- a crash leaves what is in this snapshot, with its time and its number; of what is kept, the server has the same now
  pub record IsKeptSince (keeper : K) (earlier : Snapshot F L) (server : Server F L) : Type 0 where
    pub snapshot : Snapshot F L
    pub is : snapshot_of server ≡ Some snapshot
    pub kept : lasts keeper (saved_of (see_store snapshot.store)) earlier
    pub unchanged : same earlier snapshot

  -- so it is still; or a crash leaves what is in the server now
  abbrev pub StaysKept : K → Snapshot F L → Server F L → Type 0
  StaysKept keeper earlier server = IsKeptSince keeper earlier server ⊎ IsKept see_store lasts keeper server

-- ---- runs

module _ {F L : Type 0} (see_store : F → Store) (see_locks : L → Locks) (says : F → Reads) (rules : Rules) where
  -- These exchanges lead from one state to the other: the first ones to this snapshot, with the access rights of then, and the rest on from there.
  pub record LeadThrough (exchanges : List Exchange) (old : ServerState) (passed : Snapshot F L) (new : ServerState) : Type 0 where
    pub first : List Exchange
    pub rest : List Exchange
    pub rights : Option (List WrittenRule)
    pub all : exchanges ≡ first ++ rest
    pub before : InOrder (IsAnsweredAndSaved see_store says rules) first old (state_at see_store see_locks rights passed)
    pub after : InOrder (IsAnsweredAndSaved see_store says rules) rest (state_at see_store see_locks rights passed) new

-- `lasts`, `lasts_either` and `same` are those of the keeper
module _ {F L K : Type 0} (see_store : F → Store) (see_locks : L → Locks) (lasts : K → Gv → Snapshot F L → Type 0)
    (same : Snapshot F L → Snapshot F L → Type 0) (says : F → Reads) (rules : Rules) where
  -- a crash leaves what was in the server after the first ones of these exchanges, with the time and the number of then; of what is kept, it has the same now
  pub record IsKeptAfter (keeper : K) (exchanges : List Exchange) (old : ServerState) (server : Server F L) : Type 0 where
    pub snapshot : Snapshot F L
    pub passed : LeadThrough see_store see_locks says rules exchanges old snapshot (state_of see_store see_locks server)
    pub since : IsKeptSince see_store lasts same keeper snapshot server

  -- the exchanges of a run; if a crash left what was in the server before, it now leaves what the first ones of them led to
  pub record RunsAndKeeps (keeper keeper' : K) (old new : Server F L) (input input' output output' : Option (List ℕ)) : Type 0 where
    pub run : RunsAndSaves see_store says rules (state_of see_store see_locks old) (state_of see_store see_locks new) input input' output output'
    pub kept : IsKept see_store lasts keeper old → IsKeptAfter keeper' run.exchanges (state_of see_store see_locks old) new

  -- a batch is served and kept
  pub record KeepsBatch (keeper keeper' : K) (old new : Server F L) : Type 0 where
    pub exchange : Exchange
    pub answered : IsAnsweredAndSaved see_store says rules exchange (state_of see_store see_locks old) (state_of see_store see_locks new)
    pub kept : (earlier : Snapshot F L) → IsKeptSince see_store lasts same keeper earlier old → StaysKept see_store lasts same keeper' earlier new

  -- one more batch is served and kept after these exchanges
  pub record KeepsLast (keeper keeper' : K) (exchanges : List Exchange) (old : Server F L) (mid : ServerState) (new : Server F L) : Type 0 where
    pub exchange : Exchange
    pub answered : IsAnsweredAndSaved see_store says rules exchange mid (state_of see_store see_locks new)
    pub kept : IsKept see_store lasts keeper old → IsKeptAfter keeper' (exchanges ++ exchange ∷ []) (state_of see_store see_locks old) new

-- ---- errors

module _ {F L K : Type 0} (see_store : F → Store) (see_locks : L → Locks) (lasts : K → Gv → Snapshot F L → Type 0)
    (lasts_either : K → Gv → Snapshot F L → Snapshot F L → Type 0) (same : Snapshot F L → Snapshot F L → Type 0) (says : F → Reads) (rules : Rules) where
  -- An error stops an exchange. Nothing changed, or a batch was served (`stopped`). A crash leaves what it left before, or what is in the server now
  -- (`kept`). Nothing was written, or the batch was kept (`in_order`).
  pub record StopsInsideKept (keeper keeper' : K) (old new : Server F L) (output output' : Option (List ℕ)) : Type 0 where
    pub stopped : StopsBy (IsAnsweredAndSaved see_store says rules) (state_of see_store see_locks old) (state_of see_store see_locks new)
    pub kept : (earlier : Snapshot F L) → IsKeptSince see_store lasts same keeper earlier old → LastsEither see_store lasts_either keeper' earlier new
    pub in_order : Keeps output output' ⊎ KeepsBatch see_store see_locks lasts same says rules keeper keeper' old new

  -- a crash leaves what is in the server now, or what was in it after the first ones of these exchanges; of what is kept, it had the same after all of them
  pub record IsKeptOrNow (keeper : K) (exchanges : List Exchange) (old mid : ServerState) (server : Server F L) : Type 0 where
    pub snapshot : Snapshot F L
    pub passed : LeadThrough see_store see_locks says rules exchanges old snapshot mid
    pub last : Snapshot F L
    pub was : state_at see_store see_locks mid.rights last ≡ mid
    pub unchanged : same snapshot last
    pub either : LastsEither see_store lasts_either keeper snapshot server

  -- An error stops a run, after these exchanges and in this state. Nothing changed since, or one more batch was served (`stopped`). A crash leaves what
  -- was kept of the exchanges, or what is in the server now (`kept`). Nothing but the answers of the exchanges was written, or the last batch was kept as
  -- well (`in_order`).
  pub record StopsAfterKept (keeper keeper' : K) (old new : Server F L) (output output' : Option (List ℕ)) : Type 0 where
    pub exchanges : List Exchange
    pub mid : ServerState
    pub answered : InOrder (IsAnsweredAndSaved see_store says rules) exchanges (state_of see_store see_locks old) mid
    pub law : AreSavedRun see_store says rules exchanges (state_of see_store see_locks old) mid
    pub stopped : StopsBy (IsAnsweredAndSaved see_store says rules) mid (state_of see_store see_locks new)
    pub kept : IsKept see_store lasts keeper old → IsKeptOrNow keeper' exchanges (state_of see_store see_locks old) mid new
    pub in_order : Appends output output' (flat_map bytes_out exchanges) ⊎ KeepsLast see_store see_locks lasts same says rules keeper keeper' exchanges old mid new
