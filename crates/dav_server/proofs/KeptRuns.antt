-- Runs whose batches are kept before they are answered.
use Rattle.std.proofs.Common.{◌≡◌, ◌∙◌, ◌⊎◌, inl, inr, ℕ, true, List, [], ◌∷◌, ◌++◌, flat_map, refl, sym, ap, subst, Option, Some, None, Result, Ok, Err, OnOk, OnErr, append-nil, append_assoc}
use Rattle.std.specs.Prelude.{is_some, option_map}
use Rattle.std.specs.Io.KnownBytes.{Appends, Keeps}
use Rattle.std.proofs.KnownBytes.{Appends-kept}
use base.Stored.{Gv}
use Rattle.dav_store.specs.Calls.{Reads}
use Rattle.dav_store.specs.Locks.{Locks}
use Rattle.dav_store.specs.Store.{Store}
use Rattle.dav_engine.specs.DavInner.{lent_locks, has_locks}
use Rattle.dav_rights.specs.Access.{written_rules}
use Rattle.dav_server.specs.Batches.{BatchAnswer, Exchange}
use Rattle.dav_server.specs.Exchanges.{answer_bytes, bytes_out, InOrder, Ends, ReadsAndAnswers}
use Rattle.dav_server.specs.Keeping.{IsAnsweredAndSaved, ExchangesAndSaves, AreSavedRun, snapshot_of, IsKept, IsKeptSince, StaysKept, LastsEither, IsKeptAfter, RunsAndKeeps, IsKeptOrNow, KeepsBatch, KeepsLast, StopsInsideKept, StopsAfterKept}
use Rattle.dav_server.specs.Snapshots.{Snapshot, snapshot_at, state_at, saved_of, IsResaved, KeepsOne}
use Rattle.dav_server.specs.State.{Rules, ServerState, at_rest, state_of, store_in}
use Rattle.dav_server.specs.declared.server.Server.{Server}
use Rattle.dav_server.proofs.Lasting.{lasting, is_some-map, batch_lasts}
use Rattle.dav_server.proofs.ReadingBack.{saved_run}
use Rattle.dav_server.proofs.StreamRuns.{InOrder-append, answer_written, runs_none, runs_more, runs_end}

keeps_same : (known : Option (List ℕ)) → Keeps known known
keeps_same None = tt
keeps_same (Some bytes) = refl

-- ---- snapshots

-- there is a lock system, or there is none
by_locks : {L Goal : Type 0} (o : Option L) → is_some o ≡ true → ((locks : L) → o ≡ Some locks → Goal) → Goal
by_locks None there goal = absurd cc
by_locks (Some locks) there goal = goal locks refl

module _ {F L : Type 0} where
  snapshot_is : (server : Server F L) (locks : L) → lent_locks server.engine ≡ Some locks
      → snapshot_of server ≡ Some (snapshot_at (store_in server) locks server.now server.last)
  snapshot_is server locks is = ap (option_map (λ l. snapshot_at (store_in server) l server.now server.last)) is

  -- what a snapshot of a server says of it
  module _ (see_store : F → Store) (see_locks : L → Locks) where
    record Shows (server : Server F L) (snapshot : Snapshot F L) : Type 0 where
      state : state_at see_store see_locks (written_rules server.rights) snapshot ≡ state_of see_store see_locks server
      store : store_in server ≡ snapshot.store
      there : has_locks server.engine ≡ true

    shown : (server : Server F L) (snapshot : Snapshot F L) → snapshot_of server ≡ Some snapshot → Shows server snapshot
    shown server snapshot is = by_there (lent_locks server.engine) refl
      where
        by_there : (o : Option L) → lent_locks server.engine ≡ o → Shows server snapshot
        by_there None none =
            let no : None ≡ Some snapshot = sym (ap (option_map (λ l. snapshot_at (store_in server) l server.now server.last)) none) ∙ is in absurd cc
        by_there (Some locks) some =
            let both : Some (snapshot_at (store_in server) locks server.now server.last) ≡ Some snapshot = sym (snapshot_is server locks some) ∙ is in
            let same : snapshot_at (store_in server) locks server.now server.last ≡ snapshot = cc in
            record {
              state = ap (state_at see_store see_locks (written_rules server.rights)) (sym same)
                  ∙ ap (λ o. record (state_of see_store see_locks server) { seen = record { store = at_rest (see_store (store_in server)); locks = option_map see_locks o } }) (sym some);
              store = ap (λ (s : Snapshot F L). s.store) same;
              there = ap is_some some;
            }

-- ---- one call of the keeper

module _ {F L K : Type 0} (see_store : F → Store) (lasts : K → Gv → Snapshot F L → Type 0) (same : Snapshot F L → Snapshot F L → Type 0) where
  -- what is saved of the store is as before
  lasted : (keeper : K) (earlier : Snapshot F L) (old next : Server F L) (see_locks : L → Locks)
      → saved_of (see_store (store_in next)) ≡ saved_of (see_store (store_in old))
      → IsKeptSince see_store lasts same keeper earlier old → lasts keeper (saved_of (see_store (store_in next))) earlier
  lasted keeper earlier old next see_locks as_before since =
      subst (λ saved. lasts keeper saved earlier)
      (sym (as_before ∙ ap (λ s. saved_of (see_store s)) (shown see_store see_locks old since.snapshot since.is).store)) since.kept

  stays : (keeper : K) (before now : Snapshot F L) (server : Server F L) → snapshot_of server ≡ Some now
      → KeepsOne lasts same keeper (saved_of (see_store now.store)) before now → StaysKept see_store lasts same keeper before server
  stays keeper before now server is (inl kept) = inr (record { snapshot = now; is = is; kept = kept })
  stays keeper before now server is (inr (kept, unchanged)) = inl (record { snapshot = now; is = is; kept = kept; unchanged = unchanged })

  pub keeps_now : {T E : Type 0} (r : Result T E) (keeper keeper' : K) (old new : Server F L)
      → lent_locks new.engine ≡ lent_locks old.engine → OnOk r (has_locks old.engine ≡ true)
      → OnOk r ((before : Snapshot F L) (locks : L) → lasts keeper (saved_of (see_store (store_in old))) before → lent_locks old.engine ≡ Some locks
      → KeepsOne lasts same keeper' (saved_of (see_store (store_in new))) before (snapshot_at (store_in new) locks new.now new.last))
      → OnOk r ((before : Snapshot F L) → lasts keeper (saved_of (see_store (store_in old))) before → StaysKept see_store lasts same keeper' before new)
  keeps_now (Err e) keeper keeper' old new locks there ok = tt
  keeps_now (Ok x) keeper keeper' old new as_before there ok =
      λ before lasted. by_locks (lent_locks old.engine) there
      (λ locks is. stays keeper' before (snapshot_at (store_in new) locks new.now new.last) new (snapshot_is new locks (as_before ∙ is)) (ok before locks lasted is))

module _ {F L K : Type 0} (see_store : F → Store) (lasts : K → Gv → Snapshot F L → Type 0) (lasts_either : K → Gv → Snapshot F L → Snapshot F L → Type 0) where
  pub keeps_either : {T E : Type 0} (r : Result T E) (keeper keeper' : K) (old new : Server F L)
      → lent_locks new.engine ≡ lent_locks old.engine
      → OnErr r ((before : Snapshot F L) (locks : L) → lasts keeper (saved_of (see_store (store_in old))) before → lent_locks old.engine ≡ Some locks
      → lasts_either keeper' (saved_of (see_store (store_in new))) before (snapshot_at (store_in new) locks new.now new.last))
      → OnErr r ((before : Snapshot F L) → lasts keeper (saved_of (see_store (store_in old))) before → has_locks old.engine ≡ true
      → LastsEither see_store lasts_either keeper' before new)
  keeps_either (Ok x) keeper keeper' old new same err = tt
  keeps_either (Err e) keeper keeper' old new same err =
      λ before lasted there. by_locks (lent_locks old.engine) there
      (λ locks is. record { snapshot = snapshot_at (store_in new) locks new.now new.last; is = snapshot_is new locks (same ∙ is); kept = err before locks lasted is })

-- what is kept still, or now, is in one of two snapshots, by the laws of the keeper
either_of : {F L K : Type 0} (see_store : F → Store) (lasts : K → Gv → Snapshot F L → Type 0) (lasts_either : K → Gv → Snapshot F L → Snapshot F L → Type 0)
    (same : Snapshot F L → Snapshot F L → Type 0)
    → ((keeper : K) (saved : Gv) (one other : Snapshot F L) → lasts keeper saved one → lasts_either keeper saved one other)
    → ((keeper : K) (saved : Gv) (one other : Snapshot F L) → lasts keeper saved other → lasts_either keeper saved one other)
    → (keeper : K) (earlier : Snapshot F L) (server : Server F L) → StaysKept see_store lasts same keeper earlier server → LastsEither see_store lasts_either keeper earlier server
either_of see_store lasts lasts_either same first second keeper earlier server (inl since) =
    record { snapshot = since.snapshot; is = since.is; kept = first keeper (saved_of (see_store since.snapshot.store)) earlier since.snapshot since.kept }
either_of see_store lasts lasts_either same first second keeper earlier server (inr now) =
    record { snapshot = now.snapshot; is = now.is; kept = second keeper (saved_of (see_store now.snapshot.store)) earlier now.snapshot now.kept }

-- ---- one exchange

module _ {F L K : Type 0} (see_store : F → Store) (see_locks : L → Locks) (says : F → Reads) (rules : Rules)
    (lasts : K → Gv → Snapshot F L → Type 0) (lasts_either : K → Gv → Snapshot F L → Snapshot F L → Type 0) (same : Snapshot F L → Snapshot F L → Type 0) where
  -- a batch is answered, in the server between
  abbrev Answered : BatchAnswer → Server F L → Server F L → Option (List ℕ) → Option (List ℕ) → Type 0
  Answered answer old next input input' =
      ReadsAndAnswers see_store says rules answer (state_of see_store see_locks old) (state_of see_store see_locks next) input input'

  module _ (answer : BatchAnswer) (old next : Server F L) (input input' : Option (List ℕ)) (h : Answered answer old next input input') where
    same_lasting : lasting (state_of see_store see_locks next) ≡ lasting (state_of see_store see_locks old)
    same_lasting = batch_lasts see_store says rules h.exchange.header h.exchange.content h.exchange.answer _ _ h.answered.answers

    -- the snapshot that was kept, while the store is that of the server between
    pub still_lasts : (keeper : K) (earlier : Snapshot F L) → IsKeptSince see_store lasts same keeper earlier old
        → lasts keeper (saved_of (see_store (store_in next))) earlier
    still_lasts keeper earlier since = lasted see_store lasts same keeper earlier old next see_locks (ap (λ p. p.0) same_lasting) since

    still_there : (keeper : K) (earlier : Snapshot F L) → IsKeptSince see_store lasts same keeper earlier old → has_locks next.engine ≡ true
    still_there keeper earlier since =
        sym (is_some-map see_locks (lent_locks next.engine)) ∙ ap (λ p. p.1) same_lasting
        ∙ is_some-map see_locks (lent_locks old.engine) ∙ (shown see_store see_locks old since.snapshot since.is).there

    module _ (new : Server F L) (saved : IsResaved (state_of see_store see_locks next) (state_of see_store see_locks new)) where
      answered_and_saved : IsAnsweredAndSaved see_store says rules h.exchange (state_of see_store see_locks old) (state_of see_store see_locks new)
      answered_and_saved = record { served = state_of see_store see_locks next; answered = h.answered; saved = saved }

      pub exchanged_and_saved : (output output' : Option (List ℕ)) → Appends output output' (answer_bytes answer)
          → ExchangesAndSaves see_store says rules (state_of see_store see_locks old) (state_of see_store see_locks new) input input' output output'
      exchanged_and_saved output output' written =
          record {
            exchange = h.exchange;
            answered = answered_and_saved;
            read = h.read;
            written = answer_written see_store says rules answer _ _ input input' output output' h written;
          }

      -- the keeper fails, and nothing is written
      pub stops_unkept : {T E : Type 0} (r : Result T E) (keeper keeper' : K) (output : Option (List ℕ))
          → ((before : Snapshot F L) → lasts keeper (saved_of (see_store (store_in next))) before → has_locks next.engine ≡ true
          → LastsEither see_store lasts_either keeper' before new)
          → OnErr r (StopsInsideKept see_store see_locks lasts lasts_either same says rules keeper keeper' old new output output)
      stops_unkept (Ok x) keeper keeper' output either = tt
      stops_unkept (Err e) keeper keeper' output either =
          record {
            stopped = inr (h.exchange, answered_and_saved);
            kept = λ earlier since. either earlier (still_lasts keeper earlier since) (still_there keeper earlier since);
            in_order = inl (keeps_same output);
          }

      -- the output fails, and the batch is kept
      pub stops_unwritten : {T E : Type 0} (r : Result T E) (keeper keeper' : K) (output output' : Option (List ℕ))
          → ((keeper : K) (saved : Gv) (one other : Snapshot F L) → lasts keeper saved one → lasts_either keeper saved one other)
          → ((keeper : K) (saved : Gv) (one other : Snapshot F L) → lasts keeper saved other → lasts_either keeper saved one other)
          → ((before : Snapshot F L) → lasts keeper (saved_of (see_store (store_in next))) before → StaysKept see_store lasts same keeper' before new)
          → OnErr r (StopsInsideKept see_store see_locks lasts lasts_either same says rules keeper keeper' old new output output')
      stops_unwritten (Ok x) keeper keeper' output output' first second now = tt
      stops_unwritten (Err e) keeper keeper' output output' first second now =
          record {
            stopped = inr (h.exchange, answered_and_saved);
            kept = λ earlier since. either_of see_store lasts lasts_either same first second keeper' earlier new (now earlier (still_lasts keeper earlier since));
            in_order = inr (record { exchange = h.exchange; answered = answered_and_saved; kept = λ earlier since. now earlier (still_lasts keeper earlier since) });
          }

  -- nothing changed
  stops_here : (keeper : K) (server : Server F L) (output : Option (List ℕ))
      → ((keeper : K) (saved : Gv) (one other : Snapshot F L) → lasts keeper saved one → lasts_either keeper saved one other)
      → StopsInsideKept see_store see_locks lasts lasts_either same says rules keeper keeper server server output output
  stops_here keeper server output first =
      record {
        stopped = inl refl;
        kept = λ earlier since. record {
          snapshot = since.snapshot;
          is = since.is;
          kept = first keeper (saved_of (see_store since.snapshot.store)) earlier since.snapshot since.kept;
        };
        in_order = inl (keeps_same output);
      }

  pub stops_unread : {T E : Type 0} (r : Result T E) (keeper : K) (old new : Server F L) (output : Option (List ℕ))
      → ((keeper : K) (saved : Gv) (one other : Snapshot F L) → lasts keeper saved one → lasts_either keeper saved one other)
      → new ≡ old → OnErr r (StopsInsideKept see_store see_locks lasts lasts_either same says rules keeper keeper old new output output)
  stops_unread (Ok x) keeper old new output first as_before = tt
  stops_unread (Err e) keeper old new output first as_before =
      subst (λ s. StopsInsideKept see_store see_locks lasts lasts_either same says rules keeper keeper old s output output) (sym as_before) (stops_here keeper old output first)

-- ---- a run

-- `alike` is a law of the keeper
module _ {F L K : Type 0} (see_store : F → Store) (see_locks : L → Locks) (says : F → Reads) (rules : Rules)
    (lasts : K → Gv → Snapshot F L → Type 0) (same : Snapshot F L → Snapshot F L → Type 0) (alike : (snapshot : Snapshot F L) → same snapshot snapshot) where
  -- a crash leaves what all exchanges led to
  kept_now : (exchanges : List Exchange) (old : ServerState) (server : Server F L) (keeper : K)
      → InOrder (IsAnsweredAndSaved see_store says rules) exchanges old (state_of see_store see_locks server) → IsKept see_store lasts keeper server
      → IsKeptAfter see_store see_locks lasts same says rules keeper exchanges old server
  kept_now exchanges old server keeper answered now =
      let state = (shown see_store see_locks server now.snapshot now.is).state in
      record {
        snapshot = now.snapshot;
        passed = record {
          first = exchanges;
          rest = [];
          rights = written_rules server.rights;
          all = sym (append-nil exchanges);
          before = subst (InOrder (IsAnsweredAndSaved see_store says rules) exchanges old) (sym state) answered;
          after = sym state;
        };
        since = record { snapshot = now.snapshot; is = now.is; kept = now.kept; unchanged = alike now.snapshot };
      }

  -- a crash leaves what the first of some exchanges led to, and then there are more
  kept_on : (exchanges more all : List Exchange) (old : ServerState) (mid new : Server F L) (keeper keeper' : K) → all ≡ exchanges ++ more
      → InOrder (IsAnsweredAndSaved see_store says rules) exchanges old (state_of see_store see_locks mid)
      → InOrder (IsAnsweredAndSaved see_store says rules) more (state_of see_store see_locks mid) (state_of see_store see_locks new)
      → ((earlier : Snapshot F L) → IsKeptSince see_store lasts same keeper earlier mid → StaysKept see_store lasts same keeper' earlier new)
      → IsKeptAfter see_store see_locks lasts same says rules keeper exchanges old mid
      → IsKeptAfter see_store see_locks lasts same says rules keeper' all old new
  kept_on exchanges more all old mid new keeper keeper' is answered others stay before = by_stay (stay before.snapshot before.since)
    where
      by_stay : StaysKept see_store lasts same keeper' before.snapshot new → IsKeptAfter see_store see_locks lasts same says rules keeper' all old new
      by_stay (inl since) =
          let passed = before.passed in
          record {
            snapshot = before.snapshot;
            passed = record {
              first = passed.first;
              rest = passed.rest ++ more;
              rights = passed.rights;
              all = is ∙ ap (λ (xs : List Exchange). xs ++ more) passed.all ∙ append_assoc passed.first passed.rest more;
              before = passed.before;
              after = InOrder-append (IsAnsweredAndSaved see_store says rules) passed.rest more _ _ _ passed.after others;
            };
            since = since;
          }
      by_stay (inr now) =
          let whole = InOrder-append (IsAnsweredAndSaved see_store says rules) exchanges more _ _ _ answered others in
          kept_now all old new keeper'
          (subst (λ (xs : List Exchange). InOrder (IsAnsweredAndSaved see_store says rules) xs old (state_of see_store see_locks new)) (sym is) whole) now

  pub keeps_none : (keeper : K) (server : Server F L) (a u : Option (List ℕ)) → RunsAndKeeps see_store see_locks lasts same says rules keeper keeper server server a a u u
  unfolding runs_none
  keeps_none keeper server a u =
      record {
        run = runs_none (IsAnsweredAndSaved see_store says rules) (AreSavedRun see_store says rules) (saved_run see_store says rules) (state_of see_store see_locks server) a u;
        kept = λ kept. kept_now [] (state_of see_store see_locks server) server keeper refl kept;
      }

  pub keeps_more : (first keeper keeper' : K) (old mid new : Server F L) (a b c u v w : Option (List ℕ))
      → RunsAndKeeps see_store see_locks lasts same says rules first keeper old mid a b u v
      → ExchangesAndSaves see_store says rules (state_of see_store see_locks mid) (state_of see_store see_locks new) b c v w
      → ((earlier : Snapshot F L) → IsKeptSince see_store lasts same keeper earlier mid → StaysKept see_store lasts same keeper' earlier new)
      → RunsAndKeeps see_store see_locks lasts same says rules first keeper' old new a c u w
  unfolding runs_more
  keeps_more first keeper keeper' old mid new a b c u v w so_far more stay =
      record {
        run = runs_more (IsAnsweredAndSaved see_store says rules) (AreSavedRun see_store says rules) (saved_run see_store says rules)
            (state_of see_store see_locks old) (state_of see_store see_locks mid) (state_of see_store see_locks new) a b c u v w so_far.run more;
        kept = λ kept. kept_on so_far.run.exchanges (more.exchange ∷ []) (so_far.run.exchanges ++ more.exchange ∷ []) (state_of see_store see_locks old) mid new keeper keeper' refl
            so_far.run.answered (state_of see_store see_locks new, more.answered, refl) stay (so_far.kept kept);
      }

  -- the input ends after a run
  pub keeps_end : (first keeper keeper' : K) (old mid new : Server F L) (a b c u v w : Option (List ℕ))
      → RunsAndKeeps see_store see_locks lasts same says rules first keeper old mid a b u v
      → Ends (state_of see_store see_locks mid) (state_of see_store see_locks new) b c v w
      → ((earlier : Snapshot F L) → IsKeptSince see_store lasts same keeper earlier mid → StaysKept see_store lasts same keeper' earlier new)
      → RunsAndKeeps see_store see_locks lasts same says rules first keeper' old new a c u w
  unfolding runs_end
  keeps_end first keeper keeper' old mid new a b c u v w so_far end stay =
      record {
        run = runs_end (IsAnsweredAndSaved see_store says rules) (AreSavedRun see_store says rules) (saved_run see_store says rules)
            (state_of see_store see_locks old) (state_of see_store see_locks mid) (state_of see_store see_locks new) a b c u v w so_far.run end;
        kept = λ kept. kept_on so_far.run.exchanges [] so_far.run.exchanges (state_of see_store see_locks old) mid new keeper keeper' (sym (append-nil so_far.run.exchanges))
            so_far.run.answered end.same stay (so_far.kept kept);
      }

-- ---- a run that an error stops

-- `first` and `alike` are laws of the keeper
module _ {F L K : Type 0} (see_store : F → Store) (see_locks : L → Locks) (says : F → Reads) (rules : Rules)
    (lasts : K → Gv → Snapshot F L → Type 0) (lasts_either : K → Gv → Snapshot F L → Snapshot F L → Type 0) (same : Snapshot F L → Snapshot F L → Type 0)
    (alike : (snapshot : Snapshot F L) → same snapshot snapshot) where
  -- an exchange stops after a run
  inside_run : (first keeper keeper' : K) (old mid new : Server F L) (a b u v w : Option (List ℕ))
      → RunsAndKeeps see_store see_locks lasts same says rules first keeper old mid a b u v
      → StopsInsideKept see_store see_locks lasts lasts_either same says rules keeper keeper' mid new v w
      → StopsAfterKept see_store see_locks lasts lasts_either same says rules first keeper' old new u w
  inside_run first keeper keeper' old mid new a b u v w so_far inside =
      record {
        exchanges = so_far.run.exchanges;
        mid = state_of see_store see_locks mid;
        answered = so_far.run.answered;
        law = so_far.run.law;
        stopped = inside.stopped;
        kept = λ kept. or_now (so_far.kept kept);
        in_order = by_order inside.in_order;
      }
    where
      or_now : IsKeptAfter see_store see_locks lasts same says rules keeper so_far.run.exchanges (state_of see_store see_locks old) mid
          → IsKeptOrNow see_store see_locks lasts lasts_either same says rules keeper' so_far.run.exchanges (state_of see_store see_locks old) (state_of see_store see_locks mid) new
      or_now before =
          record {
            snapshot = before.snapshot;
            passed = before.passed;
            last = before.since.snapshot;
            was = (shown see_store see_locks mid before.since.snapshot before.since.is).state;
            unchanged = before.since.unchanged;
            either = inside.kept before.snapshot before.since;
          }

      by_order : Keeps v w ⊎ KeepsBatch see_store see_locks lasts same says rules keeper keeper' mid new
          → Appends u w (flat_map bytes_out so_far.run.exchanges)
          ⊎ KeepsLast see_store see_locks lasts same says rules first keeper' so_far.run.exchanges old (state_of see_store see_locks mid) new
      by_order (inl keeps) = inl (Appends-kept u v w (flat_map bytes_out so_far.run.exchanges) so_far.run.written keeps)
      by_order (inr batch) =
          inr (record {
            exchange = batch.exchange;
            answered = batch.answered;
            kept = λ kept. kept_on see_store see_locks says rules lasts same alike so_far.run.exchanges (batch.exchange ∷ []) (so_far.run.exchanges ++ batch.exchange ∷ [])
                (state_of see_store see_locks old) mid new keeper keeper' refl so_far.run.answered (state_of see_store see_locks new, batch.answered, refl) batch.kept (so_far.kept kept);
          })

  pub stops_after : {T E : Type 0} (r : Result T E) (first keeper keeper' : K) (old mid new : Server F L) (a b u v w : Option (List ℕ))
      → RunsAndKeeps see_store see_locks lasts same says rules first keeper old mid a b u v
      → StopsInsideKept see_store see_locks lasts lasts_either same says rules keeper keeper' mid new v w
      → OnErr r (StopsAfterKept see_store see_locks lasts lasts_either same says rules first keeper' old new u w)
  stops_after (Ok x) first keeper keeper' old mid new a b u v w so_far inside = tt
  stops_after (Err e) first keeper keeper' old mid new a b u v w so_far inside = inside_run first keeper keeper' old mid new a b u v w so_far inside

  -- the loop ends before the input does
  pub stops_at_last : (first keeper : K) (old mid : Server F L) (a b u v : Option (List ℕ))
      → RunsAndKeeps see_store see_locks lasts same says rules first keeper old mid a b u v
      → ((keeper : K) (saved : Gv) (one other : Snapshot F L) → lasts keeper saved one → lasts_either keeper saved one other)
      → StopsAfterKept see_store see_locks lasts lasts_either same says rules first keeper old mid u v
  stops_at_last first keeper old mid a b u v so_far law =
      inside_run first keeper keeper old mid mid a b u v v so_far (stops_here see_store see_locks says rules lasts lasts_either same keeper mid v law)
