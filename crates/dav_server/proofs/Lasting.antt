-- What no batch changes: what is saved of the store, and whether there is a lock system.
use Rattle.std.proofs.Common.{◌≡◌, ◌∙◌, inl, inr, ℕ, Bool, List, [], ◌∷◌, Option, Some, None, Ok, Err, refl, sym, ap}
use Rattle.std.specs.Prelude.{is_some, option_map}
use base.Stored.{Gv}
use Rattle.dav_resource.specs.PathText.{read_path}
use Rattle.dav_resource.specs.declared.request.DavRequest.{DavRequest}
use Rattle.dav_store.specs.Calls.{Reads}
use Rattle.dav_store.specs.Locks.{Locks}
use Rattle.dav_store.specs.Store.{Store}
use Rattle.dav_messages.specs.Reply.{Answer}
use Rattle.dav_wire.specs.Frames.{RequestValue}
use Rattle.dav_server.specs.Batches.{BatchAnswer, AnswersBatch, begun}
use Rattle.dav_server.specs.Events.{Action, Malformed, OutOfMemory, BodyStarted, BodyExtended, BodyDropped, FileRead, ExpiryReturned, HeldReturned, BackupBegun, BackupEnded, RightsRead, RightsExplained, LocksListed, LockRemoved, ModifiedSet, Rejected, Served, Acts, Event, LocksExpired, Does, Happens, Happen, events_of, ServesRequest}
use Rattle.dav_server.specs.Snapshots.{saved_of}
use Rattle.dav_server.specs.State.{Rules, ServerState}
use Rattle.dav_server.proofs.OperatorSteps.{removes_keep, changes_keep}
use Rattle.dav_server.proofs.Reactions.{rights_keep}
use Rattle.dav_engine.specs.State.{Seen}
use Rattle.dav_wire.specs.declared.batch.BatchHeader.{BatchHeader}

-- what is saved of the store, and whether there is a lock system
abbrev pub lasting : ServerState → Gv × Bool
lasting state = (saved_of state.seen.store, is_some state.seen.locks)

pub is_some-map : {A B : Type 0} (f : A → B) (o : Option A) → is_some (option_map f o) ≡ is_some o
is_some-map f None = refl
is_some-map f (Some x) = refl

-- the engine keeps both
request_lasts : (rules : Rules) (frame : RequestValue) (request : DavRequest) (answer : Answer) (old new : ServerState)
    → ServesRequest rules frame request answer old new → lasting new ≡ lasting old
request_lasts rules frame request answer old new served =
    let after = served.executes.after in
    let fixed = served.executes.served.fixed in
    let saved : saved_of after.store ≡ saved_of old.seen.store = ap (λ p. p.0.saved) fixed in
    let there : is_some after.locks ≡ is_some old.seen.locks =
    sym (is_some-map (λ (l : Locks). l.reliable) after.locks) ∙ ap (λ p. is_some p.1) fixed ∙ is_some-map (λ (l : Locks). l.reliable) old.seen.locks in
    ap lasting served.executes.emptied ∙ (λ i. (saved i, there i))

module _ {F : Type 0} (see_store : F → Store) (says : F → Reads) (rules : Rules) where
  action_lasts : (action : Action) (old new : ServerState) → Acts see_store says rules action old new → lasting new ≡ lasting old
  action_lasts Malformed old new acts = ap lasting acts
  action_lasts (OutOfMemory frame) old new acts = ap lasting acts
  action_lasts (BodyStarted (Ok number)) old new acts = ap lasting acts.same ∙ ap (λ (s : Store). (saved_of s, is_some old.seen.locks)) acts.change.started.begun
  action_lasts (BodyStarted (Err e)) old new acts = ap lasting acts.same ∙ ap (λ (s : Store). (saved_of s, is_some old.seen.locks)) acts.change.refused.0
  action_lasts (BodyExtended number more (Ok done)) old new acts =
      ap lasting acts.same ∙ ap (λ (s : Store). (saved_of s, is_some old.seen.locks)) acts.change.added.extended
  action_lasts (BodyExtended number more (Err e)) old new acts = ap lasting acts.same ∙ ap (λ (s : Store). (saved_of s, is_some old.seen.locks)) acts.change.1
  action_lasts (BodyDropped number) old new acts = ap lasting acts
  action_lasts (FileRead asked reply) old new acts = ap lasting acts.0
  action_lasts (ExpiryReturned time) old new acts = ap lasting acts.0
  action_lasts (HeldReturned reply) old new acts = ap lasting acts.0
  action_lasts BackupBegun old new acts = ap lasting acts
  action_lasts BackupEnded old new acts = ap lasting acts
  action_lasts (RightsRead text reply) old new acts = ap (λ (s : Seen). (saved_of s.store, is_some s.locks)) (rights_keep text reply old new acts)
  action_lasts (RightsExplained asked reply) old new acts = ap lasting acts.0
  action_lasts (LocksListed reply) old new acts = ap lasting acts.0
  action_lasts (LockRemoved asked reply) old new acts =
      let keeps = removes_keep (read_path asked.path rules.prefix) asked old new reply acts in λ i. (saved_of (keeps.store i), keeps.there i)
  action_lasts (ModifiedSet asked reply) old new acts =
      let keeps = changes_keep (read_path asked.path rules.prefix) asked old new reply acts in λ i. ((keeps.facts i).saved, is_some (keeps.locks i))
  action_lasts (Rejected frame e) old new acts = ap lasting acts.0
  action_lasts (Served frame request answer) old new acts = request_lasts rules frame request answer old new acts

  event_lasts : (event : Event) (old new : ServerState) → Happens see_store says rules event old new → lasting new ≡ lasting old
  event_lasts LocksExpired old new expired = ap lasting expired ∙ ap (λ b. (saved_of old.seen.store, b)) (is_some-map _ old.seen.locks)
  event_lasts (Does action) old new acts = action_lasts action old new acts

  events_last : (events : List Event) (old new : ServerState) → Happen see_store says rules events old new → lasting new ≡ lasting old
  events_last [] old new same = ap lasting same
  events_last (event ∷ events) old new (mid, first, others) = events_last events mid new others ∙ event_lasts event old mid first

  pub batch_lasts : (header : BatchHeader) (content : List ℕ) (answer : BatchAnswer) (old new : ServerState)
      → AnswersBatch see_store says rules header content answer old new → lasting new ≡ lasting old
  batch_lasts header content answer old new (inl serves) = events_last (events_of serves.served.actions) (begun header old) new serves.served.happen
  batch_lasts header content answer old new (inr (inl (unread, skips))) = ap lasting skips.same
  batch_lasts header content answer old new (inr (inr (inl skips))) = ap lasting skips.same
  batch_lasts header content answer old new (inr (inr (inr refuses))) = ap lasting refuses.same
