-- Requests as rules and work.
use Rattle.std.proofs.Common.{◌≡◌, ◌++◌, [], List, Option, Some, None, Ok, Err, ◌⊎◌, inl, inr, refl, sym, subst, append_assoc, append-nil, option_map, Result, IfOk, IfErr, Bool, true, false, if◌then◌else◌}
use Rattle.std.specs.Option.{option_map_or}
use Rattle.std.specs.Result.{IsErrAnd}
use Rattle.std.proofs.lemmas.Result.{err_from_is_err_and}
use Rattle.http.specs.declared.response.Response.{Response}
use Rattle.dav_resource.specs.declared.error.DavError.{DavError}
use Rattle.dav_resource.specs.declared.error.DavError.TheVariants.{Memory, Status}
use Rattle.dav_resource.specs.declared.method.DavMethod.{DavMethod}
use Rattle.dav_resource.specs.declared.method.DavMethod.TheVariants.{Head, Get, Put, Patch, Options, PropFind, PropPatch, MkCol, Copy, Move, Delete, Lock, Unlock}
use Rattle.dav_resource.specs.declared.request.Body.{Body}
use Rattle.dav_resource.specs.declared.request.DavRequest.{DavRequest}
use Rattle.dav_store.specs.Logged.{Logged}
use Rattle.dav_store.specs.Store.{Store, Contents}
use Rattle.dav_store.specs.Locks.{Locks, all_reliable}
use Rattle.dav_messages.specs.Dialogue.{Refuses, EndsIn, Judges, Reaches}
use Rattle.dav_messages.specs.Reply.{Reply, Answer, answer_of, reply_of}
use Rattle.dav_engine.specs.Law.{Law}
use Rattle.dav_engine.specs.State.{State, Seen, state_of, facts_of, IsLawfulState}
use Rattle.dav_engine.specs.Settings.{Settings}
use Rattle.dav_engine.specs.Method.{Method, StepBy, Refused, Done, CutShort, CutInWork, OnStore, CutOnStore}
use Rattle.dav_engine.specs.Methods.{Step, mkcol_method, write_method, delete_method, copy_method, move_method, lock_method, unlock_method, proppatch_method, options_method, propfind_method}
use Rattle.dav_engine.specs.Step.{Serves}
use Rattle.dav_engine.specs.Work.{Performs, WorksOnStore}
use Rattle.dav_engine.proofs.Compatible.{Keeps, compatible_same, keeps_mkcol, keeps_put, keeps_delete, keeps_copy, keeps_move, keeps_lock, keeps_unlock, keeps_proppatch, keeps_options, keeps_propfind}
use Rattle.dav_engine.proofs.LawsOfMethods.{Obeys, law_same, obeys_mkcol, obeys_put, obeys_delete, obeys_copy, obeys_move, obeys_lock, obeys_unlock, obeys_proppatch, obeys_options, obeys_propfind}
use Rattle.dav_engine.proofs.Guarding.{Guards, guarded_same, guards_mkcol, guards_put, guards_delete, guards_copy, guards_move, guards_lock, guards_unlock, guards_proppatch, guards_options, guards_propfind}

-- what was seen, with another store
abbrev pub over : Store → Option Locks → Seen
over store locks = record { store = store; locks = locks }

-- the facts stay where the store's do
pub same_facts : (locks : Option Locks) (old new : Store) → new.facts ≡ old.facts → facts_of (over new locks) ≡ facts_of (over old locks)
same_facts locks old new fixed = λ i. (fixed i, option_map (λ (l : Locks). l.reliable) locks)

pub same_state : (locks : Option Locks) (old new : Store) → new.contents ≡ old.contents → state_of (over new locks) ≡ state_of (over old locks)
same_state locks old new same = λ i. record { contents = same i; locks = option_map (λ (l : Locks). l.list) locks; reliable = option_map_or (λ (l : Locks). l.reliable) locks all_reliable }

-- what is proved of a method: a request of this name is served by it, the locks guard it, it keeps them compatible, and its laws hold
pub record IsSound (name : Option DavMethod) (method : Method) : Type 0 where
  pub named : {settings : Settings} {request : DavRequest} {old : State} {records : List Logged} {answer : Answer} {new : State} → StepBy method settings request old records answer new → Step name settings request old records answer new
  pub guards : Guards name method
  pub keeps : Keeps method
  pub obeys : Obeys name method

pub mkcol_sound : IsSound (Some MkCol) mkcol_method
mkcol_sound = record { named = λ step. step; guards = guards_mkcol; keeps = keeps_mkcol; obeys = obeys_mkcol }

pub write_sound : (partial : Bool) → IsSound (Some (if partial then Patch else Put)) (write_method partial)
write_sound true = record { named = λ step. step; guards = guards_put (Some Patch) true; keeps = keeps_put true; obeys = obeys_put true }
write_sound false = record { named = λ step. step; guards = guards_put (Some Put) false; keeps = keeps_put false; obeys = obeys_put false }

pub delete_sound : IsSound (Some Delete) delete_method
delete_sound = record { named = λ step. step; guards = guards_delete; keeps = keeps_delete; obeys = obeys_delete }

pub copy_sound : IsSound (Some Copy) copy_method
copy_sound = record { named = λ step. step; guards = guards_copy; keeps = keeps_copy; obeys = obeys_copy }

pub move_sound : IsSound (Some Move) move_method
move_sound = record { named = λ step. step; guards = guards_move; keeps = keeps_move; obeys = obeys_move }

pub lock_sound : IsSound (Some Lock) lock_method
lock_sound = record { named = λ step. step; guards = guards_lock; keeps = keeps_lock; obeys = obeys_lock }

pub unlock_sound : IsSound (Some Unlock) unlock_method
unlock_sound = record { named = λ step. step; guards = guards_unlock; keeps = keeps_unlock; obeys = obeys_unlock }

pub proppatch_sound : IsSound (Some PropPatch) proppatch_method
proppatch_sound = record { named = λ step. step; guards = guards_proppatch; keeps = keeps_proppatch; obeys = obeys_proppatch }

pub options_sound : IsSound (Some Options) options_method
options_sound = record { named = λ step. step; guards = guards_options; keeps = keeps_options; obeys = obeys_options }

pub propfind_sound : IsSound (Some PropFind) propfind_method
propfind_sound = record { named = λ step. step; guards = guards_propfind; keeps = keeps_propfind; obeys = obeys_propfind }

module _ {name : Option DavMethod} (method : Method) (sound : IsSound name method) (settings : Settings) (request : DavRequest) (locks : Option Locks) where
  -- the rules end it, by the exit of a `?`
  pub serves_exit : (old new : Store) (e : DavError) (result : Result (Response Body) DavError) → IsLawfulState (state_of (over old locks)) → IsErrAnd result (λ d. d ≡ e)
      → Judges (method.rules settings request (state_of (over old locks))) old (Err e) new → Serves name settings (over old locks) request (answer_of result) (over new locks)
  serves_exit old new e result lawful recorded h =
      let p = err_from_is_err_and result recorded in
      rw (p.1, p.2) (record {
        records = h.records;
        recorded = h.recorded;
        fixed = same_facts locks old new h.fixed;
        step = sound.named (step h.ends);
        law = sound.obeys settings request _ _ _ _ lawful (step h.ends);
        guarded = guarded_same name request _ _ (same_state locks old new h.same);
        compatible = compatible_same _ _ (same_state locks old new h.same);
      })
    where
      step : EndsIn (method.rules settings request (state_of (over old locks))) h.records (Err e) → StepBy method settings request (state_of (over old locks)) h.records (Err e) (state_of (over new locks))
      step (inl refuses) = Refused (record { head = refuses; same = same_state locks old new h.same })
      step (inr memory) = CutShort (record { left = memory.1.0; head = memory.1.1; answered = rw memory.0; same = same_state locks old new h.same })

  -- the rules end it, by a reply
  pub serves_reply : (old new : Store) (reply : Reply) → IsLawfulState (state_of (over old locks)) → Reaches (method.rules settings request (state_of (over old locks))) old (Refuses (Ok reply)) new → Serves name settings (over old locks) request (Ok reply) (over new locks)
  serves_reply old new reply lawful h = record {
    records = h.records;
    recorded = h.recorded;
    fixed = same_facts locks old new h.fixed;
    step = sound.named (Refused (record { head = h.leads; same = same_state locks old new h.same }));
    law = sound.obeys settings request _ _ _ _ lawful (Refused (record { head = h.leads; same = same_state locks old new h.same }));
    guarded = guarded_same name request _ _ (same_state locks old new h.same);
    compatible = compatible_same _ _ (same_state locks old new h.same);
  }

  -- the rules end it, by a reply, unless memory runs out behind them
  pub serves_told : (old new : Store) (reply : Reply) (result : Result (Response Body) DavError) → IsLawfulState (state_of (over old locks)) → IfOk result (λ response. reply_of response ≡ reply) → IfErr result (λ e. e ≡ Memory)
      → Reaches (method.rules settings request (state_of (over old locks))) old (Refuses (Ok reply)) new → Judges (method.rules settings request (state_of (over old locks))) old (Err Memory) new
      → Serves name settings (over old locks) request (answer_of result) (over new locks)
  serves_told old new reply (Ok response) lawful recorded memory h g = rw recorded (serves_reply old new reply lawful h)
  serves_told old new reply (Err e) lawful recorded memory h g = serves_exit old new Memory (Err e) lawful memory g

  -- the rules are passed, and the work follows
  pub serves_work : (found : method.Found) (old mid : Store) (new : Seen) (answer : Answer) → IsLawfulState (state_of (over old locks)) → Judges (method.rules settings request (state_of (over old locks))) old (Ok found) mid
      → Performs (method.Work settings request found) (method.Cut settings request found) (over mid locks) answer new → Serves name settings (over old locks) request answer new
  serves_work found old mid new answer lawful h works =
      let done = rw (same_state locks old mid h.same) at works.done in
      record {
        records = h.records ++ works.records;
        recorded = rw (works.recorded, h.recorded, append_assoc);
        fixed = rw (works.fixed, same_facts locks old mid h.fixed);
        step = sound.named (step done);
        law = sound.obeys settings request _ _ _ _ lawful (step done);
        guarded = sound.guards settings request found _ _ h.records works.records answer h.ends done;
        compatible = sound.keeps settings request found _ _ works.records answer done;
      }
    where
      step : method.Work settings request found (state_of (over old locks)) works.records answer (state_of new) ⊎ ((answer ≡ Err Memory) × method.Cut settings request found (state_of (over old locks)) works.records (state_of new))
          → StepBy method settings request (state_of (over old locks)) (h.records ++ works.records) answer (state_of new)
      step (inl work) = Done (record { head = h.records; rest = works.records; cut = refl; found = found; passed = h.ends; work = work })
      step (inr cut) = CutInWork (record { head = h.records; rest = works.records; cut = refl; found = found; passed = h.ends; answered = cut.0; work = cut.1 })

-- no call, 501, and nothing changes
abbrev pub IsUnservedAs : Option DavMethod → Settings → DavRequest → State → Type 0
IsUnservedAs method settings request state = Step method settings request state [] (Err (Status 501)) state × Law method settings request state [] (Err (Status 501)) state

pub unserved_unknown : (settings : Settings) (request : DavRequest) (state : State) → IsUnservedAs None settings request state
unserved_unknown settings request state = (record { none = refl; answered = refl; same = refl }, law_same None settings request state (record { contents = refl; locks = refl }))

-- a method that isn't served
pub serves_none : (method : Option DavMethod) (settings : Settings) (request : DavRequest) (seen : Seen) → ((state : State) → IsUnservedAs method settings request state) → Serves method settings seen request (Err (Status 501)) seen
serves_none method settings request seen unserved = record {
  records = [];
  recorded = sym (append-nil seen.store.log);
  fixed = refl;
  step = (unserved (state_of seen)).0;
  guarded = guarded_same method request (state_of seen) (state_of seen) refl;
  law = (unserved (state_of seen)).1;
  compatible = λ h. h;
}

-- the method that was read is the request's
pub serves_as : (read method : Option DavMethod) (settings : Settings) (old : Seen) (request : DavRequest) (answer : Answer) (new : Seen) → read ≡ method → Serves read settings old request answer new → Serves method settings old request answer new
serves_as read method settings old request answer new is served = subst (λ m. Serves m settings old request answer new) is served

-- the methods that aren't served
pub unserved : (settings : Settings) (request : DavRequest) (method : DavMethod) → ((method ≡ MkCol) → ⊥) → ((method ≡ Put) → ⊥) → ((method ≡ Patch) → ⊥) → ((method ≡ Delete) → ⊥) → ((method ≡ Copy) → ⊥) → ((method ≡ Move) → ⊥) → ((method ≡ Lock) → ⊥) → ((method ≡ Unlock) → ⊥) → ((method ≡ PropPatch) → ⊥) → ((method ≡ Options) → ⊥) → ((method ≡ PropFind) → ⊥) → (state : State) → IsUnservedAs (Some method) settings request state
unserved settings request Head a b p d c m l u r o f state = (record { none = refl; answered = refl; same = refl }, law_same (Some Head) settings request state (record { contents = refl; locks = refl }))
unserved settings request Get a b p d c m l u r o f state = (record { none = refl; answered = refl; same = refl }, law_same (Some Get) settings request state (record { contents = refl; locks = refl }))
unserved settings request Put a b p d c m l u r o f state = absurd (b refl)
unserved settings request Patch a b p d c m l u r o f state = absurd (p refl)
unserved settings request Options a b p d c m l u r o f state = absurd (o refl)
unserved settings request PropFind a b p d c m l u r o f state = absurd (f refl)
unserved settings request PropPatch a b p d c m l u r o f state = absurd (r refl)
unserved settings request MkCol a b p d c m l u r o f state = absurd (a refl)
unserved settings request Copy a b p d c m l u r o f state = absurd (c refl)
unserved settings request Move a b p d c m l u r o f state = absurd (m refl)
unserved settings request Delete a b p d c m l u r o f state = absurd (d refl)
unserved settings request Lock a b p d c m l u r o f state = absurd (l refl)
unserved settings request Unlock a b p d c m l u r o f state = absurd (u refl)

-- work that knows the store alone leaves the locks
pub performs_on_store : {Work : Contents → List Logged → Answer → Contents → Type 0} {Cut : Contents → List Logged → Contents → Type 0} (locks : Option Locks) (old new : Store) (answer : Answer) → WorksOnStore Work Cut old answer new → Performs (OnStore Work) (CutOnStore Cut) (over old locks) answer (over new locks)
performs_on_store {Work = Work} {Cut} locks old new answer h = record { records = h.records; recorded = h.recorded; fixed = same_facts locks old new h.fixed; done = done h.done }
  where
    done : Work old.contents h.records answer new.contents ⊎ ((answer ≡ Err Memory) × Cut old.contents h.records new.contents)
        → OnStore Work (state_of (over old locks)) h.records answer (state_of (over new locks)) ⊎ ((answer ≡ Err Memory) × CutOnStore Cut (state_of (over old locks)) h.records (state_of (over new locks)))
    done (inl work) = inl (work, refl)
    done (inr cut) = inr (cut.0, (cut.1, refl))
