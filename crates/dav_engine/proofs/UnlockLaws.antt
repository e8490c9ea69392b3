-- The law of UNLOCK, by the definition of the method.
use Rattle.std.proofs.Common.{◌≡◌, ◌≢◌, ◌⊎◌, inl, inr, refl, sym, ap, subst, ℕ, Bool, true, false, if◌then◌else◌, List, Option, Some, None, is_some, Result, Ok, Err, arith}
use Rattle.std.specs.Option.{ok_or}
use Rattle.dav_resource.specs.Errors.{dav_status}
use Rattle.dav_resource.specs.declared.error.DavError.{DavError}
use Rattle.dav_resource.specs.declared.error.DavError.TheVariants.{Memory, Status}
use Rattle.dav_resource.specs.declared.meta.Meta.{Meta}
use Rattle.dav_resource.specs.declared.request.DavRequest.{DavRequest}
use Rattle.dav_headers.specs.LockToken.{lock_token_of}
use Rattle.dav_store.specs.Logged.{Logged}
use Rattle.dav_messages.specs.Reply.{Answer}
use Rattle.dav_engine.specs.Laws.{IsNoContent, IsUnlockedBy, UnlockLaw}
use Rattle.dav_engine.specs.Locking.{locks_verdict}
use Rattle.dav_engine.specs.Method.{StepBy, Refused, Done, CutShort, CutInWork}
use Rattle.dav_engine.specs.Methods.{unlock_method}
use Rattle.dav_engine.specs.Rules.{judged}
use Rattle.dav_engine.specs.Settings.{Settings}
use Rattle.dav_engine.specs.State.{State, LocksStay, IsLawfulState}
use Rattle.dav_engine.specs.Unlocking.{token_verdict, unlock_rules, Unlocks, UnlocksNothing, UnlockWork}
use Rattle.dav_engine.proofs.Refusals.{RefusesBy, errs_then, errs_led}

-- no rule refuses by a 204
abbrev OtherError : DavError → Type 0
OtherError e = dav_status e ≢ 204

errs_locks : (state : State) → RefusesBy OtherError (judged (locks_verdict state))
errs_locks state = by_system (is_some state.locks)
  where
    by_system : (there : Bool) → RefusesBy OtherError (judged (if◌then◌else◌ {A = Result (Unit {0}) DavError} there (Ok tt) (Err (Status 405))))
    by_system true = tt
    by_system false = λ is. let no : 405 ≡ 204 = is in omega (arith, no)

errs_token : (request : DavRequest) → RefusesBy OtherError (judged (token_verdict request))
errs_token request = by_token (lock_token_of request.headers)
  where
    by_token : (token : Option (List ℕ)) → RefusesBy OtherError (judged (ok_or token (Status 400)))
    by_token None = λ is. let no : 400 ≡ 204 = is in omega (arith, no)
    by_token (Some token) = tt

errs_unlock : (request : DavRequest) (state : State) → RefusesBy OtherError (unlock_rules request state)
errs_unlock request state =
    errs_then OtherError (judged (locks_verdict state)) _ (errs_locks state)
    (λ there. errs_then OtherError (judged (token_verdict request)) _ (errs_token request) (λ token outcome. tt))

module _ (request : DavRequest) (old new : State) (answer : Answer) where
  -- an answer that is no 204 leaves all as it was
  unlock_same : (IsNoContent answer → ⊥) → new ≡ old → UnlockLaw request old answer new
  unlock_same other same = record { contents = ap (λ (s : State). s.contents) same; removed = λ recorded. absurd (other recorded); kept = λ untold. ap (λ (s : State). s.locks) same }

  unlock_lacking : answer ≡ Err Memory → new ≡ old → UnlockLaw request old answer new
  unlock_lacking memory same = unlock_same (λ recorded. let no : 507 ≡ 204 = subst IsNoContent memory recorded in omega (arith, no)) same

  unlock_work : (found : Option Meta) (records : List Logged) → UnlockWork request found old records answer new → UnlockLaw request old answer new
  unlock_work found records work = record { contents = work.same; removed = gone work.done; kept = stays work.done }
    where
      gone : Unlocks request found work.token old answer new ⊎ UnlocksNothing request work.token old answer new → IsNoContent answer → IsUnlockedBy request old new
      gone (inl unlocks) recorded = record { token = work.token; named = work.named; removed = unlocks.locks }
      gone (inr none) recorded = absurd (let no : 409 ≡ 204 = subst IsNoContent none.answered recorded in omega (arith, no))

      stays : Unlocks request found work.token old answer new ⊎ UnlocksNothing request work.token old answer new → (IsNoContent answer → ⊥) → LocksStay old new
      stays (inl unlocks) untold = absurd (untold (subst IsNoContent (sym unlocks.answered) refl))
      stays (inr none) untold = none.locks

pub unlock_law : {settings : Settings} {request : DavRequest} {old new : State} {records : List Logged} {answer : Answer} → IsLawfulState old → StepBy unlock_method settings request old records answer new → UnlockLaw request old answer new
unlock_law {settings} {request} {old} {new} {records} {answer} lawful (Refused h) =
    let refused = errs_led OtherError (unlock_rules request old) records answer (errs_unlock request old) h.head in
    unlock_same request old new answer (λ recorded. refused.2 (subst IsNoContent refused.1 recorded)) h.same
unlock_law {settings} {request} {old} {new} {records} {answer} lawful (Done h) = unlock_work request old new answer h.found h.rest h.work
unlock_law {settings} {request} {old} {new} {records} {answer} lawful (CutShort h) = unlock_lacking request old new answer h.answered h.same
unlock_law {settings} {request} {old} {new} {records} {answer} lawful (CutInWork h) = unlock_lacking request old new answer h.answered h.work.same
