-- The rules, judged where nothing has changed yet.
use Rattle.std.proofs.Common.{◌≡◌, ℕ, List, Option, Result, Ok, Err, option_map, ap, subst}
use Rattle.std.specs.Result.{IsErrAnd}
use Rattle.std.specs.Option.{option_map_or}
use Rattle.std.proofs.lemmas.Result.{err_from_is_err_and}
use Rattle.dav_resource.specs.PathText.{PathValue}
use Rattle.dav_resource.specs.declared.error.DavError.{DavError}
use Rattle.dav_resource.specs.declared.meta.Meta.{Meta}
use Rattle.dav_resource.specs.declared.request.DavRequest.{DavRequest}
use Rattle.dav_store.specs.Store.{Store, Contents}
use Rattle.dav_store.specs.Locks.{Locks, all_reliable}
use Rattle.dav_store.specs.declared.lock.DavLock.{DavLock}
use Rattle.dav_messages.specs.Conditions.{conditions}
use Rattle.dav_messages.specs.Dialogue.{Dialogue, Judges}
use Rattle.dav_engine.specs.State.{State}
use Rattle.dav_engine.specs.Rules.{path_rules, found_in}

abbrev state_over : Contents → Option Locks → State
state_over contents locks =
    record { contents = contents; locks = option_map (λ (l : Locks). l.list) locks; reliable = option_map_or (λ (l : Locks). l.reliable) locks all_reliable }

-- the same lock system has the same locks
pub same_list : {L : Type 0} (seen : L → Locks) (ls ms : Option L) → ls ≡ ms → option_map (λ (l : Locks). l.list) (option_map seen ls) ≡ option_map (λ (l : Locks). l.list) (option_map seen ms)
same_list seen ls ms same = ap (λ o. option_map (λ (l : Locks). l.list) (option_map seen o)) same

-- the same store and the same lock system are in the same state
pub still : {L : Type 0} (seen : L → Locks) (old new : Contents) (ls ms : Option L) → new ≡ old → ms ≡ ls → state_over new (option_map seen ms) ≡ state_over old (option_map seen ls)
still seen old new ls ms same kept = λ i. state_over (same i) (option_map seen (kept i))

-- what is asked in the same state
pub in_same_state : {A : Type 0} (asked : State → Dialogue A) (state now : State) (mid new : Store) (verdict : Result A DavError) → now ≡ state → Judges (asked now) mid verdict new → Judges (asked state) mid verdict new
in_same_state asked state now mid new verdict same h = subst (λ s. Judges (asked s) mid verdict new) same h

-- the rules of a path in the same state
pub same_rules : (request : DavRequest) (found : Option Meta) (state now : State) (mid new : Store) (verdict : Result (Option Meta) DavError)
    → now ≡ state → Judges (path_rules request now found) mid verdict new → Judges (path_rules request state found) mid verdict new
same_rules request found state now mid new verdict same h = subst (λ s. Judges (path_rules request s found) mid verdict new) same h

-- the conditions by the same contents and the same locks
pub same_conditions : (request : DavRequest) (found : Option Meta) (path : PathValue) (contents now : Contents) (locks held : Option (List DavLock)) (mid new : Store) (verdict : Result (List (List ℕ)) DavError)
    → now ≡ contents → held ≡ locks → Judges (conditions now held request found path) mid verdict new → Judges (conditions contents locks request found path) mid verdict new
same_conditions request found path contents now locks held mid new verdict same kept h =
    subst (λ c. Judges (conditions c locks request found path) mid verdict new) same (subst (λ l. Judges (conditions now l request found path) mid verdict new) kept h)

-- an error of what was found, with what else the rules have read
pub found_in_error : {A : Type 0} (verdict : Result (Option Meta × A) DavError) (e : DavError) → IsErrAnd verdict (λ d. d ≡ e) → IsErrAnd (found_in verdict) (λ d. d ≡ e)
found_in_error (Ok passed) e is = is
found_in_error (Err d) e is = is

-- the error that ends it, by the exit of a `?`
pub judges_error : {A : Type 0} (dialogue : Dialogue A) (old new : Store) (e : DavError) (verdict : Result A DavError) → IsErrAnd verdict (λ d. d ≡ e) → Judges dialogue old (Err e) new → Judges dialogue old verdict new
judges_error dialogue old new e verdict exit h =
    let p = err_from_is_err_and verdict exit in
    rw (p.1, p.2) h
