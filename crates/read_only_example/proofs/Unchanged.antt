-- Where each call that changes something is refused, a run changes nothing.
use Rattle.std.proofs.Common.{◌≡◌, ◌∙◌, Bool, true, false, ◌||◌, ◌&&◌, List, [], ◌∷◌, ◌++◌, refl, ap, subst, inl, inr}
use Rattle.std.specs.List.{list_any}
use Rattle.std.specs.Prelude.{not}
use Rattle.dav_resource.specs.declared.record.Outcome.{Outcome}
use Rattle.dav_resource.specs.declared.record.Outcome.TheVariants.{Granted, Barred, Refused}
use Rattle.dav_resource.specs.declared.request.DavRequest.{DavRequest}
use Rattle.dav_store.specs.Logged.{Logged}
use Rattle.dav_store.specs.Members.{IsIn}
use Rattle.dav_messages.specs.Reply.{Answer}
use Rattle.dav_engine.specs.Bounds.{is_change, made_change, was_granted}
use Rattle.dav_engine.specs.Settings.{Settings}
use Rattle.dav_engine.specs.State.{State, Seen, state_of}
use Rattle.dav_engine.specs.Step.{Run, Runs}

-- each granted call among the records changes nothing
abbrev pub ChangeNothing : List Logged → Type 0
ChangeNothing records = (call : Logged) → IsIn call records → call.outcome ≡ Granted → not (is_change call.op) ≡ true

no_change : (call : Logged) → (call.outcome ≡ Granted → not (is_change call.op) ≡ true) → made_change call ≡ false
no_change call none = by_outcome call.outcome none
  where
    by_change : (b : Bool) → not b ≡ true → b ≡ false
    by_change true is = absurd cc
    by_change false is = refl

    by_outcome : (outcome : Outcome) → (outcome ≡ Granted → not (is_change call.op) ≡ true) → (was_granted outcome && is_change call.op) ≡ false
    by_outcome Granted none = by_change (is_change call.op) (none refl)
    by_outcome (Barred e) none = refl
    by_outcome (Refused e) none = refl

none_made : (records : List Logged) → ChangeNothing records → list_any made_change records ≡ false
none_made [] none = refl
none_made (call ∷ records) none = λ i. no_change call (none call (inl refl)) i || none_made records (λ other within. none other (inr within)) i

before : (one rest : List Logged) → ChangeNothing (one ++ rest) → ChangeNothing one
before [] rest none call within granted = absurd within
before (r ∷ one) rest none call (inl is) granted = none call (inl is) granted
before (r ∷ one) rest none call (inr within) granted = before one rest (λ other w. none other (inr w)) call within granted

pub after : (one rest : List Logged) → ChangeNothing (one ++ rest) → ChangeNothing rest
after [] rest none = none
after (r ∷ one) rest none = after one rest (λ call within. none call (inr within))

run_unchanged : (settings : Settings) (requests : List DavRequest) (old new : State) (records : List Logged) (answers : List Answer) → Run settings old requests records answers new → ChangeNothing records → new.contents ≡ old.contents
run_unchanged settings [] old new records [] run none = ap (λ (s : State). s.contents) run.1
run_unchanged settings [] old new records (answer ∷ answers) run none = absurd run
run_unchanged settings (request ∷ requests) old new records [] run none = absurd run
run_unchanged settings (request ∷ requests) old new records (answer ∷ answers) run none =
    let parts = subst ChangeNothing run.3 none in
    run_unchanged settings requests run.2 new run.1 answers run.5 (after run.0 run.1 parts) ∙ run.4.law.bounded.untouched (none_made run.0 (before run.0 run.1 parts))

pub runs_unchanged : (settings : Settings) (old new : Seen) (requests : List DavRequest) (answers : List Answer) → Runs settings old requests answers new → ChangeNothing new.store.log → (state_of new).contents ≡ (state_of old).contents
runs_unchanged settings old new requests answers runs none =
    run_unchanged settings requests (state_of old) (state_of new) runs.records answers runs.run (after old.store.log runs.records (subst ChangeNothing runs.recorded none))
