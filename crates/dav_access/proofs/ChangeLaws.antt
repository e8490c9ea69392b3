-- That what changes is changed by calls that are allowed, and so where the rules let the caller write.
use Rattle.std.proofs.Common.{◌≡◌, ◌∙◌, Bool, true, false, ◌||◌, List, [], ◌∷◌, ◌++◌, refl, sym, ap, subst, inl, inr}
use Rattle.std.specs.List.{list_any}
use Rattle.std.specs.Prelude.{not}
use Rattle.std.proofs.lemmas.Bool.{and_parts}
use Rattle.dav_key.specs.Key.{Key, is_same_key, same_key_decides}
use Rattle.dav_resource.specs.declared.record.Op.{Op}
use Rattle.dav_resource.specs.declared.record.Op.TheVariants as ops
use Rattle.dav_resource.specs.declared.record.Outcome.{Outcome}
use Rattle.dav_resource.specs.declared.record.Outcome.TheVariants.{Granted, Barred, Refused}
use Rattle.dav_resource.specs.declared.request.DavRequest.{DavRequest}
use Rattle.dav_store.specs.Logged.{Logged}
use Rattle.dav_store.specs.Store.{Facts}
use Rattle.dav_store.specs.Members.{IsIn}
use Rattle.dav_store.specs.Allowed.{IsAllowed}
use Rattle.dav_messages.specs.Reply.{Answer}
use Rattle.dav_walks.specs.KeyCall.{standing}
use Rattle.dav_rights.specs.declared.rule.Rule.{Rule}
use Rattle.dav_rights.specs.Rights.{permits, may_read, may_write}
use Rattle.dav_rights.specs.Moves.{renames-write}
use Rattle.dav_engine.specs.Bounds.{changes, changes_at, was_granted}
use Rattle.dav_engine.specs.Settings.{Settings}
use Rattle.dav_engine.specs.State.{State, Seen, state_of}
use Rattle.dav_engine.specs.Step.{Run, Runs}
use Rattle.dav_access.specs.Changes.{HasChanged, ChangesByAllowed, ChangesWhereWritten}

-- ---- records

neither : (a b : Bool) → (a || b) ≡ false → (a ≡ false) × (b ≡ false)
neither true b is = absurd cc
neither false b is = (refl, is)

any-append : (test : Logged → Bool) (before after : List Logged) → list_any test (before ++ after) ≡ false → (list_any test before ≡ false) × (list_any test after ≡ false)
any-append test [] after none = (refl, none)
any-append test (r ∷ before) after none =
    let first = neither (test r) (list_any test (before ++ after)) none in
    let rest = any-append test before after first.1 in
    ((λ i. first.0 i || rest.0 i), rest.1)

found : (test : Logged → Bool) (records : List Logged) → list_any test records ≡ true → (r : Logged) × IsIn r records × (test r ≡ true)
found test [] is = absurd cc
found test (r ∷ records) is = by_first (test r) refl is (found test records)
  where
    by_first : (b : Bool) → test r ≡ b → (b || list_any test records) ≡ true → (list_any test records ≡ true → (s : Logged) × IsIn s records × (test s ≡ true)) → (s : Logged) × IsIn s (r ∷ records) × (test s ≡ true)
    by_first true here is later = (r, inl refl, here)
    by_first false here is later = let rest = later is in (rest.0, inr rest.1, rest.2)

pub later : (r : Logged) (before after : List Logged) → IsIn r after → IsIn r (before ++ after)
later r [] after is = is
later r (first ∷ before) after is = inr (later r before after is)

granted : (outcome : Outcome) → was_granted outcome ≡ true → outcome ≡ Granted
granted Granted is = refl
granted (Barred e) is = absurd cc
granted (Refused e) is = absurd cc

-- ---- what changed was changed by a recorded call

unrecorded : (settings : Settings) (key : Key) (requests : List DavRequest) (old new : State) (records : List Logged) (answers : List Answer) → Run settings old requests records answers new
    → list_any (changes_at key) records ≡ false → standing new.contents key ≡ standing old.contents key
unrecorded settings key [] old new records [] run none = ap (λ (s : State). standing s.contents key) run.1
unrecorded settings key [] old new records (answer ∷ answers) run none = absurd run
unrecorded settings key (request ∷ requests) old new records [] run none = absurd run
unrecorded settings key (request ∷ requests) old new records (answer ∷ answers) run none =
    let parts = any-append (changes_at key) run.0 run.1 (ap (list_any (changes_at key)) (sym run.3) ∙ none) in
    unrecorded settings key requests run.2 new run.1 answers run.5 parts.1 ∙ run.4.law.bounded.unrecorded key parts.0

-- ---- and that call is allowed

pub changes_by_allowed : (settings : Settings) (old new : Seen) (requests : List DavRequest) (answers : List Answer) → Runs settings old requests answers new → IsAllowed new.store → ChangesByAllowed old new
changes_by_allowed settings old new requests answers runs allowed = record {
  records = runs.records;
  recorded = runs.recorded;
  by = λ key changed. by_records key changed (list_any (changes_at key) runs.records) refl;
}
  where
    by_records : (key : Key) → HasChanged key (state_of old) (state_of new) → (b : Bool) → list_any (changes_at key) runs.records ≡ b
        → (call : Logged) × IsIn call runs.records × (changes_at key call ≡ true) × (old.store.facts.allows call ≡ true)
    by_records key changed false none = absurd (changed (unrecorded settings key requests (state_of old) (state_of new) runs.records answers runs.run none))
    by_records key changed true some =
        let call = found (changes_at key) runs.records some in
        let parts = and_parts (was_granted call.0.outcome) (changes call.0.op call.0.keys key) call.2 in
        let within : IsIn call.0 new.store.log = subst (IsIn call.0) (sym runs.recorded) (later call.0 old.store.log runs.records call.1) in
        let same : new.store.facts ≡ old.store.facts = ap (λ facts. facts.0) runs.fixed in
        (call.0, call.1, call.2, ap (λ (f : Facts). f.allows call.0) (sym same) ∙ allowed call.0 within (granted call.0.outcome parts.0))

-- ---- so the caller may write there

module _ (rules : List Rule) (key : Key) where
  at_same : (at : Key) → is_same_key key at ≡ true → may_write at rules ≡ true → may_write key rules ≡ true
  at_same at same ok = subst (λ k. may_write k rules ≡ true) (sym ((same_key_decides key at).0 same)) ok

  pub writes : (op : Op) (keys : List Key) → changes op keys key ≡ true → permits rules op keys ≡ true → may_write key rules ≡ true
  writes ops.OpenFile (at ∷ []) is ok = at_same at is ok
  writes ops.WriteBytes (at ∷ []) is ok = at_same at is ok
  writes ops.CreateDir (at ∷ []) is ok = at_same at is ok
  writes ops.RemoveFile (at ∷ []) is ok = at_same at is ok
  writes ops.RemoveDir (at ∷ []) is ok = at_same at is ok
  writes ops.PatchProps (at ∷ []) is ok = at_same at is ok
  writes ops.Copy (from ∷ to ∷ []) is ok = at_same to is (and_parts (may_read from rules) (may_write to rules) ok).1
  writes ops.Rename (from ∷ to ∷ []) is ok = renames-write rules from to key ok is
  writes op keys is ok = absurd cc

twice : (b : Bool) → not (not b) ≡ true → b ≡ true
twice true is = refl
twice false is = absurd cc

-- where what is allowed is what the rules do not refuse
pub changes_where_written : (rules : List Rule) (old new : Seen) → ((call : Logged) → old.store.facts.allows call ≡ not (not (permits rules call.op call.keys))) → ChangesByAllowed old new → ChangesWhereWritten rules (state_of old) (state_of new)
changes_where_written rules old new allows changes_by key changed =
    let call = changes_by.by key changed in
    writes rules key call.0.op call.0.keys (and_parts (was_granted call.0.outcome) (changes call.0.op call.0.keys key) call.2).1 (twice (permits rules call.0.op call.0.keys) (sym (allows call.0) ∙ call.3))
