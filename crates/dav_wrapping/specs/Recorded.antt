-- What the log of a wrapped store says of a call: the laws on which a wrapper's proofs rest.
use Rattle.std.proofs.Common.{◌≡◌, ◌≢◌, ◌∙◌, ℕ, Option, Some, Result, Ok, Err, refl, ap, ◌⊎◌, inl, inr, List, [], ◌∷◌, ◌++◌, ◌+◌, ◌-◌, slice_get, map, length, suc, zero, arith}
use Rattle.std.proofs.lemmas.List.{map-append, append_cancel_left}
use Rattle.std.specs.Prelude.{Bool, Vec}
use Rattle.std.specs.declared.alloc.Global.{Global}
use Rattle.dav_key.specs.Key.{Key}
use Rattle.dav_resource.specs.declared.record.Op.{Op}
use Rattle.dav_resource.specs.declared.record.Op.TheVariants.{PatchProps}
use Rattle.dav_resource.specs.declared.record.Outcome.{Outcome}
use Rattle.dav_resource.specs.declared.record.Outcome.TheVariants.{Granted, Refused}
use Rattle.dav_resource.specs.declared.record.Record.{Record}
use Rattle.dav_resource.specs.declared.error.FsError.{FsError}
use Rattle.dav_resource.specs.declared.error.FsError.TheVariants.{Memory, GeneralFailure}
use Rattle.dav_store.specs.Logged.{Logged, logged, logged_of}
use Rattle.dav_store.specs.Store.{Store, Contents}
use Rattle.dav_store.specs.Calls.{Answers, Declines, IsOwn}
use Rattle.dav_store.specs.PropertyCalls.{Patch, Patches, DropsPatches, PatchesProps, patch_props_call}
use Rattle.dav_wrapping.specs.Wrapping.{last_outcome, Leave, with_leave, seen_with}

-- ---- logs

pub last_outcome-push : (log : List Logged) (r : Logged) → last_outcome (log ++ r ∷ []) ≡ r.outcome
last_outcome-push [] r = refl
last_outcome-push (l ∷ []) r = refl
last_outcome-push (l ∷ next ∷ log) r = last_outcome-push (next ∷ log) r

last-at : (records : List Record) (i : ℕ) (r : Record) → length records ≡ i + 1 → Some r ≡ slice_get records i → r.outcome ≡ last_outcome (map logged_of records)
last-at [] i r n e = absurd cc
last-at (x ∷ []) zero r n e = let same : r ≡ x = cc in ap (λ r. r.outcome) same
last-at (x ∷ []) (suc i) r n e = absurd cc
last-at (x ∷ y ∷ records) zero r n e = absurd (omega arith)
last-at (x ∷ y ∷ records) (suc i) r n e = last-at (y ∷ records) i r (omega arith) e

pub last_outcome-at : (records : List Record) (r : Record) → Some r ≡ slice_get records (length records - 1) → r.outcome ≡ last_outcome (map logged_of records)
last_outcome-at [] r e = absurd cc
last_outcome-at (x ∷ records) r e = let back : suc (length records) - 1 ≡ length records = omega arith in last-at (x ∷ records) (length records) r (omega arith) (e ∙ ap (slice_get (x ∷ records)) back)

pub logged-push : (r : Record) (old new : List Record) → new ≡ old ++ r ∷ [] → map logged_of new ≡ map logged_of old ++ logged_of r ∷ []
logged-push r old new is = ap (map logged_of) is ∙ map-append logged_of old (r ∷ [])

-- of two records that were added to one log each is the other
pub same_last : (log : List Logged) (r s : Logged) → log ++ r ∷ [] ≡ log ++ s ∷ [] → r ≡ s
same_last log r s is = let last : r ∷ [] ≡ s ∷ [] = append_cancel_left log (r ∷ []) (s ∷ []) is in cc

-- ---- the calls of a store behind

-- the call wasn't without memory, and writes one record; so it does over any other log, whatever is allowed
pub record WritesOne {A : Type 0} (op : Op) (keys : List Key) (statuses : List ℕ) (Behind : Store → Result A FsError → Store → Type 0) (old : Store) (answer : Result A FsError) (new : Store) : Type 0 where
  pub not_memory : answer ≢ Err Memory
  pub outcome : Outcome
  pub recorded : new.log ≡ old.log ++ record { op = op; keys = keys; outcome = outcome; statuses = statuses } ∷ []
  pub over : (leave : Leave) (log : List Logged) → Behind (seen_with leave old log) answer (seen_with leave new (log ++ record { op = op; keys = keys; outcome = outcome; statuses = statuses } ∷ []))

-- what is known of each call but a listing that is granted
pub record IsCall {A : Type 0} (op : Op) (keys : List Key) (statuses : Result A FsError → List ℕ) (Behind : Store → Result A FsError → Store → Type 0) : Type 0 where
  pub unmet : (s : Store) → Behind s (Err Memory) s
  pub refused : (s : Store) (e : FsError) → IsOwn e → Behind s (Err e) (record s { log = s.log ++ logged op keys (Refused e) ∷ [] })
  pub records_one : (old new : Store) (answer : Result A FsError) → Behind old answer new → ((answer ≡ Err Memory) × (new ≡ old)) ⊎ WritesOne op keys (statuses answer) Behind old answer new

abbrev pub no_statuses : {A : Type 0} → Result A FsError → List ℕ
no_statuses answer = []

abbrev pub CallBehind : {A : Type 0} → Op → List Key → (Bool → Contents → Option FsError) → (A → Contents → Contents → Type 0) → Store → Result A FsError → Store → Type 0
CallBehind op keys bar Effect old = Answers (record { op = op; keys = keys; bar = bar old.facts.keeps_properties old.contents }) Effect old

module _ {A : Type 0} (op : Op) (keys : List Key) (bar : Bool → Contents → Option FsError) (Effect : A → Contents → Contents → Type 0) where
  abbrev Behind : Store → Result A FsError → Store → Type 0
  Behind = CallBehind op keys bar Effect

  recorded_by : (old new : Store) (answer : Result A FsError) → Behind old answer new → ((answer ≡ Err Memory) × (new ≡ old)) ⊎ WritesOne op keys [] Behind old answer new
  recorded_by old new (Ok a) h = inr (record {
    not_memory = λ e. absurd cc;
    outcome = Granted;
    recorded = h.granted.recorded;
    over = λ leave log. record { granted = record { allowed = h.granted.allowed; effect = h.granted.effect; recorded = refl; fixed = ap (with_leave leave) h.granted.fixed }; declined = tt };
  })
  recorded_by old new (Err e) h = by_cause h.declined
    where
      by_cause : ((e ≡ Memory) × (new ≡ old)) ⊎ Declines (record { op = op; keys = keys; bar = bar old.facts.keeps_properties old.contents }) e old new → (◌≡◌ {A = Result A FsError} (Err e) (Err Memory) × (new ≡ old)) ⊎ WritesOne op keys [] Behind old (Err e) new
      by_cause (inl p) = inl (ap Err p.0, p.1)
      by_cause (inr d) = inr (record {
        not_memory = λ m. d.not_memory (let same : e ≡ Memory = cc in same);
        outcome = d.outcome;
        recorded = d.recorded;
        over = λ leave log. record { granted = tt; declined = inr (record { outcome = d.outcome; cause = d.cause; lawful = d.lawful; not_memory = d.not_memory; same = d.same; recorded = refl; fixed = ap (with_leave leave) d.fixed }) };
      })

  pub answers_call : IsCall op keys no_statuses Behind
  answers_call = record {
    unmet = λ s. record { granted = tt; declined = inl (refl, refl) };
    refused = λ s e own. record { granted = tt; declined = inr (record { outcome = Refused e; cause = refl; lawful = own; not_memory = own.not_memory; same = refl; recorded = refl; fixed = refl }) };
    records_one = recorded_by;
  }

-- the statuses that a change of properties answers
abbrev pub answered_statuses : Result (Vec ℕ Global) FsError → List ℕ
answered_statuses (Ok statuses) = statuses.items
answered_statuses (Err e) = []

module _ (key : Key) (patches : List Patch) where
  abbrev PatchesBehind : Store → Result (Vec ℕ Global) FsError → Store → Type 0
  PatchesBehind old = PatchesProps old key patches

  patches_recorded_by : (old new : Store) (answer : Result (Vec ℕ Global) FsError) → PatchesBehind old answer new → ((answer ≡ Err Memory) × (new ≡ old)) ⊎ WritesOne PatchProps (key ∷ []) (answered_statuses answer) PatchesBehind old answer new
  patches_recorded_by old new (Ok statuses) h = by_form h.granted
    where
      by_form : Patches key patches statuses.items old new ⊎ DropsPatches key patches statuses.items old new → (◌≡◌ {A = Result (Vec ℕ Global) FsError} (Ok statuses) (Err Memory) × (new ≡ old)) ⊎ WritesOne PatchProps (key ∷ []) statuses.items PatchesBehind old (Ok statuses) new
      by_form (inl g) = inr (record {
        not_memory = λ e. absurd cc;
        outcome = Granted;
        recorded = g.recorded;
        over = λ leave log. record { granted = inl (record { allowed = g.allowed; answered = g.answered; effect = g.effect; recorded = refl; fixed = ap (with_leave leave) g.fixed }); declined = tt };
      })
      by_form (inr d) = inr (record {
        not_memory = λ e. absurd cc;
        outcome = Refused GeneralFailure;
        recorded = d.recorded;
        over = λ leave log. record { granted = inr (record { answered = d.answered; not_all = d.not_all; same = d.same; recorded = refl; fixed = ap (with_leave leave) d.fixed }); declined = tt };
      })
  patches_recorded_by old new (Err e) h = by_cause h.declined
    where
      by_cause : ((e ≡ Memory) × (new ≡ old)) ⊎ Declines (patch_props_call old key) e old new → (◌≡◌ {A = Result (Vec ℕ Global) FsError} (Err e) (Err Memory) × (new ≡ old)) ⊎ WritesOne PatchProps (key ∷ []) [] PatchesBehind old (Err e) new
      by_cause (inl p) = inl (ap Err p.0, p.1)
      by_cause (inr d) = inr (record {
        not_memory = λ m. d.not_memory (let same : e ≡ Memory = cc in same);
        outcome = d.outcome;
        recorded = d.recorded;
        over = λ leave log. record { granted = tt; declined = inr (record { outcome = d.outcome; cause = d.cause; lawful = d.lawful; not_memory = d.not_memory; same = d.same; recorded = refl; fixed = ap (with_leave leave) d.fixed }) };
      })

  pub patches_call : IsCall PatchProps (key ∷ []) answered_statuses PatchesBehind
  patches_call = record {
    unmet = λ s. record { granted = tt; declined = inl (refl, refl) };
    refused = λ s e own. record { granted = tt; declined = inr (record { outcome = Refused e; cause = refl; lawful = own; not_memory = own.not_memory; same = refl; recorded = refl; fixed = refl }) };
    records_one = patches_recorded_by;
  }
