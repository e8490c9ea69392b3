-- Calls of a store that a policy guards.
use Rattle.std.proofs.Common.{◌≡◌, ◌≢◌, ◌∙◌, ℕ, false, Result, Err, refl, sym, ap, subst, ◌⊎◌, inl, inr, List, [], ◌∷◌, ◌++◌, map}
use Rattle.dav_resource.specs.PathText.{PathValue}
use Rattle.dav_resource.specs.declared.record.Op.{Op}
use Rattle.dav_resource.specs.declared.record.Outcome.{Outcome}
use Rattle.dav_resource.specs.declared.record.Outcome.TheVariants.{Refused}
use Rattle.dav_resource.specs.declared.record.Record.{Record}
use Rattle.dav_resource.specs.declared.error.FsError.{FsError}
use Rattle.dav_resource.specs.declared.error.FsError.TheVariants.{Memory, Forbidden}
use Rattle.dav_store.specs.Logged.{logged, logged_of, record_with, record_on}
use Rattle.dav_store.specs.Store.{Store}
use Rattle.dav_store.specs.Calls.{IsOwn}
use Rattle.dav_wrapping.specs.Wrapping.{last_outcome, seen_with}
use Rattle.dav_wrapping.specs.Recorded.{last_outcome-push, logged-push, same_last, WritesOne, IsCall}
use Rattle.dav_guarding.specs.declared.policy.Policy.{Ghosts}
use Rattle.dav_guarding.specs.Policy.{leave_by, AreAllowed}
use Rattle.dav_guarding.specs.declared.guard.Guard.{Guard}
use Rattle.dav_guarding.specs.Guard as guards
use Rattle.dav_guarding.specs.Guard.{policy_in, records_in, IsKept}
use Rattle.dav_guarding.specs.declared.guarding.Guarding.{Guarding}
use Rattle.dav_guarding.specs.Guarding.{inner_of, policy_of, refusals_of, records_of, seen_behind, Guards}
use Rattle.dav_guarding.proofs.Allowing.{allowed-free}

pub own_forbidden : IsOwn Forbidden
own_forbidden = record { not_missing = λ e. absurd cc; not_there = λ e. absurd cc; not_memory = λ e. absurd cc }

-- the record of a call that the policy lets pass is allowed
pub allowed_one : {P : Type 0} {g : Ghosts P} (old begun : Guard P g) (op : Op) (taken : List PathValue) (outcome : Outcome) (statuses : List ℕ) (recorded : Record) → guards.is_refused old op taken ≡ false → IsKept old begun
    → recorded ≡ record_with op taken outcome statuses → AreAllowed (g.refusals (policy_in begun)) (recorded ∷ [])
allowed_one {g = g} old begun op taken outcome statuses recorded free kept is =
    subst (λ r. AreAllowed (g.refusals (policy_in begun)) (r ∷ [])) (sym is)
    (allowed-free (g.refusals (policy_in begun)) (record_with op taken outcome statuses) (ap (λ policy. g.refusals policy op (map (λ path. path.key) taken)) kept.policy ∙ free))

-- where nothing behind changes, and no record is added, nothing changes that is seen
pub seen_kept : {F P : Type 0} {g : Ghosts P} (see : F → Store) (old new : Guarding F P g) → see (inner_of new) ≡ see (inner_of old) → policy_of new ≡ policy_of old → records_of new ≡ records_of old → seen_behind see new ≡ seen_behind see old
seen_kept {g = g} see old new inner policy records = λ i. seen_with (leave_by (g.refusals (policy i))) (inner i) (map logged_of (records i))

module _ {F P : Type 0} {g : Ghosts P} (see : F → Store) (op : Op) (paths : List PathValue) {A : Type 0} {statuses : Result A FsError → List ℕ} {Behind : Store → Result A FsError → Store → Type 0} (call : IsCall op (map (λ (p : PathValue). p.key) paths) statuses Behind) where
  -- a call between the room for its record and the record
  pub passes : (old : Guarding F P g) (begun ended : Guard P g) (called : F) (taken : List PathValue) (recorded : Record) (outcome : Outcome) (log : List Record) (answer result : Result A FsError)
      → taken ≡ paths → guards.is_refused old.guard op taken ≡ false → IsKept old.guard begun → Behind (see (inner_of old)) answer (see called)
      → recorded ≡ record_with op taken outcome (statuses answer) → map logged_of log ≡ (see called).log → outcome ≡ last_outcome (map logged_of log)
      → result ≡ answer → policy_in ended ≡ policy_in begun
      → (answer ≡ Err Memory → records_in ended ≡ records_in begun)
      → (answer ≢ Err Memory → records_in ended ≡ records_in begun ++ recorded ∷ [])
      → Guards see op paths Behind old result (record { inner = called; guard = ended })
  passes old begun ended called taken recorded outcome log answer result ps free kept behind recorded_is logs is same policy memory records =
      subst (λ r. Guards see op paths Behind old r (record { inner = called; guard = ended })) (sym same) (by_record (call.records_one (see (inner_of old)) (see called) answer behind))
    where
      by_record : ((answer ≡ Err Memory) × (see called ≡ see (inner_of old))) ⊎ WritesOne op (map (λ (p : PathValue). p.key) paths) (statuses answer) Behind (see (inner_of old)) answer (see called) → Guards see op paths Behind old answer (record { inner = called; guard = ended })
      by_record (inl (m, same)) = inl (m, record { inner = same; policy = policy ∙ kept.policy; records = memory m ∙ kept.records })
      by_record (inr w) =
          let last : outcome ≡ w.outcome = is ∙ ap last_outcome (logs ∙ w.recorded) ∙ last_outcome-push (see (inner_of old)).log (record { op = op; keys = map (λ (p : PathValue). p.key) paths; outcome = w.outcome; statuses = statuses answer }) in
          inr (inr (
            w.not_memory,
            record {
              free = subst (λ p. guards.is_refused old.guard op p ≡ false) ps free;
              behind = behind;
              policy = policy ∙ kept.policy;
              outcome = w.outcome;
              statuses = statuses answer;
              recorded = w.recorded;
              records = records w.not_memory ∙ (λ i. kept.records i ++ recorded_is i ∷ []) ∙ (λ i. records_of old ++ record_with op (ps i) (last i) (statuses answer) ∷ []);
            },
          ))

  -- ---- and that is lawful

  pub lawful : (old new : Guarding F P g) (answer : Result A FsError) → Guards see op paths Behind old answer new → Behind (seen_behind see old) answer (seen_behind see new)
  lawful old new answer (inl (m, kept)) =
      subst (λ r. Behind (seen_behind see old) r (seen_behind see new)) (sym m)
      (subst (Behind (seen_behind see old) (Err Memory)) (sym (seen_kept see old new kept.inner kept.policy kept.records)) (call.unmet (seen_behind see old)))
  lawful old new answer (inr (inl (e, h))) =
      let log = logged-push (record_on op paths (Refused Forbidden)) (records_of old) (records_of new) h.guarded.records in
      let after : seen_behind see new ≡ record (seen_behind see old) { log = map logged_of (records_of old) ++ logged op (map (λ (p : PathValue). p.key) paths) (Refused Forbidden) ∷ [] } =
      λ i. seen_with (leave_by (g.refusals (h.guarded.policy i))) (see (h.inner i)) (log i) in
      subst (λ r. Behind (seen_behind see old) r (seen_behind see new)) (sym e) (subst (Behind (seen_behind see old) (Err Forbidden)) (sym after) (call.refused (seen_behind see old) Forbidden own_forbidden))
  lawful old new answer (inr (inr (not_memory, h))) = by_record (call.records_one (see (inner_of old)) (see (inner_of new)) answer h.behind)
    where
      by_record : ((answer ≡ Err Memory) × (see (inner_of new) ≡ see (inner_of old))) ⊎ WritesOne op (map (λ (p : PathValue). p.key) paths) (statuses answer) Behind (see (inner_of old)) answer (see (inner_of new)) → Behind (seen_behind see old) answer (seen_behind see new)
      by_record (inl (m, same)) = absurd (not_memory m)
      by_record (inr w) =
          let one = same_last (see (inner_of old)).log (logged_of (record_with op paths h.outcome h.statuses)) (record { op = op; keys = map (λ (p : PathValue). p.key) paths; outcome = w.outcome; statuses = statuses answer }) (sym h.recorded ∙ w.recorded) in
          let log = logged-push (record_with op paths h.outcome h.statuses) (records_of old) (records_of new) h.records ∙ ap (λ r. map logged_of (records_of old) ++ r ∷ []) one in
          let after : seen_with (leave_by (refusals_of old)) (see (inner_of new)) (map logged_of (records_of old) ++ record { op = op; keys = map (λ (p : PathValue). p.key) paths; outcome = w.outcome; statuses = statuses answer } ∷ []) ≡ seen_behind see new =
          λ i. seen_with (leave_by (g.refusals (sym h.policy i))) (see (inner_of new)) (sym log i) in
          subst (Behind (seen_behind see old) answer) after (w.over (leave_by (refusals_of old)) (map logged_of (records_of old)))

  -- a call that is refused, or has no memory, before it is passed on
  pub turned_away : (old : Guarding F P g) (begun : Guard P g) (taken : List PathValue) (e : FsError) → taken ≡ paths → ((e ≡ Memory) × IsKept old.guard begun) ⊎ ((e ≡ Forbidden) × guards.Refuses op taken old.guard begun)
      → Guards see op paths Behind old (Err e) (record { inner = old.inner; guard = begun })
  turned_away old begun taken e ps (inl (m, kept)) = inl (ap Err m, record { inner = refl; policy = kept.policy; records = kept.records })
  turned_away old begun taken e ps (inr (is, h)) = inr (inl (ap Err is, record { guarded = subst (λ p. guards.Refuses op p old.guard begun) ps h; inner = refl }))
