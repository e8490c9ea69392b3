-- Calls of a store that refuses by plan or by number.
use Rattle.std.proofs.Common.{◌≡◌, ◌≢◌, ◌∙◌, ℕ, true, false, cond, Option, Some, None, Result, Err, refl, sym, ap, subst, ◌⊎◌, inl, inr, List, [], ◌∷◌, ◌++◌, ◌==◌, map}
use Rattle.std.specs.Option.{option_map, option_or}
use Rattle.dav_key.specs.Key.{Key}
use Rattle.dav_resource.specs.PathText.{PathValue}
use Rattle.dav_resource.specs.declared.record.Op.{Op}
use Rattle.dav_resource.specs.declared.record.Outcome.{Outcome}
use Rattle.dav_resource.specs.declared.record.Outcome.TheVariants.{Refused}
use Rattle.dav_resource.specs.declared.record.Record.{Record}
use Rattle.dav_resource.specs.declared.error.FsError.{FsError}
use Rattle.dav_resource.specs.declared.error.FsError.TheVariants.{Memory}
use Rattle.dav_store.specs.Logged.{logged, logged_of}
use Rattle.dav_store.specs.Store.{Store}
use Rattle.dav_store.specs.Calls.{IsOwn}
use Rattle.dav_store.specs.Logged.{record_with, record_on}
use Rattle.dav_refusing.specs.Plans.{Plan, first_key, refusal_for}
use Rattle.dav_refusing.specs.Slots.{plan_in}
use Rattle.dav_refusing.specs.Pending as pendings
use Rattle.dav_refusing.specs.Pending.{Pending, numbered_of, error_now, one_later, due, plan_after, after_call, passed_by}
use Rattle.dav_wrapping.specs.Wrapping.{last_outcome, seen_with}
use Rattle.dav_wrapping.specs.Recorded.{last_outcome-push, logged-push, same_last, WritesOne, IsCall}
use Rattle.dav_refusing.specs.Refusing.{all_allowed, inner_of, pending_of, records_of, seen_behind, IsWhollyKept, Refuses, Passes, GoesByPlan, Follows}
use Rattle.dav_refusing.specs.declared.refusing.Refusing.{Refusing}
use Rattle.dav_refusing.specs.declared.refusing.pending.NumberedRefusal.{NumberedRefusal}
use Rattle.dav_refusing.specs.declared.refusing.pending.Pending as code
use Rattle.dav_refusing.proofs.Planning.{without-none}
use Rattle.dav_refusing.proofs.Queues.{own_planned}

-- ---- errors

-- each refusal of the plan is with an error of the store's own
abbrev pub IsOwnPlan : Plan → Type 0
IsOwnPlan plan = (op : Op) (key : Key) (e : FsError) → refusal_for op key plan ≡ Some e → IsOwn e

-- and so is the call by its number
pub own_due : (op : Op) (key : Key) (pending : code.Pending) (e : FsError) → due op key (pendings.pending_of pending) ≡ Some e → IsOwn e
own_due op key pending e is = by_number pending.numbered is
  where
    by_number : (n : Option NumberedRefusal) → option_or (error_now (option_map numbered_of n)) (refusal_for op key (plan_in pending.plan.queues)) ≡ Some e → IsOwn e
    by_number None is = own_planned pending.plan.queues op key e is
    by_number (Some n) is =
        elim (n.before == 0) as (λ b. option_or (cond b (Some n.error) None) (refusal_for op key (plan_in pending.plan.queues)) ≡ Some e → IsOwn e) [
          | true ↦ λ h. (let same : n.error ≡ e = cc in subst IsOwn same n.own)
          | false ↦ λ h. own_planned pending.plan.queues op key e h
        ] is

-- ---- what is left to be refused

neither : (o p : Option FsError) → option_or o p ≡ None → (o ≡ None) × (p ≡ None)
neither None p is = (refl, is)
neither (Some e) p is = absurd cc

-- a call for which no error is due is only counted
pub after-passed : (op : Op) (key : Key) (pending : Pending) → due op key pending ≡ None → after_call op key pending ≡ passed_by pending
after-passed op key pending free =
    let none = neither (error_now pending.numbered) (refusal_for op key pending.plan) free in
    let plan : plan_after (error_now pending.numbered) op key pending.plan ≡ pending.plan = ap (λ o. plan_after o op key pending.plan) none.0 ∙ without-none op key pending.plan none.1 in
    λ i. record { numbered = one_later pending.numbered; plan = plan i }

-- where nothing behind changes, and no record is added, nothing changes that is seen
pub seen_kept : {F : Type 0} (see : F → Store) (old new : Refusing F) → see (inner_of new) ≡ see (inner_of old) → records_of new ≡ records_of old → seen_behind see new ≡ seen_behind see old
seen_kept see old new inner records = λ i. seen_with all_allowed (inner i) (map logged_of (records i))

-- ---- such a call of a store that refuses

module _ {F : Type 0} (see : F → Store) (op : Op) (paths : List PathValue) {A : Type 0} {statuses : Result A FsError → List ℕ} {Behind : Store → Result A FsError → Store → Type 0} (call : IsCall op (map (λ (p : PathValue). p.key) paths) statuses Behind) where
  goes : (old new : Refusing F) (answer : Result A FsError) → due op (first_key paths) (pending_of old) ≡ None → Behind (see (inner_of old)) answer (see (inner_of new))
      → (answer ≡ Err Memory → (pending_of new ≡ pending_of old) × (records_of new ≡ records_of old))
      → (answer ≢ Err Memory → pending_of new ≡ passed_by (pending_of old))
      → (answer ≢ Err Memory → records_of new ≡ records_of old ++ record_with op paths (last_outcome (see (inner_of new)).log) (statuses answer) ∷ [])
      → Follows see op paths Behind old answer new
  goes old new answer free behind memory left records = by_record (call.records_one (see (inner_of old)) (see (inner_of new)) answer behind)
    where
      by_record : ((answer ≡ Err Memory) × (see (inner_of new) ≡ see (inner_of old))) ⊎ WritesOne op (map (λ (p : PathValue). p.key) paths) (statuses answer) Behind (see (inner_of old)) answer (see (inner_of new)) → Follows see op paths Behind old answer new
      by_record (inl (m, same)) = inl (m, record { inner = same; pending = (memory m).0; records = (memory m).1 })
      by_record (inr w) = inr (
        w.not_memory,
        subst (λ r. GoesByPlan op paths (Passes see op paths Behind) r old answer new) (sym free) (record {
          behind = behind;
          left = left w.not_memory ∙ sym (after-passed op (first_key paths) (pending_of old) free);
          outcome = w.outcome;
          statuses = statuses answer;
          recorded = w.recorded;
          records = records w.not_memory
              ∙ ap (λ o. records_of old ++ record_with op paths o (statuses answer) ∷ [])
              (ap last_outcome w.recorded ∙ last_outcome-push (see (inner_of old)).log (record { op = op; keys = map (λ (p : PathValue). p.key) paths; outcome = w.outcome; statuses = statuses answer }));
        }),
      )

  -- a call between the room for its record and the record
  pub passes : (old begun ended : Refusing F) (called : F) (taken : List PathValue) (recorded : Record) (outcome : Outcome) (log : List Record) (answer result : Result A FsError)
      → taken ≡ paths → due op (first_key taken) (pending_of old) ≡ None → IsWhollyKept old begun → Behind (see (inner_of begun)) answer (see called)
      → recorded ≡ record_with op taken outcome (statuses answer) → map logged_of log ≡ (see called).log → outcome ≡ last_outcome (map logged_of log)
      → result ≡ answer → inner_of ended ≡ called
      → (answer ≡ Err Memory → (pending_of ended ≡ pending_of begun) × (records_of ended ≡ records_of begun))
      → (answer ≢ Err Memory → pending_of ended ≡ passed_by (pending_of begun))
      → (answer ≢ Err Memory → records_of ended ≡ records_of begun ++ recorded ∷ [])
      → Follows see op paths Behind old result ended
  passes old begun ended called taken recorded outcome log answer result ps free kept behind recorded_is logs is same inner memory left records =
      let last : outcome ≡ last_outcome (see (inner_of ended)).log = is ∙ ap last_outcome (logs ∙ ap (λ x. (see x).log) (sym inner)) in
      subst (λ r. Follows see op paths Behind old r ended) (sym same) (goes old ended answer
      (subst (λ p. due op (first_key p) (pending_of old) ≡ None) ps free)
      (subst (λ x. Behind (see (inner_of old)) answer (see x)) (sym inner) (subst (λ x. Behind (see x) answer (see called)) kept.inner behind))
      (λ m. ((memory m).0 ∙ kept.pending, (memory m).1 ∙ kept.records))
      (λ m. left m ∙ ap passed_by kept.pending)
      (λ m. records m ∙ (λ i. kept.records i ++ recorded_is i ∷ []) ∙ (λ i. records_of old ++ record_with op (ps i) (last i) (statuses answer) ∷ [])))

  -- ---- and that is lawful

  pub lawful : (old new : Refusing F) (answer : Result A FsError) → Follows see op paths Behind old answer new → Behind (seen_behind see old) answer (seen_behind see new)
  lawful old new answer (inl (m, kept)) =
      subst (λ r. Behind (seen_behind see old) r (seen_behind see new)) (sym m)
      (subst (Behind (seen_behind see old) (Err Memory)) (sym (seen_kept see old new kept.inner kept.records)) (call.unmet (seen_behind see old)))
  lawful old new answer (inr (not_memory, goes)) = by_due (due op (first_key paths) (pending_of old)) refl goes
    where
      refused : (e : FsError) → IsOwn e → Refuses op paths e old new → Behind (seen_behind see old) (Err e) (seen_behind see new)
      refused e own h =
          let log = logged-push (record_on op paths (Refused e)) (records_of old) (records_of new) h.records in
          let after : seen_behind see new ≡ record (seen_behind see old) { log = map logged_of (records_of old) ++ logged op (map (λ (p : PathValue). p.key) paths) (Refused e) ∷ [] } = λ i. seen_with all_allowed (see (h.inner i)) (log i) in
          subst (Behind (seen_behind see old) (Err e)) (sym after) (call.refused (seen_behind see old) e own)

      passed : Passes see op paths Behind old answer new → Behind (seen_behind see old) answer (seen_behind see new)
      passed h = by_record (call.records_one (see (inner_of old)) (see (inner_of new)) answer h.behind)
        where
          by_record : ((answer ≡ Err Memory) × (see (inner_of new) ≡ see (inner_of old))) ⊎ WritesOne op (map (λ (p : PathValue). p.key) paths) (statuses answer) Behind (see (inner_of old)) answer (see (inner_of new)) → Behind (seen_behind see old) answer (seen_behind see new)
          by_record (inl (m, same)) = absurd (not_memory m)
          by_record (inr w) =
              let one = same_last (see (inner_of old)).log (logged_of (record_with op paths h.outcome h.statuses)) (record { op = op; keys = map (λ (p : PathValue). p.key) paths; outcome = w.outcome; statuses = statuses answer }) (sym h.recorded ∙ w.recorded) in
              let log = logged-push (record_with op paths h.outcome h.statuses) (records_of old) (records_of new) h.records ∙ ap (λ r. map logged_of (records_of old) ++ r ∷ []) one in
              subst (λ l. Behind (seen_behind see old) answer (seen_with all_allowed (see (inner_of new)) l)) (sym log) (w.over all_allowed (map logged_of (records_of old)))

      by_due : (r : Option FsError) → due op (first_key paths) (pending_of old) ≡ r → GoesByPlan op paths (Passes see op paths Behind) r old answer new → Behind (seen_behind see old) answer (seen_behind see new)
      by_due (Some e) is h = subst (λ a. Behind (seen_behind see old) a (seen_behind see new)) (sym h.0) (refused e (own_due op (first_key paths) old.pending e is) h.1)
      by_due None is h = passed h

  -- a call that is refused, or has no memory, before it is passed on
  pub turned_away : (old new : Refusing F) (taken : List PathValue) (e : FsError) → taken ≡ paths → ((e ≡ Memory) × IsWhollyKept old new) ⊎ (IsOwn e × Refuses op taken e old new) → Behind (seen_behind see old) (Err e) (seen_behind see new)
  turned_away old new taken e ps why = lawful old new (Err e) (by_cause (subst (λ p. ((e ≡ Memory) × IsWhollyKept old new) ⊎ (IsOwn e × Refuses op p e old new)) ps why))
    where
      by_cause : ((e ≡ Memory) × IsWhollyKept old new) ⊎ (IsOwn e × Refuses op paths e old new) → Follows see op paths Behind old (Err e) new
      by_cause (inl p) = inl (ap Err p.0, record { inner = ap see p.1.inner; pending = p.1.pending; records = p.1.records })
      by_cause (inr p) = inr ((λ m. p.0.not_memory (let same : e ≡ Memory = cc in same)), subst (λ r. GoesByPlan op paths (Passes see op paths Behind) r old (Err e) new) (sym p.1.is_due) (refl, p.1))
