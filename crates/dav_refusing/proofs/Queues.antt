-- Plans as the code keeps them: queues of errors by slots.
use Rattle.std.proofs.Common.{◌≡◌, ◌∙◌, Bool, true, false, cond, List, [], ◌∷◌, ◌++◌, Option, Some, None, Result, Ok, Err, OnOk, OnErr, refl, sym, ap, drop, slice_get, subst, length, eq-eqb, ◌≢◌, ◌==◌, ◌&&◌}
use Rattle.std.specs.Ordering.{nat_cmp, eq_by_cmp}
use Rattle.std.specs.Cmp.{tied_then, unsigned_tied, eq_by_cmp_equiv}
use Rattle.std.proofs.lemmas.Bool.{eqb-true, cond_both}
use Rattle.std.proofs.lemmas.List.{nil_from_length}
use Rattle.std.proofs.lemmas.Map.Entries.{lookup_head}
use Rattle.std.specs.Map.{lookup}
use Rattle.std.specs.Option.{IsSome, option_map}
use Rattle.std.specs.VecDeque.{deque_len}
use Rattle.std.specs.BTreeMap.{BTreeMap, is_at, get, get_by, UpdatesBy, WritesThrough}
use Rattle.dav_key.specs.Key.{Key, key_cmp}
use Rattle.dav_resource.specs.declared.record.Op.{Op}
use Rattle.dav_resource.specs.declared.error.FsError.{FsError}
use Rattle.dav_store.specs.Calls.{IsOwn}
use Rattle.dav_refusing.specs.Plans.{is_for, no_refusals, place_of_op, refusal_for, with_errors, without_first, with_last}
use Rattle.dav_refusing.specs.Slots.{Queue, slot_key, slot_cmp, slot_at, errors_of, errors_in, plan_in, slot_cmp_total, HasErrors, HasNoEmptyQueue}
use Rattle.dav_refusing.specs.declared.refusing.slot.Slot.{Slot}
use Rattle.dav_refusing.specs.declared.refusing.own_error.OwnError.{OwnError}
use Rattle.dav_refusing.proofs.Planning.{with_errors-same, without-none}

-- ---- the order of slots

-- a slot is at another where calls of both go by the same errors
slot-is_for : (slot : Slot) (op : Op) (key : Key) → is_at (slot_cmp slot) (slot_at op key) ≡ is_for slot.op (slot_key slot) op key
slot-is_for slot op key =
    sym (tied_then (nat_cmp (place_of_op slot.op) (place_of_op op)) (key_cmp (slot_key slot) key))
    ∙ ap (λ b. b && eq_by_cmp key_cmp (slot_key slot) key) (unsigned_tied (place_of_op slot.op) (place_of_op op))

-- ---- one queue

errors_in-cond : (b : Bool) (v w : Option Queue) → errors_in (cond b v w) ≡ cond b (errors_in v) (errors_in w)
errors_in-cond true v w = refl
errors_in-cond false v w = refl

-- the plan once one slot has another queue, or none
pub plan-set : (slot : Slot) (w : Option Queue) (m n : BTreeMap Slot Queue) → UpdatesBy slot_cmp (slot_cmp slot) m n w → plan_in n ≡ with_errors slot.op (slot_key slot) (errors_in w) (plan_in m)
plan-set slot w m n u = λ i op key. here op key i
  where
    here : (op : Op) (key : Key) → plan_in n op key ≡ with_errors slot.op (slot_key slot) (errors_in w) (plan_in m) op key
    here op key =
        ap errors_in (u.0 (slot_at op key))
        ∙ errors_in-cond (is_at (slot_cmp slot) (slot_at op key)) w (get slot_cmp m (slot_at op key))
        ∙ ap (λ b. cond b (errors_in w) (plan_in m op key)) (slot-is_for slot op key)

-- ---- the errors of a queue

pub errors-drop : (errors : List OwnError) → errors_of (drop 1 errors) ≡ drop 1 (errors_of errors)
errors-drop [] = refl
errors-drop (e ∷ errors) = refl

pub errors-push : (errors : List OwnError) (e : OwnError) → errors_of (errors ++ e ∷ []) ≡ errors_of errors ++ e.error ∷ []
errors-push [] e = refl
errors-push (x ∷ errors) e = ap (λ xs. x.error ∷ xs) (errors-push errors e)

-- ---- no queue is empty

-- the items of a queue, where there is one
abbrev items_in : Option Queue → Option (List OwnError)
items_in o = option_map (λ (queue : Queue). queue.items) o

-- where there is no queue, none is without errors
nothing-has_errors : HasErrors None
nothing-has_errors e = cc

-- nor where there is one that isn't empty
some-has_errors : (w : Queue) → w.items ≢ [] → HasErrors (Some w)
some-has_errors w has e = has cc

-- a queue that was tested isn't empty
pub tested-not_empty : (w : Queue) (is_empty : Bool) → is_empty ≡ (deque_len w == 0) → is_empty ≡ false → w.items ≢ []
tested-not_empty w is_empty tested not none =
    let empty : is_empty ≡ true = tested ∙ eq-eqb (deque_len w) 0 (w.ok.0 ∙ ap length none) in
    cc

-- nor is one behind which an error was put
pub one_more-not_empty : (before after : List OwnError) (e : OwnError) → after ≡ before ++ e ∷ [] → after ≢ []
one_more-not_empty [] after e is none = cc
one_more-not_empty (x ∷ before) after e is none = cc

-- whether there was memory for the error or not
pushed-not_empty : (pushed : Bool) (before after : List OwnError) (e : OwnError) → before ≢ [] → after ≡ cond pushed (before ++ e ∷ []) before → after ≢ []
pushed-not_empty true before after e has is = one_more-not_empty before after e is
pushed-not_empty false before after e has is = λ none. has (sym is ∙ none)

-- one slot has this queue, or none, and the others have those that they had
abbrev IsSetAt : Slot → Option Queue → BTreeMap Slot Queue → BTreeMap Slot Queue → Type 0
IsSetAt slot w m n = (q : Slot) → get slot_cmp n q ≡ cond (is_at (slot_cmp slot) q) w (get slot_cmp m q)

-- what is set last counts
set-twice : (slot : Slot) (v w : Option Queue) (m n o : BTreeMap Slot Queue) → IsSetAt slot v m n → IsSetAt slot w n o → IsSetAt slot w m o
set-twice slot v w m n o first last q = last q ∙ ap (cond (is_at (slot_cmp slot) q) w) (first q) ∙ cond-cond (is_at (slot_cmp slot) q) (get slot_cmp m q)
  where
    cond-cond : (b : Bool) (x : Option Queue) → cond b w (cond b v x) ≡ cond b w x
    cond-cond true x = refl
    cond-cond false x = refl

-- a slot may get a queue that has an error, or lose its queue
no_empty-set : (slot : Slot) (w : Option Queue) (m n : BTreeMap Slot Queue) → HasNoEmptyQueue m → HasErrors w → IsSetAt slot w m n → HasNoEmptyQueue n
no_empty-set slot w m n tidy has is q = subst HasErrors (sym (is q)) (cond_both (is_at (slot_cmp slot) q) w (get slot_cmp m q) HasErrors (λ _. has) (λ _. tidy q))

-- ---- what happens to the queue of one slot

module _ (slot : Slot) (m : BTreeMap Slot Queue) where
  -- where there is none
  pub none-planned : (n : BTreeMap Slot Queue) → None ≡ get_by (slot_cmp slot) m → n ≡ m → plan_in n ≡ without_first slot.op (slot_key slot) (plan_in m)
  none-planned n none same = ap plan_in same ∙ sym (without-none slot.op (slot_key slot) (plan_in m) (ap (λ queue. slice_get (errors_in queue) 0) (sym none)))

  pub plan-begun : (before w : Queue) (e : OwnError) (same n : BTreeMap Slot Queue) → None ≡ get_by (slot_cmp slot) m → same ≡ m → UpdatesBy slot_cmp (slot_cmp slot) same n (Some w)
      → before.items ≡ [] → w.items ≡ before.items ++ e ∷ []
      → plan_in n ≡ with_last slot.op (slot_key slot) e.error (plan_in m)
  plan-begun before w e same n none is u empty one =
      plan-set slot (Some w) same n u
      ∙ ap (λ old. with_errors slot.op (slot_key slot) (errors_of w.items) (plan_in old)) is
      ∙ ap (λ errors. with_errors slot.op (slot_key slot) errors (plan_in m)) (ap errors_of one ∙ ap (λ es. errors_of (es ++ e ∷ [])) empty ∙ ap (λ queue. errors_in queue ++ e.error ∷ []) none)

  -- there may be one more queue that isn't empty, or no memory for it
  pub no_empty-begun : {A E : Type 0} (r : Result A E) (w : Queue) (n : BTreeMap Slot Queue) → HasNoEmptyQueue m → w.items ≢ [] → OnOk r (UpdatesBy slot_cmp (slot_cmp slot) m n (Some w)) → OnErr r (n.entries ≡ m.entries) → HasNoEmptyQueue n
  no_empty-begun (Ok a) w n tidy has updates _ = no_empty-set slot (Some w) m n tidy (some-has_errors w has) updates.0
  no_empty-begun (Err e) w n tidy has _ same = λ q. subst HasErrors (ap (lookup (is_at (slot_cmp q))) (sym same)) (tidy q)

  -- where this one is lent, and another written in its place
  module _ (queue w : Queue) (n : BTreeMap Slot Queue) (found : Some queue ≡ get_by (slot_cmp slot) m) (written : WritesThrough slot_cmp (slot_cmp slot) m w n) where
    updated : UpdatesBy slot_cmp (slot_cmp slot) m n (Some w)
    updated = written.3 (subst IsSome found refl)

    now-planned : (errors : List FsError) → errors_of w.items ≡ errors → plan_in n ≡ with_errors slot.op (slot_key slot) errors (plan_in m)
    now-planned errors is = plan-set slot (Some w) m n updated ∙ ap (λ es. with_errors slot.op (slot_key slot) es (plan_in m)) is

    pub plan-kept : w.items ≡ queue.items → plan_in n ≡ plan_in m
    plan-kept is = now-planned (errors_of queue.items) (ap errors_of is) ∙ with_errors-same slot.op (slot_key slot) (errors_of queue.items) (plan_in m) (ap errors_in (sym found))

    pub plan-pushed : (e : OwnError) → w.items ≡ queue.items ++ e ∷ [] → plan_in n ≡ with_last slot.op (slot_key slot) e.error (plan_in m)
    plan-pushed e is = now-planned (plan_in m slot.op (slot_key slot) ++ e.error ∷ []) (ap errors_of is ∙ errors-push queue.items e ∙ ap (λ q. errors_in q ++ e.error ∷ []) found)

    pub plan-taken : w.items ≡ drop 1 queue.items → plan_in n ≡ without_first slot.op (slot_key slot) (plan_in m)
    plan-taken is = now-planned (drop 1 (plan_in m slot.op (slot_key slot))) (ap errors_of is ∙ errors-drop queue.items ∙ ap (λ q. drop 1 (errors_in q)) found)

    -- a queue without errors may go
    pub plan-removed : (o : BTreeMap Slot Queue) → w.items ≡ drop 1 queue.items → (is_empty : Bool) → is_empty ≡ (deque_len w == 0) → is_empty ≡ true → UpdatesBy slot_cmp (slot_cmp slot) n o None → plan_in o ≡ without_first slot.op (slot_key slot) (plan_in m)
    plan-removed o is is_empty tested empty removed =
        plan-set slot None n o removed
        ∙ with_errors-same slot.op (slot_key slot) [] (plan_in n) (ap errors_in updated.1 ∙ ap errors_of (nil_from_length w.items (sym w.ok.0 ∙ eqb-true (deque_len w) 0 (sym tested ∙ empty))))
        ∙ plan-taken is

    -- no queue is empty where the one that was written isn't
    pub no_empty-written : HasNoEmptyQueue m → w.items ≢ [] → HasNoEmptyQueue n
    no_empty-written tidy has = no_empty-set slot (Some w) m n tidy (some-has_errors w has) updated.0

    -- nor where it has one more error, or memory was lacking for it
    pub no_empty-pushed : (pushed : Bool) (e : OwnError) → HasNoEmptyQueue m → w.items ≡ cond pushed (queue.items ++ e ∷ []) queue.items → HasNoEmptyQueue n
    no_empty-pushed pushed e tidy is = no_empty-written tidy (pushed-not_empty pushed queue.items w.items e (λ none. tidy slot (ap items_in (sym found) ∙ ap Some none)) is)

    -- nor where it was removed, whatever was left in it
    pub no_empty-removed : (o : BTreeMap Slot Queue) → HasNoEmptyQueue m → UpdatesBy slot_cmp (slot_cmp slot) n o None → HasNoEmptyQueue o
    no_empty-removed o tidy removed = no_empty-set slot None m o tidy nothing-has_errors (set-twice slot (Some w) None m n o updated.0 removed.0)

-- ---- the errors are the store's own

pub own_first_of : (errors : List OwnError) (e : FsError) → slice_get (errors_of errors) 0 ≡ Some e → IsOwn e
own_first_of [] e is = absurd cc
own_first_of (x ∷ errors) e is = let same : x.error ≡ e = cc in subst IsOwn same x.own

-- each refusal of the plan is with an error of the store's own
pub own_planned : (queues : BTreeMap Slot Queue) (op : Op) (key : Key) (e : FsError) → refusal_for op key (plan_in queues) ≡ Some e → IsOwn e
own_planned queues op key = by_queue (get slot_cmp queues (slot_at op key))
  where
    by_queue : (queue : Option Queue) (e : FsError) → slice_get (errors_in queue) 0 ≡ Some e → IsOwn e
    by_queue None e is = absurd cc
    by_queue (Some queue) e is = own_first_of queue.items e is

-- ---- a plan that refuses nothing

-- without queues nothing is refused
pub empty-refuses_nothing : (queues : BTreeMap Slot Queue) → queues.entries ≡ [] → plan_in queues ≡ no_refusals
empty-refuses_nothing queues e = λ i op key. errors_in (lookup (is_at (slot_cmp (slot_at op key))) (e i))

-- a queue without errors has no items
no_errors : (errors : List OwnError) → errors_of errors ≡ [] → errors ≡ []
no_errors [] e = refl
no_errors (x ∷ errors) e = absurd cc

-- where nothing is refused, there is no queue
pub refuses_nothing-empty : (queues : BTreeMap Slot Queue) → HasNoEmptyQueue queues → plan_in queues ≡ no_refusals → queues.entries ≡ []
refuses_nothing-empty queues tidy none = by_entries queues.entries refl
  where
    by_entries : (es : List (Slot × Queue)) → queues.entries ≡ es → queues.entries ≡ []
    by_entries [] is = is
    by_entries (e ∷ es) is =
        let found : get slot_cmp queues e.0 ≡ Some e.1 = ap (lookup (is_at (slot_cmp e.0))) is ∙ lookup_head (is_at (slot_cmp e.0)) e es ((eq_by_cmp_equiv slot_cmp_total).refl e.0) in
        absurd (tidy e.0 (ap items_in found ∙ ap Some (no_errors e.1.items (sym (ap errors_in found) ∙ (λ i. none i e.0.op (slot_key e.0))))))
