-- DELETE: its rules, and its work.
use Rattle.std.proofs.Common.{◌≡◌, ◌≢◌, ◌⊎◌, ◌∙◌, ℕ, true, if◌then◌else◌, List, [], ◌∷◌, ◌++◌, Option, Some, Result, Ok, Err, inl, inr, refl, sym, ap, subst, append-nil, option_map}
use Rattle.std.specs.Option.{option_map_or}
use Rattle.std.specs.Result.{IsErrAnd}
use Rattle.http.specs.declared.response.Response.{Response}
use Rattle.dav_resource.specs.Gives.{GivesBy}
use Rattle.dav_resource.specs.Errors.{from_fs}
use Rattle.dav_key.specs.Key.{Key}
use Rattle.dav_resource.specs.PathText.{PathValue}
use Rattle.dav_resource.specs.declared.profile.Profile.{Profile}
use Rattle.dav_resource.specs.declared.error.DavError.{DavError}
use Rattle.dav_resource.specs.declared.error.DavError.TheVariants.{Memory, Status}
use Rattle.dav_resource.specs.declared.error.FsError.{FsError}
use Rattle.dav_resource.specs.declared.error.FsError.TheVariants as fs_errors
use Rattle.dav_resource.specs.declared.meta.Meta.{Meta}
use Rattle.dav_resource.specs.declared.record.Outcome.{Outcome}
use Rattle.dav_resource.specs.declared.record.Outcome.TheVariants as outcomes
use Rattle.dav_resource.specs.declared.request.Body.{Body}
use Rattle.dav_resource.specs.declared.request.Depth.{Depth}
use Rattle.dav_resource.specs.declared.request.DavRequest.{DavRequest}
use Rattle.dav_store.specs.Store.{Store}
use Rattle.dav_store.specs.Calls.{Grants, Declines, IsLawful, IsMetaAt, metadata_call, record_of, error_of}
use Rattle.dav_store.specs.Locks.{Locks, all_reliable}
use Rattle.dav_messages.specs.Dialogue.{Passed, Refuses, LeadsTo, Judges}
use Rattle.dav_messages.specs.Conditions.{conditions}
use Rattle.dav_messages.specs.Dialogues.{judges_exit, judges_then, judges_pure, judges_if}
use Rattle.dav_messages.specs.Multistatus.{Item, multi_answer}
use Rattle.dav_messages.specs.Reply.{reply_of, Answer, answer_of}
use Rattle.dav_walks.specs.Deletion.{Removes, RemovesInPart, Removal, RemovesOrStops, first_failure}
use Rattle.dav_walks.specs.RemovalLaws.{nothing_removed, whole_in_part}
use Rattle.dav_engine.specs.State.{State, Seen, state_of, facts_of, LocksStay, DropsLocks, DropsSeen}
use Rattle.dav_engine.specs.Rules.{judged, lookup_result, or_refused, must_find, is_permitted, depth_or_all, depth_verdict, fixed_path}
use Rattle.dav_engine.specs.Delete.{delete_rules, reported_items, LeavesLocks, DeleteWork, DeleteCut}
use Rattle.dav_engine.specs.Work.{Performs}

-- ---- the rules

pub judges_verdict : {A : Type 0} (verdict : Result A DavError) (store : Store) → Judges (judged verdict) store verdict store
judges_verdict (Ok a) store = judges_pure (Passed a) store (Ok a) refl
judges_verdict (Err e) store = judges_pure (Refuses (Err e)) store (Err e) (inl refl)

-- the verdict that is known
pub judges_known : {A : Type 0} (verdict known : Result A DavError) (store : Store) → verdict ≡ known → Judges (judged verdict) store known store
judges_known verdict known store is = subst (λ v. Judges (judged verdict) store v store) is (judges_verdict verdict store)

-- a lookup whose refusal refuses the request
pub finds : (key : Key) (meta : Meta) (old new : Store) → Grants (metadata_call old.contents key) (IsMetaAt key meta) old new → Judges (must_find old.contents key) old (Ok meta) new
finds key meta old new h = record {
  records = record_of (metadata_call old.contents key) outcomes.Granted ∷ [];
  recorded = h.recorded;
  same = h.effect.same;
  fixed = h.fixed;
  ends = (refl, h.allowed, ap (λ found. or_refused (lookup_result outcomes.Granted found)) (sym h.effect.answer));
}

pub finds_nothing : (key : Key) (e : FsError) (old new : Store) → ((e ≡ fs_errors.Memory) × (new ≡ old)) ⊎ Declines (metadata_call old.contents key) e old new → Judges (must_find old.contents key) old (Err (from_fs e)) new
finds_nothing key e old new (inl h) = rw (h.0, h.1) (judges_pure (must_find old.contents key) old (Err Memory) (inr (refl, (must_find old.contents key, refl))))
finds_nothing key e old new (inr h) = record {
  records = record_of (metadata_call old.contents key) h.outcome ∷ [];
  recorded = h.recorded;
  same = h.same;
  fixed = h.fixed;
  ends = inl (declined h.outcome h.cause h.lawful);
}
  where
    declined : (outcome : Outcome) → error_of outcome ≡ Some e → IsLawful (metadata_call old.contents key).bar outcome → LeadsTo (must_find old.contents key) (record_of (metadata_call old.contents key) outcome ∷ []) (Refuses (Err (from_fs e)))
    declined outcomes.Granted cause lawful = absurd cc
    declined (outcomes.Barred d) cause lawful = let is : d ≡ e = cc in (refl, lawful, rw is refl)
    declined (outcomes.Refused d) cause lawful = let is : d ≡ e = cc in (refl, lawful, rw is refl)

module _ (request : DavRequest) (state : State) (old mid new : Store) (meta : Meta) (reached : depth_verdict (depth_or_all request) ≡ Ok tt)
    (found : Judges (must_find state.contents request.path.key) old (Ok meta) mid) where
  -- a condition refuses the request, by the exit of a `?`
  pub delete_unheld : (e : DavError) (verdict : Result Meta DavError) → IsErrAnd verdict (λ d. d ≡ e) → Judges (conditions state.contents state.locks request (Some meta) request.path) mid (Err e) new
      → Judges (delete_rules request state) old verdict new
  delete_unheld e verdict exit held =
      judges_then _ (judged (depth_verdict (depth_or_all request))) old old new tt verdict (judges_known _ (Ok tt) old reached)
      (judges_then _ (must_find state.contents request.path.key) old mid new meta verdict found
      (judges_exit _ (conditions state.contents state.locks request (Some meta) request.path) mid new e verdict exit held))

  -- the conditions hold, and the locks decide
  pub delete_held : (tokens : List (List ℕ)) (verdict : Result Meta DavError) → Judges (conditions state.contents state.locks request (Some meta) request.path) mid (Ok tokens) new
      → verdict ≡ (if is_permitted request state request.path.key true then Ok meta else Err (Status 423)) → Judges (delete_rules request state) old verdict new
  delete_held tokens verdict held permitted =
      judges_then _ (judged (depth_verdict (depth_or_all request))) old old new tt verdict (judges_known _ (Ok tt) old reached)
      (judges_then _ (must_find state.contents request.path.key) old mid new meta verdict found
      (judges_then _ (conditions state.contents state.locks request (Some meta) request.path) mid new new tokens verdict held
      (judges_if (is_permitted request state request.path.key true) meta (Status 423) new verdict permitted)))

-- ---- the work

-- what is given is answered, unless memory ran out
pub answered : (result : Result (Response Body) DavError) (expected : Answer) → GivesBy reply_of result expected → (answer_of result ≡ expected) ⊎ (answer_of result ≡ Err Memory)
answered (Ok reply) expected given = inl (sym given)
answered (Err e) expected (inl given) = inl (sym given)
answered (Err e) expected (inr memory) = inr (ap Err memory)

-- an answer says whether something is named
pub none_named : (names : List Item) → Ok tt ≡ first_failure names → names ≡ []
none_named [] is = refl
none_named (item ∷ names) is = absurd cc

pub no_memory : (names : List Item) → Err Memory ≡ first_failure names → ⊥
no_memory [] is = cc
no_memory (item ∷ names) is = cc

pub some_named : (e : DavError) (names : List Item) → Err e ≡ first_failure names → names ≢ []
some_named e [] is = absurd cc
some_named e (item ∷ names) is = λ none. cc

pub same_facts : (old new : Seen) → new.store.facts ≡ old.store.facts → new.locks ≡ old.locks → facts_of new ≡ facts_of old
same_facts old new fixed locks = λ i. (fixed i, option_map (λ (l : Locks). l.reliable) (locks i))

pub same_locks : (old new : Seen) → new.locks ≡ old.locks → LocksStay (state_of old) (state_of new)
same_locks old new locks = ap (option_map (λ (l : Locks). l.list)) locks

pub drops : (key : Key) (old mid new : Seen) → mid.locks ≡ old.locks → DropsLocks key (state_of mid) (state_of new) → DropsLocks key (state_of old) (state_of new)
drops key old mid new locks dropped =
    subst (λ (l : Option Locks). DropsLocks key (record { contents = mid.store.contents; locks = option_map (λ (k : Locks). k.list) l; reliable = option_map_or (λ (k : Locks). k.reliable) l all_reliable }) (state_of new)) locks dropped

pub named_locks : (names : List Item) (path : PathValue) (old new : State) → names ≢ [] → LocksStay old new → LeavesLocks names path old new
named_locks [] path old new some same = absurd (some refl)
named_locks (item ∷ names) path old new some same = same

named_told : (names : List Item) (path : PathValue) → names ≢ [] → reported_items path names ≡ names
named_told [] path some = absurd (some refl)
named_told (item ∷ names) path some = refl

module _ (profile : Profile) (request : DavRequest) (meta : Meta) where
  abbrev depth : Depth
  depth = depth_or_all request

  abbrev path : PathValue
  path = fixed_path request.path (Some meta)

  abbrev Deletes : Seen → Answer → Seen → Type 0
  Deletes = Performs (DeleteWork profile request meta) (DeleteCut request meta)

  -- nothing was begun
  pub works_unbegun : (seen : Seen) (result : Result (Response Body) DavError) → answer_of result ≡ Err Memory → Deletes seen (answer_of result) seen
  works_unbegun seen result is = record {
    records = [];
    recorded = sym (append-nil seen.store.log);
    fixed = refl;
    done = inr (is, record { removed = nothing_removed depth path seen.store.contents; locks = inl refl });
  }

  -- memory ran out in the deletion
  pub works_stopped : (old new : Seen) (had has : List Item) → Removal depth path old.store new.store had has (Err Memory) → new.locks ≡ old.locks → Deletes old (Err Memory) new
  works_stopped old new had has h locks = record {
    records = h.records;
    recorded = h.recorded;
    fixed = same_facts old new h.fixed locks;
    done = by_end h.done;
  }
    where
      Same : Type 0
      Same = ◌≡◌ {A = Answer} (Err Memory) (Err Memory)

      Ended : Type 0
      Ended = DeleteWork profile request meta (state_of old) h.records (Err Memory) (state_of new) ⊎ (Same × DeleteCut request meta (state_of old) h.records (state_of new))

      cut : RemovesInPart depth path old.store.contents new.store.contents h.records → DeleteCut request meta (state_of old) h.records (state_of new)
      cut part = record { removed = part; locks = inl (same_locks old new locks) }

      by_end : RemovesOrStops depth path old.store.contents new.store.contents h.records had has (Err Memory) → Ended
      by_end (inl whole) = absurd (no_memory whole.0 whole.3)
      by_end (inr part) = inr (refl, cut part.1.part)

  -- all is gone, and so are the locks
  module _ (old mid new : Seen) (has : List Item) (h : Removal depth path old.store mid.store [] has (Ok tt)) (locks : mid.locks ≡ old.locks) (dropped : DropsSeen request.path.key mid new) where
    all_gone : Removes depth path old.store.contents new.store.contents h.records [] × (has ≡ [])
    all_gone = by_end h.done
      where
        by_end : RemovesOrStops depth path old.store.contents mid.store.contents h.records [] has (Ok tt) → Removes depth path old.store.contents new.store.contents h.records [] × (has ≡ [])
        by_end (inl whole) =
            let none = none_named whole.0 whole.3 in
            (subst (λ (s : Store). Removes depth path old.store.contents s.contents h.records []) (sym dropped.store) (subst (λ names. Removes depth path old.store.contents mid.store.contents h.records names) none whole.2), whole.1 ∙ none)
        by_end (inr part) = absurd cc

    let_go : DropsLocks request.path.key (state_of old) (state_of new)
    let_go = drops request.path.key old mid new locks dropped.dropped

    told_so : new.store.log ≡ old.store.log ++ h.records
    told_so = ap (λ (s : Store). s.log) dropped.store ∙ h.recorded

    fixed_so : facts_of new ≡ facts_of old
    fixed_so = dropped.fixed ∙ same_facts old mid h.fixed locks

    pub works_untold : (result : Result (Response Body) DavError) → answer_of result ≡ Err Memory → Deletes old (answer_of result) new
    works_untold result is = record {
      records = h.records;
      recorded = told_so;
      fixed = fixed_so;
      done = inr (is, record { removed = whole_in_part depth path _ _ _ [] all_gone.0; locks = inr (all_gone.0, let_go) });
    }

    pub works_gone : (items : List Item) (result : Result (Response Body) DavError) → items ≡ has ++ (path, 204) ∷ [] → GivesBy reply_of result (multi_answer profile path items) → Deletes old (answer_of result) new
    works_gone items result added given = by_answer (answered result _ given)
      where
        by_answer : (answer_of result ≡ multi_answer profile path items) ⊎ (answer_of result ≡ Err Memory) → Deletes old (answer_of result) new
        by_answer (inr memory) = works_untold result memory
        by_answer (inl is) = record {
          records = h.records;
          recorded = told_so;
          fixed = fixed_so;
          done = inl (record { names = []; removed = all_gone.0; locks = let_go; answered = is ∙ ap (multi_answer profile path) (added ∙ ap (λ l. l ++ (path, 204) ∷ []) all_gone.1) });
        }

  -- something is named
  pub works_named : (e : DavError) (old new : Seen) (has : List Item) (result : Result (Response Body) DavError) → e ≢ Memory → Removal depth path old.store new.store [] has (Err e) → new.locks ≡ old.locks
      → GivesBy reply_of result (multi_answer profile path has) → Deletes old (answer_of result) new
  works_named e old new has result not_memory h locks given = by_end h.done
    where
      whole_answer : (names : List Item) → has ≡ names → Removes depth path old.store.contents new.store.contents h.records names → names ≢ [] → (answer_of result ≡ multi_answer profile path has) ⊎ (answer_of result ≡ Err Memory) → Deletes old (answer_of result) new
      whole_answer names is removed some (inl recorded) = record {
        records = h.records;
        recorded = h.recorded;
        fixed = same_facts old new h.fixed locks;
        done = inl (record { names = names; removed = removed; locks = named_locks names request.path _ _ some (same_locks old new locks); answered = recorded ∙ ap (multi_answer profile path) (is ∙ sym (named_told names path some)) });
      }
      whole_answer names is removed some (inr memory) = record {
        records = h.records;
        recorded = h.recorded;
        fixed = same_facts old new h.fixed locks;
        done = inr (memory, record { removed = whole_in_part depth path _ _ _ names removed; locks = inl (same_locks old new locks) });
      }

      by_end : RemovesOrStops depth path old.store.contents new.store.contents h.records [] has (Err e) → Deletes old (answer_of result) new
      by_end (inl whole) = whole_answer whole.0 whole.1 whole.2 (some_named e whole.0 whole.3) (answered result _ given)
      by_end (inr part) = absurd (not_memory (let same : e ≡ Memory = cc in same))
