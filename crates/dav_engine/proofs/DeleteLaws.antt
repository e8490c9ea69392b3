-- What follows for its caller from each step of a DELETE.
use Rattle.std.proofs.Common.{◌≡◌, ◌≢◌, ◌⊎◌, ◌∙◌, ◌≤◌, ℕ, Bool, true, false, cond, not, List, [], ◌∷◌, ◌++◌, Option, Some, None, Ok, Err, inl, inr, refl, sym, ap, subst, append-nil, option_map, if◌then◌else◌, arith}
use Rattle.std.specs.FinMap.{get}
use Rattle.dav_key.specs.Key.{Key, is_same_key, same_key_decides}
use Rattle.dav_resource.specs.PathText.{PathValue}
use Rattle.dav_resource.specs.Errors.{fs_status, dav_status, from_fs}
use Rattle.dav_resource.specs.declared.profile.Profile.{Profile}
use Rattle.dav_resource.specs.declared.error.DavError.{DavError}
use Rattle.dav_resource.specs.declared.error.DavError.TheVariants.{Memory, Status}
use Rattle.dav_resource.specs.declared.error.FsError.{FsError}
use Rattle.dav_resource.specs.declared.meta.Meta.{Meta}
use Rattle.dav_resource.specs.declared.record.Outcome.{Outcome}
use Rattle.dav_resource.specs.declared.record.Outcome.TheVariants as outcomes
use Rattle.dav_resource.specs.declared.request.Depth.{Depth}
use Rattle.dav_resource.specs.declared.request.Depth.TheVariants.{Zero, One, Infinity, Default}
use Rattle.dav_resource.specs.declared.request.DavRequest.{DavRequest}
use Rattle.dav_store.specs.BelowLaws.{at_or_below-tail}
use Rattle.dav_store.specs.Calls.{IsLawful, error_of}
use Rattle.dav_store.specs.Logged.{Logged}
use Rattle.dav_store.specs.MemberLaws.{there_members}
use Rattle.dav_store.specs.Members.{IsIn, member, members, remove_dir_bar, IsRemovedAt}
use Rattle.dav_store.specs.Store.{Contents, Node, File, Directory, IsWellFormed}
use Rattle.dav_store.specs.Locks.{is_at_or_below, at_or_below, elsewhere}
use Rattle.dav_store.specs.declared.lock.DavLock.{DavLock}
use Rattle.dav_messages.specs.Conditions.{conditions}
use Rattle.dav_messages.specs.Multistatus.{Item, multi_answer, multistatus_reply}
use Rattle.dav_messages.specs.Reply.{Answer, bare_reply}
use Rattle.dav_walks.specs.Deletion.{Removes, RemovesAlone, removal_call}
use Rattle.dav_walks.specs.ClearedLaws.{path_gone, clean_leaves_nothing, names_refused}
use Rattle.dav_engine.specs.State.{State, LocksStay, DropsLocks, IsLawfulState}
use Rattle.dav_engine.specs.Rules.{judged, lookup_result, must_find, is_permitted, depth_or_all, depth_verdict, fixed_path}
use Rattle.dav_engine.specs.Delete.{delete_rules, reported_items, LeavesLocks, DeleteWork, DeleteCut}
use Rattle.dav_engine.specs.Laws.{IsNoContent, IsEmptied, IsUnlocked, EmptiesPath, IsGoneWithLocks, KeepsLocksUnlessGone}
use Rattle.dav_engine.specs.Settings.{Settings}
use Rattle.dav_engine.specs.Method.{StepBy, Refused, Done, CutShort, CutInWork}
use Rattle.dav_engine.specs.Methods.{delete_method}
use Rattle.dav_engine.proofs.Refusals.{refusal_from_300, from_fs_status, RefusesBy, errs_then, errs_led, errs_told, errs_conditions, errs_depth, errs_permitted}
use Rattle.dav_engine.proofs.Trees.{none_removed, no_member, memberless_below}

-- ---- no rule refuses by a 204

-- no refusal has its status
refusal_tells : (e : FsError) → fs_status e ≢ 204
refusal_tells e = λ is. omega (arith, refusal_from_300 e, is)

abbrev Kind : DavError → Type 0
Kind e = dav_status e ≢ 204

kind_of_status : (s : ℕ) → 300 ≤ s → Kind (Status s)
kind_of_status s least = λ is. omega (arith, least, is)

kind_of_refusal : (e : FsError) → Kind (from_fs e)
kind_of_refusal e = λ is. refusal_tells e (sym (from_fs_status e) ∙ is)

errs_delete : (request : DavRequest) (state : State) → RefusesBy Kind (delete_rules request state)
errs_delete request state =
    errs_then Kind (judged (depth_verdict (depth_or_all request))) _ (errs_depth Kind kind_of_status (depth_or_all request))
    (λ _. errs_then Kind (must_find state.contents request.path.key) _ (λ outcome. errs_told Kind kind_of_refusal (lookup_result outcome (state.contents.metas request.path.key)))
    (λ meta. errs_then Kind (conditions state.contents state.locks request (Some meta) request.path) _ (errs_conditions Kind kind_of_status state.contents state.locks request (Some meta) request.path)
    (λ _. errs_permitted Kind kind_of_status 423 (omega arith) (is_permitted request state request.path.key true) meta)))

-- ---- which answer is a 204

-- nor has a want of memory
memory_tells : (answer : Answer) → answer ≡ Err Memory → IsNoContent answer → ⊥
memory_tells answer memory recorded = let is : 507 ≡ 204 = subst IsNoContent memory recorded in omega (arith, is)

-- a reply that names something is no 204
named_tells : (profile : Profile) (path : PathValue) (item : Item) (names : List Item) → item.1 ≢ 204 → IsNoContent (multi_answer profile path (item ∷ names)) → ⊥
named_tells profile path item [] other = by_key (is_same_key path.key item.0.key)
  where
    by_key : (b : Bool) → IsNoContent (if b then Ok (bare_reply item.1 []) else Ok (multistatus_reply profile (item ∷ []))) → ⊥
    by_key true recorded = other recorded
    by_key false recorded = omega (arith, recorded)
named_tells profile path item (next ∷ names) other = λ recorded. omega (arith, recorded)

-- where nothing is named it is one
clean_tells : (profile : Profile) (path : PathValue) → IsNoContent (multi_answer profile path ((path, 204) ∷ []))
clean_tells profile path = subst (λ b. IsNoContent (if b then Ok (bare_reply 204 []) else Ok (multistatus_reply profile ((path, 204) ∷ [])))) (sym ((same_key_decides path.key path.key).1 refl)) refl

-- ---- where nothing is named, nothing is left

-- a directory that can be removed has no members
no_names : (key : Key) (names : List (List ℕ)) → remove_dir_bar key (Some Directory) names ≡ None → names ≡ []
no_names [] names free = absurd cc
no_names (segment ∷ key) [] free = refl
no_names (segment ∷ key) (name ∷ names) free = absurd cc

module _ (path : PathValue) (old new : Contents) (formed : IsWellFormed old) where
  -- what can be removed alone has no members
  alone_memberless : (it : Option Node) → get old.tree path.key ≡ it → (removal_call old path.key).bar ≡ None → (n : List ℕ) → get old.tree (member path.key n) ≡ None
  alone_memberless None is free n = no_member old formed path.key n (λ directory. let no : None ≡ Some Directory = sym is ∙ directory in cc)
  alone_memberless (Some (File bytes)) is free n = no_member old formed path.key n (λ directory. let no : Some (File bytes) ≡ Some Directory = sym is ∙ directory in cc)
  alone_memberless (Some Directory) is free n = by_member (get old.tree (member path.key n)) refl
    where
      none : members old.tree path.key ≡ []
      none = no_names path.key (members old.tree path.key) (rw is at (rw is at free))

      by_member : (there : Option Node) → get old.tree (member path.key n) ≡ there → get old.tree (member path.key n) ≡ None
      by_member None at = at
      by_member (Some node) at =
          let inside : IsIn n (members old.tree path.key) = there_members old.tree path.key n (λ nothing. let no : Some node ≡ None = sym at ∙ nothing in cc) in
          let no : IsIn n [] = subst (IsIn n) none inside in
          absurd no

  abbrev IsEndOf : Outcome → List Item → Type 0
  IsEndOf outcome names = (outcome ≡ outcomes.Granted → IsRemovedAt path.key old new × (names ≡ [])) × ((e : FsError) → error_of outcome ≡ Some e → (new ≡ old) × (names ≡ (path, fs_status e) ∷ []))

  alone_below : (records : List Logged) → RemovesAlone path old new records [] → (x : Key) → get new.tree (path.key ++ x) ≡ None
  alone_below records alone [] = ap (get new.tree) (append-nil path.key) ∙ path_gone Zero path old new records alone
  alone_below records alone (n ∷ x) = by_outcome alone.outcome alone.lawful (alone.granted, alone.refused)
    where
      by_outcome : (outcome : Outcome) → IsLawful (removal_call old path.key).bar outcome → IsEndOf outcome [] → get new.tree (path.key ++ n ∷ x) ≡ None
      by_outcome outcomes.Granted free end =
          ap (λ t. get t (path.key ++ n ∷ x)) (end.0 refl).0.tree
          ∙ none_removed old.tree path.key (path.key ++ n ∷ x) (memberless_below old formed path.key (alone_memberless (get old.tree path.key) refl free) n x)
      by_outcome (outcomes.Barred e) barred end = absurd (let none : [] ≡ (path, fs_status e) ∷ [] = (end.1 e refl).1 in cc)
      by_outcome (outcomes.Refused e) own end = absurd (let none : [] ≡ (path, fs_status e) ∷ [] = (end.1 e refl).1 in cc)

  -- at any Depth
  pub removed_below : (depth : Depth) (records : List Logged) → Removes depth path old new records [] → (x : Key) → get new.tree (path.key ++ x) ≡ None
  removed_below Zero records alone = alone_below records alone
  removed_below One records r = clean_leaves_nothing path old new r.0 r.2
  removed_below Infinity records r = clean_leaves_nothing path old new r.0 r.2
  removed_below Default records r = clean_leaves_nothing path old new r.0 r.2

-- ---- the locks

-- of the locks elsewhere none is there
module _ (key : Key) where
  none_elsewhere : (locks : List DavLock) → at_or_below (elsewhere locks key) key ≡ []
  none_elsewhere [] = refl
  none_elsewhere (lock ∷ locks) = by_place (is_at_or_below lock.path.key key) refl (none_elsewhere locks)
    where
      by_place : (b : Bool) → is_at_or_below lock.path.key key ≡ b → at_or_below (elsewhere locks key) key ≡ [] → at_or_below (cond (not b) (lock ∷ elsewhere locks key) (elsewhere locks key)) key ≡ []
      by_place true is rest = rest
      by_place false is rest = ap (λ b. cond b (lock ∷ at_or_below (elsewhere locks key) key) (at_or_below (elsewhere locks key) key)) is ∙ rest

pub unlocked : (request : DavRequest) (old new : State) → DropsLocks request.path.key old new → old.reliable.delete ≡ true → IsUnlocked request new
unlocked request old new (inr kept) reliable = absurd (let no : true ≡ false = sym reliable ∙ kept.0 in cc)
unlocked request old new (inl dropped) reliable = λ locks is. by_system old.locks locks (sym dropped ∙ is)
  where
    by_system : (there : Option (List DavLock)) (locks : List DavLock) → option_map (λ list. elsewhere list request.path.key) there ≡ Some locks → at_or_below locks request.path.key ≡ []
    by_system None locks is = absurd cc
    by_system (Some list) locks is = let same : elsewhere list request.path.key ≡ locks = cc in subst (λ l. at_or_below l request.path.key ≡ []) same (none_elsewhere request.path.key list)

-- ---- the laws

-- no lock changes and the answer is no 204, or all is gone
abbrev IsSettled : DavRequest → State → Answer → State → Type 0
IsSettled request old answer new = (LocksStay old new × (IsNoContent answer → ⊥)) ⊎ IsGoneWithLocks request old answer new

module _ (profile : Profile) (request : DavRequest) (old : State) (formed : IsWellFormed old.contents) (answer : Answer) (new : State) where
  module _ (meta : Meta) (records : List Logged) where
    abbrev path : PathValue
    path = fixed_path request.path (Some meta)

    abbrev RemovesAs : List Item → Type 0
    RemovesAs = Removes (depth_or_all request) path old.contents new.contents records

    -- where nothing is named nothing is left
    emptied : RemovesAs [] → IsEmptied request new
    emptied removed key below =
        let tail = at_or_below-tail request.path.key key below in
        subst (λ k. get new.contents.tree k ≡ None) (sym tail.1) (removed_below path old.contents new.contents formed (depth_or_all request) records removed tail.0)

    work_settles : DeleteWork profile request meta old records answer new → IsSettled request old answer new
    work_settles work = by_names work.names work.removed work.locks work.answered
      where
        by_names : (names : List Item) → RemovesAs names → LeavesLocks names request.path old new → answer ≡ multi_answer profile path (reported_items path names) → IsSettled request old answer new
        by_names [] removed dropped answered = inr (record { answered = inl (subst IsNoContent (sym answered) (clean_tells profile path)); emptied = emptied removed; locks = dropped })
        by_names (item ∷ names) removed same answered =
            let refusal = names_refused (depth_or_all request) path old.contents new.contents records (item ∷ names) removed item (inl refl) in
            inl (same, λ recorded. named_tells profile path item names (λ is. refusal_tells refusal.0 (refusal.1 ∙ is)) (subst IsNoContent answered recorded))

    cut_settles : answer ≡ Err Memory → DeleteCut request meta old records new → IsSettled request old answer new
    cut_settles memory cut = by_locks cut.locks
      where
        by_locks : LocksStay old new ⊎ (RemovesAs [] × DropsLocks request.path.key old new) → IsSettled request old answer new
        by_locks (inl same) = inl (same, memory_tells answer memory)
        by_locks (inr gone) = inr (record { answered = inr memory; emptied = emptied gone.0; locks = gone.1 })

step_settles : (settings : Settings) (request : DavRequest) (old : State) → IsWellFormed old.contents → (answer : Answer) (new : State) (records : List Logged) → StepBy delete_method settings request old records answer new → IsSettled request old answer new
step_settles settings request old formed answer new records (Refused h) =
    let refused = errs_led Kind (delete_rules request old) records answer (errs_delete request old) h.head in
    inl (ap (λ (s : State). s.locks) h.same, λ recorded. refused.2 (subst IsNoContent refused.1 recorded))
step_settles settings request old formed answer new records (Done h) = work_settles settings.profile request old formed answer new h.found h.rest h.work
step_settles settings request old formed answer new records (CutShort h) = inl (ap (λ (s : State). s.locks) h.same, memory_tells answer h.answered)
step_settles settings request old formed answer new records (CutInWork h) = cut_settles settings.profile request old formed answer new h.found h.rest h.answered h.work

module _ (request : DavRequest) (old : State) (answer : Answer) (new : State) where
  settled_empties : IsSettled request old answer new → EmptiesPath request old answer new
  settled_empties (inl kept) recorded = absurd (kept.1 recorded)
  settled_empties (inr gone) recorded = (gone.emptied, unlocked request old new gone.locks)

  settled_keeps : IsSettled request old answer new → KeepsLocksUnlessGone request old answer new
  settled_keeps (inl kept) = inl kept.0
  settled_keeps (inr gone) = inr gone

pub delete_tells : {settings : Settings} {request : DavRequest} {old new : State} {records : List Logged} {answer : Answer} → IsLawfulState old → StepBy delete_method settings request old records answer new
    → EmptiesPath request old answer new × KeepsLocksUnlessGone request old answer new
delete_tells {settings} {request} {old} {new} {records} {answer} lawful step =
    let settled = step_settles settings request old lawful.contents answer new records step in
    (settled_empties request old answer new settled, settled_keeps request old answer new settled)
