-- LOCK, UNLOCK and PROPPATCH, over contents that look alike: a caller cannot distinguish them, and what they leave looks alike too.
use Rattle.std.proofs.Common.{◌≡◌, ◌≢◌, ◌⊎◌, ◌∙◌, Bool, true, false, List, [], ◌∷◌, Option, Some, None, Result, Ok, Err, refl, sym, ap, subst, inl, inr, if◌then◌else◌, unwrap_or}
use Rattle.std.specs.Option.{ForSome}
use Rattle.std.specs.Prelude.{map, filter, ℕ}
use Rattle.std.specs.FinMap.{get, empty, get-empty}
use Rattle.dav_key.specs.Key.{key_cmp}
use Rattle.dav_props.specs.Update.{Change, patch_of, patches_of, is_dead}
use Rattle.dav_props.specs.UpdateLaws.{patch_whole}
use Rattle.dav_resource.specs.Tree.{Tree}
use Rattle.dav_resource.specs.declared.error.FsError.{FsError}
use Rattle.dav_resource.specs.declared.meta.Meta.{Meta}
use Rattle.dav_resource.specs.declared.record.Op.TheVariants as ops
use Rattle.dav_resource.specs.declared.request.DavRequest.{DavRequest}
use Rattle.dav_resource.specs.declared.profile.Profile.{Profile}
use Rattle.dav_store.specs.Logged.{Logged}
use Rattle.dav_store.specs.Store.{Node, Bodies, Contents, AreNamed, PropertyMap}
use Rattle.dav_store.specs.Calls.{Call, IsLawful, record_of}
use Rattle.dav_store.specs.Members.{IsIn}
use Rattle.dav_store.specs.PropertyCalls.{Patch, IsWhole, properties_bar, properties_at}
use Rattle.dav_store.specs.declared.lock.DavLock.{DavLock}
use Rattle.dav_messages.specs.Reply.{Answer}
use Rattle.dav_engine.specs.Locking.{lock_asked, AddsToLocks, TakesBack, LeavesLock, GrantsLock, DeniesLock, NewLockWork, NewLockCut, RefreshesAlone, RefreshesNamed, FindsNoLock, RefreshWork, RefreshCut, is_refresh, LockWorkBy, LockWork, LockCutBy, LockCut}
use Rattle.dav_engine.specs.Proppatch.{Update, patch_call, MakesAll, MakesNone, IsPatchRefused, MakesChanges, ProppatchWork, ProppatchCut}
use Rattle.dav_engine.specs.State.{State, LocksStay}
use Rattle.dav_engine.specs.Unlocking.{Unlocks, UnlocksNothing, UnlockWork}
use Rattle.dav_access.specs.Sight.{Sight, AreSeen}
use Rattle.dav_access.proofs.AlikeCalls.{same_properties_bar}
use Rattle.dav_access.proofs.AlikeChanges.{Follows, followed, follows_same, follows_patched, named_after}
use Rattle.dav_access.proofs.AlikeRules.{with}
use Rattle.dav_access.proofs.AlikeTransfers.{FollowsTo, follows_stay}
use Rattle.dav_access.proofs.AlikeWrites.{follows_answers_lock}
use Rattle.dav_access.proofs.Shadow.{Mirrored, looks_alike}

-- ---- LOCK

module _ (old new : State) (before after : Contents) where
  added_too : (lock : DavLock) → AddsToLocks lock old new → AddsToLocks lock (with old before) (with new after)
  added_too lock adds = record { granted = adds.granted; added = adds.added }

  taken_back : (lock : DavLock) → TakesBack lock old new → TakesBack lock (with old before) (with new after)
  taken_back lock (inl stay) = inl stay
  taken_back lock (inr added) = inr (added.0, added_too lock added.1)

  left_too : (lock : DavLock) (answer : Answer) → LeavesLock lock answer old new → LeavesLock lock answer (with old before) (with new after)
  left_too lock (Ok reply) leaves = added_too lock leaves
  left_too lock (Err e) leaves = taken_back lock leaves

module _ (sight : Sight) (request : DavRequest) (old new : State) (other : Contents) (alike : Mirrored sight old.contents other) (records : List Logged) where
  -- work that leaves the contents as they are
  stays : {Leads : Contents → Type 0} → new.contents ≡ old.contents → Leads other → Follows sight new.contents Leads
  stays {Leads} same leads = followed (λ after is. subst Leads (sym is) leads) (follows_same alike same)

  follows_new_lock : (profile : Profile) (found : Option Meta) (answer : Answer) → AreSeen sight records → NewLockWork profile request found old records answer new → FollowsTo sight new (λ after. NewLockWork profile request found (with old other) records answer after)
  follows_new_lock profile found answer seen work = followed (λ after done. record { info = work.info; asked = work.asked; done = done }) (by work.done)
    where
      by : GrantsLock profile request found (lock_asked request found work.info) old records answer new ⊎ DeniesLock (lock_asked request found work.info) old records answer new
          → FollowsTo sight new (λ after. GrantsLock profile request found (lock_asked request found work.info) (with old other) records answer after ⊎ DeniesLock (lock_asked request found work.info) (with old other) records answer after)
      by (inl grants) = followed (λ after answers. inl (record {
        granted = grants.granted;
        answers = answers;
        locks = left_too old new other after (lock_asked request found work.info) answer grants.locks;
      })) (follows_answers_lock sight request old.contents new.contents other alike profile found (lock_asked request found work.info) records answer seen grants.answers)
      by (inr denies) = followed (λ after same. inr (record { denied = denies.denied; answered = denies.answered; none = denies.none; same = same })) (follows_stay sight old new other alike denies.same)

  follows_new_lock_cut : (found : Option Meta) → NewLockCut request found old records new → FollowsTo sight new (λ after. NewLockCut request found (with old other) records after)
  follows_new_lock_cut found cut = followed (λ after same. record { info = cut.info; asked = cut.asked; none = cut.none; same = same; locks = taken_back old new other after (lock_asked request found cut.info) cut.locks }) (follows_same alike cut.same)

  follows_refresh : (profile : Profile) (found : Option Meta) (answer : Answer) → RefreshWork profile request found old records answer new → FollowsTo sight new (λ after. RefreshWork profile request found (with old other) records answer after)
  follows_refresh profile found answer work = followed (λ after same. record { token = work.token; one = work.one; none = work.none; same = same; done = by after work.done }) (follows_same alike work.same)
    where
      by : (after : Contents) → RefreshesNamed profile request found work.token old answer new ⊎ FindsNoLock request work.token old answer new → RefreshesNamed profile request found work.token (with old other) answer (with new after) ⊎ FindsNoLock request work.token (with old other) answer (with new after)
      by after (inl named) = inl (record { lock = named.lock; is = named.is; answered = named.answered; locks = named.locks })
      by after (inr none) = inr (record { is = none.is; answered = none.answered; locks = none.locks })

  follows_refresh_cut : RefreshCut request old records new → FollowsTo sight new (λ after. RefreshCut request (with old other) records after)
  follows_refresh_cut cut = followed (λ after same. record { token = cut.token; one = cut.one; none = cut.none; same = same; locks = by after cut.locks }) (follows_same alike cut.same)
    where
      by : (after : Contents) → LocksStay old new ⊎ RefreshesAlone request cut.token old new → LocksStay (with old other) (with new after) ⊎ RefreshesAlone request cut.token (with old other) (with new after)
      by after (inl stay) = inl stay
      by after (inr alone) = inr alone

  module _ (held : Bodies) (found : Option Meta) where
    pub follows_lock : (profile : Profile) (answer : Answer) → AreSeen sight records → LockWork profile held request found old records answer new → FollowsTo sight new (λ after. LockWork profile held request found (with old other) records answer after)
    follows_lock profile answer seen work = by (is_refresh held request.body) work
      where
        by : (refresh : Bool) → LockWorkBy profile refresh request found old records answer new → FollowsTo sight new (λ after. LockWorkBy profile refresh request found (with old other) records answer after)
        by true work = follows_refresh profile found answer work
        by false work = follows_new_lock profile found answer seen work

    pub follows_lock_cut : LockCut held request found old records new → FollowsTo sight new (λ after. LockCut held request found (with old other) records after)
    follows_lock_cut cut = by (is_refresh held request.body) cut
      where
        by : (refresh : Bool) → LockCutBy refresh request found old records new → FollowsTo sight new (λ after. LockCutBy refresh request found (with old other) records after)
        by true cut = follows_refresh_cut cut
        by false cut = follows_new_lock_cut found cut

  -- ---- UNLOCK

  pub follows_unlock : (found : Option Meta) (answer : Answer) → UnlockWork request found old records answer new → FollowsTo sight new (λ after. UnlockWork request found (with old other) records answer after)
  follows_unlock found answer work = followed (λ after same. record { token = work.token; named = work.named; none = work.none; same = same; done = by after work.done }) (follows_same alike work.same)
    where
      by : (after : Contents) → Unlocks request found work.token old answer new ⊎ UnlocksNothing request work.token old answer new → Unlocks request found work.token (with old other) answer (with new after) ⊎ UnlocksNothing request work.token (with old other) answer (with new after)
      by after (inl unlocks) = inl (record { there = unlocks.there; answered = unlocks.answered; locks = unlocks.locks })
      by after (inr none) = inr (record { none = none.none; answered = none.answered; locks = none.locks })

-- ---- PROPPATCH

-- what is to be set has an element of its name
whole_patches : (changes : List Change) (patch : Patch) → IsIn patch (patches_of changes) → IsWhole patch
whole_patches changes = among (filter is_dead changes)
  where
    among : (changes : List Change) (patch : Patch) → IsIn patch (map patch_of changes) → IsWhole patch
    among [] patch is = absurd is
    among (change ∷ changes) patch (inl same) = subst IsWhole same (patch_whole change)
    among (change ∷ changes) patch (inr later) = among changes patch later

-- properties are kept only where something is
there_by_bar : (keeps : Bool) (o : Option Node) → properties_bar keeps o ≡ None → o ≢ None
there_by_bar false o free = absurd cc
there_by_bar true None free = absurd cc
there_by_bar true (Some node) free = λ none. cc

module _ (sight : Sight) (keeps : Bool) (request : DavRequest) (old new other : Contents) (alike : Mirrored sight old other) (records : List Logged) where
  same_patch : patch_call keeps other request.path.key ≡ patch_call keeps old request.path.key
  same_patch = ap (λ bar. record { op = ops.PatchProps; keys = request.path.key ∷ []; bar = bar }) (same_properties_bar sight old other (looks_alike sight old other alike) keeps request.path.key)

  named_there : AreNamed (properties_at other request.path.key)
  named_there = by (get other.properties request.path.key) (alike.like request.path.key).sound.named
    where
      by : (o : Option PropertyMap) → ForSome o AreNamed → AreNamed (unwrap_or o empty)
      by None named = λ name element is. absurd (let no : None ≡ Some element = sym (get-empty key_cmp name) ∙ is in cc)
      by (Some properties) named = named properties refl

  module _ (patches : List Patch) (whole : (patch : Patch) → IsIn patch patches → IsWhole patch) (store_answer : Result (List ℕ) FsError) where
    follows_all : MakesAll keeps request.path.key patches old records store_answer new → Follows sight new (λ after. MakesAll keeps request.path.key patches other records store_answer after)
    follows_all all = followed (λ after made. record {
      allowed = ap (λ (c : Call). c.bar) same_patch ∙ all.allowed;
      called = all.called;
      returns_all = all.returns_all;
      made = made;
    }) (follows_patched sight old new other alike request.path.key patches (named_after patches (properties_at other request.path.key) whole named_there) (there_by_bar keeps (get old.tree request.path.key) all.allowed) all.made)

    follows_none : MakesNone keeps request.path.key patches old records store_answer new → Follows sight new (λ after. MakesNone keeps request.path.key patches other records store_answer after)
    follows_none none = followed (λ after same. record {
      statuses = none.statuses;
      each = none.each;
      not_all = none.not_all;
      called = none.called;
      returns_each = none.returns_each;
      same = same;
    }) (follows_same alike none.same)

    follows_refused : IsPatchRefused keeps request.path.key patches old records store_answer new → Follows sight new (λ after. IsPatchRefused keeps request.path.key patches other records store_answer after)
    follows_refused refused = followed (λ after same. record {
      error = refused.error;
      outcome = refused.outcome;
      cause = refused.cause;
      lawful = subst (λ (c : Call). IsLawful c.bar refused.outcome) (sym same_patch) refused.lawful;
      called = refused.called ∙ ap (λ c. record_of c refused.outcome ∷ []) (sym same_patch);
      returns_error = refused.returns_error;
      same = same;
    }) (follows_same alike refused.same)

  follows_changes : (patches : List Patch) → ((patch : Patch) → IsIn patch patches → IsWhole patch) → (store_answer : Result (List ℕ) FsError) → MakesChanges keeps request.path.key patches old records store_answer new → Follows sight new (λ after. MakesChanges keeps request.path.key patches other records store_answer after)
  follows_changes [] whole store_answer nothing = followed (λ after same. record { none = nothing.none; returns_none = nothing.returns_none; same = same }) (follows_same alike nothing.same)
  follows_changes (patch ∷ patches) whole store_answer (inl all) = followed (λ after leads. inl leads) (follows_all (patch ∷ patches) whole store_answer all)
  follows_changes (patch ∷ patches) whole store_answer (inr (inl none)) = followed (λ after leads. inr (inl leads)) (follows_none (patch ∷ patches) whole store_answer none)
  follows_changes (patch ∷ patches) whole store_answer (inr (inr refused)) = followed (λ after leads. inr (inr leads)) (follows_refused (patch ∷ patches) whole store_answer refused)

  module _ (update : Update) where
    pub follows_proppatch : (profile : Profile) (answer : Answer) → ProppatchWork profile keeps request update old records answer new → Follows sight new (λ after. ProppatchWork profile keeps request update other records answer after)
    follows_proppatch profile answer work = followed (λ after stored. record { store_answer = work.store_answer; stored = stored; answered = work.answered })
        (follows_changes (patches_of update.1) (whole_patches update.1) work.store_answer work.stored)

    pub follows_proppatch_cut : ProppatchCut keeps request update old records new → Follows sight new (λ after. ProppatchCut keeps request update other records after)
    follows_proppatch_cut (inl unbegun) = followed (λ after same. inl (record { none = unbegun.none; same = same })) (follows_same alike unbegun.same)
    follows_proppatch_cut (inr made) = followed (λ after stored. inr (made.0, stored)) (follows_changes (patches_of update.1) (whole_patches update.1) (Ok made.0) made.1)
