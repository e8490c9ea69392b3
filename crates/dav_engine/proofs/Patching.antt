-- PROPPATCH: its rules, and its work.
use Rattle.std.proofs.Common.{◌≡◌, ◌≢◌, ◌∙◌, ◌⊎◌, ℕ, Bool, true, false, if◌then◌else◌, List, [], ◌∷◌, All, get_or, filter, Option, Some, None, Ok, Err, inl, inr, refl, sym, ap, append-nil}
use Rattle.std.proofs.lemmas.List.Elements.{All-map}
use Rattle.dav_resource.specs.Errors.{from_fs}
use Rattle.dav_key.specs.Key.{Key}
use Rattle.dav_resource.specs.declared.profile.Profile.{Profile}
use Rattle.dav_resource.specs.declared.error.DavError.{DavError}
use Rattle.dav_resource.specs.declared.error.DavError.TheVariants.{Memory}
use Rattle.dav_resource.specs.declared.error.FsError.{FsError}
use Rattle.dav_resource.specs.declared.error.FsError.TheVariants as fs_errors
use Rattle.dav_resource.specs.declared.meta.Meta.{Meta}
use Rattle.dav_resource.specs.declared.record.Outcome.TheVariants.{Granted, Refused}
use Rattle.dav_resource.specs.declared.request.DavRequest.{DavRequest}
use Rattle.dav_store.specs.Calls.{Declines, record_of}
use Rattle.dav_store.specs.Logged.{Logged}
use Rattle.dav_store.specs.PropertyCalls.{Patch, IsWhole, Patches, DropsPatches, patch_props_call, patch_record}
use Rattle.dav_store.specs.Store.{Store}
use Rattle.dav_messages.specs.Dialogue.{Dialogue, Passed, Refuses, LeadsTo, Judges, Reaches, ◌>>=◌}
use Rattle.dav_messages.specs.Dialogues.{LeadsTo-last, judges_exit, judges_then, judges_left, judges_pure, judges_memory, reaches_none, reaches_then}
use Rattle.dav_messages.specs.Reply.{Answer}
use Rattle.dav_props.specs.Update.{Change, update_verdict, some_refused, patch_of, patches_of, is_dead, failed_report}
use Rattle.dav_props.specs.Propstat.{grouped}
use Rattle.dav_props.specs.UpdateLaws.{patch_whole}
use Rattle.dav_engine.specs.Patching.{StoresChanges, IsUnmade, Patching}
use Rattle.dav_engine.specs.Proppatch.{Update, proppatch_reply, found_rules, unless_some_refused, proppatch_rules, stored_answer}
use Rattle.dav_engine.specs.Rules.{judged, must_find, is_permitted}
use Rattle.dav_engine.specs.State.{State}
use Rattle.dav_engine.proofs.Deleting.{judges_known}
use Rattle.dav_engine.proofs.Passing.{judged_passed, path_passed, path_value, found_passed}

-- ---- what the rules have seen to, where they are passed

pub record UpdatePassed (profile : Profile) (keeps : Bool) (request : DavRequest) (state : State) (update : Update) : Type 0 where
  pub permitted : is_permitted request state request.path.key false ≡ true
  pub known : update.0 ≡ state.contents.metas request.path.key
  pub read : update_verdict profile keeps request.body ≡ Ok update.1
  pub none_refused : some_refused update.1 ≡ false

-- what was found is what is there
pub found_known : (request : DavRequest) (state : State) (head : List Logged) (found : Option Meta) → LeadsTo (found_rules request state) head (Passed found) → found ≡ state.contents.metas request.path.key
found_known request state head found h =
    let looked = LeadsTo-last (must_find state.contents request.path.key) _ head found h in
    path_value request state (Some looked.0) looked.2 found looked.4 ∙ sym (found_passed state.contents request.path.key looked.0 looked.1 looked.3)

decided : {A : Type 0} (refused : Bool) (answer : Answer) (a b : A) (records : List Logged) → LeadsTo (if refused then Refuses answer else Passed a) records (Passed b) → (refused ≡ false) × (b ≡ a)
decided true answer a b [] h = absurd cc
decided true answer a b (r ∷ records) h = absurd h
decided false answer a b [] h = (refl, cc)
decided false answer a b (r ∷ records) h = absurd h

pub update_passed : (profile : Profile) (keeps : Bool) (request : DavRequest) (state : State) (head : List Logged) (update : Update) → LeadsTo (proppatch_rules profile keeps request state) head (Passed update) → UpdatePassed profile keeps request state update
update_passed profile keeps request state head update h =
    let found = LeadsTo-last (found_rules request state) _ head update h in
    let looked = LeadsTo-last (must_find state.contents request.path.key) _ found.1 found.0 found.3 in
    let read = LeadsTo-last (judged (update_verdict profile keeps request.body)) (unless_some_refused profile request found.0) found.2 update found.4 in
    let none = decided (some_refused read.0) _ (found.0, read.0) update read.2 read.4 in
    record {
      permitted = path_passed request state (Some looked.0) looked.2 found.0 looked.4;
      known = ap (λ (u : Update). u.0) none.1 ∙ found_known request state found.1 found.0 found.3;
      read = judged_passed (update_verdict profile keeps request.body) read.0 read.1 read.3 ∙ ap (λ (u : Update). Ok u.1) (sym none.1);
      none_refused = ap (λ (u : Update). some_refused u.1) none.1 ∙ none.0;
    }

-- ---- the rules, judged

module _ (profile : Profile) (keeps : Bool) (request : DavRequest) (state : State) (old mid : Store) where
  -- a rule before the body refuses
  pub judges_unfound : (e : DavError) → Judges (found_rules request state) old (Err e) mid → Judges (proppatch_rules profile keeps request state) old (Err e) mid
  judges_unfound e h = judges_exit _ (found_rules request state) old mid e (Err e) refl h

  module _ (found : Option Meta) (h : Judges (found_rules request state) old (Ok found) mid) where
    abbrev read : Dialogue (List Change)
    read = judged (update_verdict profile keeps request.body)

    -- the body can't be read, or memory ran out
    pub judges_unreadable : (e : DavError) → (update_verdict profile keeps request.body ≡ Err e) ⊎ (e ≡ Memory) → Judges (proppatch_rules profile keeps request state) old (Err e) mid
    judges_unreadable e (inl wrong) = judges_then _ (found_rules request state) old mid mid found (Err e) h (judges_exit _ read mid mid e (Err e) refl (judges_known (update_verdict profile keeps request.body) (Err e) mid wrong))
    judges_unreadable e (inr memory) = judges_then _ (found_rules request state) old mid mid found (Err e) h (judges_memory (read >>= unless_some_refused profile request found) mid (Err e) memory)

    module _ (changes : List Change) (asked : update_verdict profile keeps request.body ≡ Ok changes) where
      reached : Reaches (proppatch_rules profile keeps request state) old (unless_some_refused profile request found changes) mid
      reached =
          reaches_then (proppatch_rules profile keeps request state) read (unless_some_refused profile request found) old mid mid changes
          (reaches_then (proppatch_rules profile keeps request state) (found_rules request state) _ old old mid found (reaches_none (proppatch_rules profile keeps request state) old) h)
          (judges_known (update_verdict profile keeps request.body) (Ok changes) mid asked)

      -- memory ran out behind that
      pub judges_untold : Judges (proppatch_rules profile keeps request state) old (Err Memory) mid
      judges_untold = judges_left _ (unless_some_refused profile request found changes) old mid mid (Err Memory) reached (judges_memory (unless_some_refused profile request found changes) mid (Err Memory) refl)

      -- a change is refused
      pub reaches_refusal : some_refused changes ≡ true → Reaches (proppatch_rules profile keeps request state) old (Refuses (Ok (proppatch_reply profile request.path found (grouped (failed_report changes))))) mid
      reaches_refusal refused = rw refused at reached

      -- none is
      pub judges_update : some_refused changes ≡ false → Judges (proppatch_rules profile keeps request state) old (Ok (found, changes)) mid
      judges_update none = judges_left _ (Passed (found, changes)) old mid mid (Ok (found, changes)) (rw none at reached) (judges_pure (Passed (found, changes)) mid (Ok (found, changes)) refl)

-- ---- the store is asked

-- what is to be set has its element
pub all_whole : (changes : List Change) → All IsWhole (patches_of changes)
all_whole changes = All-map IsWhole patch_of (filter is_dead changes) (λ index other less. patch_whole (get_or (filter is_dead changes) index other))

module _ (key : Key) where
  -- there is nothing to ask for
  pub stores_nothing : (patches : List Patch) (store : Store) → patches ≡ [] → StoresChanges key patches store (Ok []) store
  stores_nothing patches store none = rw none (record { records = []; logged = sym (append-nil store.log); fixed = refl; stored = record { none = refl; returns_none = refl; same = refl } })

  -- it has answered a status for each
  pub stores : (patches : List Patch) (old new : Store) (statuses : List ℕ) → patches ≢ [] → Patches key patches statuses old new ⊎ DropsPatches key patches statuses old new → StoresChanges key patches old (Ok statuses) new
  stores [] old new statuses some h = absurd (some refl)
  stores (patch ∷ patches) old new statuses some (inl h) = record {
    records = patch_record key Granted statuses ∷ [];
    logged = h.recorded;
    fixed = h.fixed;
    stored = inl (record { allowed = h.allowed; called = ap (λ s. patch_record key Granted s ∷ []) h.answered; returns_all = ap Ok h.answered; made = h.effect });
  }
  stores (patch ∷ patches) old new statuses some (inr h) = record {
    records = patch_record key (Refused fs_errors.GeneralFailure) statuses ∷ [];
    logged = h.recorded;
    fixed = h.fixed;
    stored = inr (inl (record { statuses = statuses; each = h.answered; not_all = h.not_all; called = refl; returns_each = refl; same = h.same }));
  }

  -- it has refused the call, or had no memory for it
  pub unmade : (patches : List Patch) (old new : Store) (e : FsError) → patches ≢ [] → ((e ≡ fs_errors.Memory) × (new ≡ old)) ⊎ Declines (patch_props_call old key) e old new → IsUnmade key patches old (from_fs e) new
  unmade patches old new e some (inl h) = inl (ap from_fs h.0, h.1)
  unmade [] old new e some (inr h) = absurd (some refl)
  unmade (patch ∷ patches) old new e some (inr h) = inr (
    e,
    refl,
    record {
      records = record_of (patch_props_call old key) h.outcome ∷ [];
      logged = h.recorded;
      fixed = h.fixed;
      stored = inr (inr (record { error = e; outcome = h.outcome; cause = h.cause; lawful = h.lawful; called = refl; returns_error = refl; same = h.same }));
    },
  )

-- ---- the work

module _ (profile : Profile) (request : DavRequest) (update : Update) where
  -- memory ran out before the store was asked
  pub patch_unbegun : (store : Store) (answer : Answer) → answer ≡ Err Memory → Patching profile request update store answer store
  patch_unbegun store answer is = record { records = []; recorded = sym (append-nil store.log); fixed = refl; done = inr (is, inl (record { none = refl; same = refl })) }

  -- the store made nothing
  pub patch_unmade : (old new : Store) (e : DavError) (answer : Answer) → answer ≡ Err e → IsUnmade request.path.key (patches_of update.1) old e new → Patching profile request update old answer new
  patch_unmade old new e answer is (inl h) = rw h.1 (patch_unbegun old answer (is ∙ ap Err h.0))
  patch_unmade old new e answer is (inr (cause, error, h)) = record {
    records = h.records;
    recorded = h.logged;
    fixed = h.fixed;
    done = inl (record { store_answer = Err cause; stored = h.stored; answered = is ∙ ap Err error });
  }

  module _ (old new : Store) (statuses : List ℕ) (h : StoresChanges request.path.key (patches_of update.1) old (Ok statuses) new) (answer : Answer) where
    -- it has answered, and memory ran out behind that
    pub patch_untold : answer ≡ Err Memory → Patching profile request update old answer new
    patch_untold is = record { records = h.records; recorded = h.logged; fixed = h.fixed; done = inr (is, inr (statuses, h.stored)) }

    -- it has answered, and that is reported
    pub patch_told : answer ≡ stored_answer profile request update (Ok statuses) → Patching profile request update old answer new
    patch_told is = record { records = h.records; recorded = h.logged; fixed = h.fixed; done = inl (record { store_answer = Ok statuses; stored = h.stored; answered = is }) }
