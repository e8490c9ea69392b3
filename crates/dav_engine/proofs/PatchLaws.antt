-- What follows for its caller from each step of a PROPPATCH.
use Rattle.std.proofs.Common.{◌≡◌, ◌⊎◌, ◌∙◌, ◌==◌, ℕ, Bool, true, false, if◌then◌else◌, List, [], ◌∷◌, ◌++◌, map, Option, Some, None, Result, Ok, Err, inl, inr, refl, sym, ap, subst, length, replicate, unwrap_or, arith}
use Rattle.std.specs.FinMap.{get, empty, empty_of_len, len}
use Rattle.std.proofs.lemmas.Bool.Decides.{nat_tests}
use Rattle.std.proofs.lemmas.List.{length-replicate}
use Rattle.dav_resource.specs.declared.profile.Profile.{Profile}
use Rattle.dav_resource.specs.declared.error.FsError.{FsError}
use Rattle.dav_resource.specs.declared.meta.Meta.{Meta}
use Rattle.dav_resource.specs.declared.request.DavRequest.{DavRequest}
use Rattle.dav_store.specs.Logged.{Logged}
use Rattle.dav_store.specs.PropertyCalls.{Patch, HasTimes, IsPatchedAt, patched, properties_at, some_properties}
use Rattle.dav_store.specs.Store.{Contents, PropertyMap}
use Rattle.dav_messages.specs.Conditions.{conditions}
use Rattle.dav_messages.specs.Dialogue.{Dialogue, Asks, Refuses, Passed, LeadsTo, ◌>>=◌}
use Rattle.dav_messages.specs.Reply.{Reply, Answer}
use Rattle.dav_props.specs.Propstat.{grouped}
use Rattle.dav_props.specs.Update.{Change, update_verdict, some_refused, live_first, patches_of, failed_report, made_report}
use Rattle.dav_walks.specs.PutLaws.{put_at_here, put_at_elsewhere}
use Rattle.dav_engine.specs.Laws.{status_beside_refused, statuses_of, returned, all_ok, ChangesNothing, AreStored, StoresAllOrNothing, ReportsStored, ErrorsChangeNothing, StoresNothingBesideRefused, ProppatchLaw}
use Rattle.dav_engine.specs.Method.{StepBy, Refused, Done, CutShort, CutInWork}
use Rattle.dav_engine.specs.Methods.{proppatch_method}
use Rattle.dav_engine.specs.Proppatch.{Update, found_rules, unless_some_refused, proppatch_rules, proppatch_reply, stored_answer, MakesChanges}
use Rattle.dav_engine.specs.Rules.{judged, lookup_result, must_find, is_permitted}
use Rattle.dav_engine.specs.Settings.{Settings}
use Rattle.dav_engine.specs.State.{State, LocksStay, IsLawfulState}
use Rattle.dav_engine.proofs.Patching.{UpdatePassed, found_known, update_passed}
use Rattle.dav_engine.proofs.ChangeStatuses.{all_200, status_of, ok_statuses, beside_not_ok, ok_returned, ok_each, each_ok, failed_names, made_names, failed_statuses, made_statuses, passed, none_returned, work_returned, both_returned}
use Rattle.dav_engine.proofs.Passing.{judged_passed}
use Rattle.dav_engine.proofs.Refusals.{AnyError, RefusesBy, errs_then, errs_led, errs_judged, errs_told, errs_conditions, errs_permitted}

-- ---- the properties of a key

kept_properties : (properties : PropertyMap) → unwrap_or (some_properties properties) empty ≡ properties
kept_properties properties =
    elim (len properties == 0) as (λ b. (len properties == 0) ≡ b → unwrap_or (if b then None else Some properties) empty ≡ properties) [
      | true ↦ λ none. sym (empty_of_len properties (zero_is none))
      | false ↦ λ some. refl
    ] refl
  where
    zero_is : (len properties == 0) ≡ true → len properties ≡ 0
    zero_is none = grind (arith, nat_tests)

module _ (request : DavRequest) (changes : List Change) (old new : State) (locks : LocksStay old new) where
  stored_all : IsPatchedAt request.path.key (patches_of changes) old.contents new.contents → AreStored request changes old new
  stored_all made = record {
    here = ap (λ m. unwrap_or (get m request.path.key) empty) made.properties ∙ ap (λ o. unwrap_or o empty) (put_at_here old.contents.properties request.path.key _) ∙ kept_properties _;
    elsewhere = λ key apart. ap (λ m. unwrap_or (get m key) empty) made.properties ∙ ap (λ o. unwrap_or o empty) (put_at_elsewhere old.contents.properties request.path.key key _ apart);
    tree = made.tree;
    times = made.times;
    locks = locks;
  }

  -- there was nothing to store
  stored_none : patches_of changes ≡ [] → new.contents ≡ old.contents → AreStored request changes old new
  stored_none none same = record {
    here = ap (λ (c : Contents). properties_at c request.path.key) same ∙ ap (λ patches. patched patches (properties_at old.contents request.path.key)) (sym none);
    elsewhere = λ key apart. ap (λ (c : Contents). properties_at c key) same;
    tree = ap (λ (c : Contents). c.tree) same;
    times = subst (λ patches. HasTimes patches (new.contents.metas request.path.key)) (sym none) (record { modified = λ secs no. absurd cc; created = λ secs no. absurd cc });
    locks = locks;
  }

same_state : (old new : State) → new ≡ old → ChangesNothing old new
same_state old new same = record { contents = ap (λ (s : State). s.contents) same; locks = ap (λ (s : State). s.locks) same }

-- ---- the rules refuse by a reply only where a change is refused

-- a refusal of two dialogues is that of the first, or of the other
abbrev IsOfEither : {A B : Type 0} → Dialogue A → (A → Dialogue B) → List Logged → Answer → Type 0
IsOfEither {A} first after records answer = LeadsTo first records (Refuses answer) ⊎ ((a : A) × (head rest : List Logged) × LeadsTo first head (Passed a) × LeadsTo (after a) rest (Refuses answer))

led_refused : {A B : Type 0} (first : Dialogue A) (after : A → Dialogue B) (records : List Logged) (answer : Answer) → LeadsTo (first >>= after) records (Refuses answer) → IsOfEither first after records answer
unfolding ◌>>=◌
led_refused (Asks call next) after [] answer h = absurd cc
led_refused (Refuses other) after [] answer h = inl (let same : answer ≡ other = cc in ap Refuses same)
led_refused (Passed a) after [] answer h = inr (a, [], [], refl, h)
led_refused (Asks call next) after (logged ∷ records) answer h = further (led_refused (next logged.outcome) after records answer h.2)
  where
    further : IsOfEither (next logged.outcome) after records answer → IsOfEither (Asks call next) after (logged ∷ records) answer
    further (inl led) = inl (h.0, h.1, led)
    further (inr (a, head, rest, led, more)) = inr (a, logged ∷ head, rest, (h.0, h.1, led), more)
led_refused (Refuses other) after (logged ∷ records) answer h = absurd h
led_refused (Passed a) after (logged ∷ records) answer h = inr (a, [], logged ∷ records, refl, h)

errs_found : (request : DavRequest) (state : State) → RefusesBy AnyError (found_rules request state)
errs_found request state =
    errs_then AnyError (must_find state.contents request.path.key) _ (λ outcome. errs_told AnyError (λ e. tt) (lookup_result outcome (state.contents.metas request.path.key)))
    (λ meta. errs_then AnyError (conditions state.contents state.locks request (Some meta) request.path) _ (errs_conditions AnyError (λ s least. tt) state.contents state.locks request (Some meta) request.path)
    (λ _. errs_permitted AnyError (λ s least. tt) 423 (omega arith) (is_permitted request state request.path.key false) (Some meta)))

no_reply : {A : Type 0} (dialogue : Dialogue A) (records : List Logged) (reply : Reply) → RefusesBy AnyError dialogue → LeadsTo dialogue records (Refuses (Ok reply)) → ⊥
no_reply dialogue records reply errs led = let e = errs_led AnyError dialogue records (Ok reply) errs led in let no = e.1 in cc

decided : {A : Type 0} (refused : Bool) (answer other : Answer) (a : A) (records : List Logged) → LeadsTo (if refused then Refuses answer else Passed a) records (Refuses other) → (refused ≡ true) × (other ≡ answer)
decided true answer other a [] h = (refl, cc)
decided true answer other a (r ∷ records) h = absurd h
decided false answer other a [] h = absurd cc
decided false answer other a (r ∷ records) h = absurd h

record RepliesRefused (profile : Profile) (keeps : Bool) (request : DavRequest) (state : State) (reply : Reply) : Type 0 where
  changes : List Change
  asked : update_verdict profile keeps request.body ≡ Ok changes
  refused : some_refused changes ≡ true
  shown : reply ≡ proppatch_reply profile request.path (state.contents.metas request.path.key) (grouped (failed_report changes))

module _ (profile : Profile) (keeps : Bool) (request : DavRequest) (state : State) (reply : Reply) where
  by_changes : (found : Option Meta) (records : List Logged) → found ≡ state.contents.metas request.path.key → LeadsTo (judged (update_verdict profile keeps request.body) >>= unless_some_refused profile request found) records (Refuses (Ok reply)) → RepliesRefused profile keeps request state reply
  by_changes found records known led = by_read (led_refused (judged (update_verdict profile keeps request.body)) (unless_some_refused profile request found) records (Ok reply) led)
    where
      by_read : IsOfEither (judged (update_verdict profile keeps request.body)) (unless_some_refused profile request found) records (Ok reply) → RepliesRefused profile keeps request state reply
      by_read (inl unread) = absurd (no_reply (judged (update_verdict profile keeps request.body)) records reply (errs_judged (update_verdict profile keeps request.body)) unread)
      by_read (inr (changes, head, rest, read, end)) =
          let is = decided (some_refused changes) _ (Ok reply) (found, changes) rest end in
          let shown : reply ≡ proppatch_reply profile request.path found (grouped (failed_report changes)) = let same = is.1 in cc in
          record { changes = changes; asked = judged_passed (update_verdict profile keeps request.body) changes head read; refused = is.0; shown = shown ∙ ap (λ m. proppatch_reply profile request.path m (grouped (failed_report changes))) known }

  replies_refused : (records : List Logged) → LeadsTo (proppatch_rules profile keeps request state) records (Refuses (Ok reply)) → RepliesRefused profile keeps request state reply
  replies_refused records led = by_found (led_refused (found_rules request state) _ records (Ok reply) led)
    where
      by_found : IsOfEither (found_rules request state) (λ found. judged (update_verdict profile keeps request.body) >>= unless_some_refused profile request found) records (Ok reply) → RepliesRefused profile keeps request state reply
      by_found (inl none) = absurd (no_reply (found_rules request state) records reply (errs_found request state) none)
      by_found (inr (found, head, rest, led, more)) = by_changes found rest (found_known request state head found led) more

-- ---- each step

module _ (settings : Settings) (request : DavRequest) (old : State) (records : List Logged) where
  abbrev profile : Profile
  profile = settings.profile

  abbrev keeps : Bool
  keeps = settings.facts.keeps_properties

  -- what the store returned in this request
  abbrev here : List ℕ
  here = returned request.path.key records

  statuses_by : (changes : List Change) (refused : Bool) → some_refused changes ≡ refused → statuses_of changes here ≡ (if refused then map status_beside_refused (live_first changes) else passed changes ++ here)
  statuses_by changes refused is = ap (λ b. if b then map status_beside_refused (live_first changes) else passed changes ++ here) is

  module _ (update : Update) (new : State) (seen : UpdatePassed profile keeps request old update) (locks : LocksStay old new) (rest : List Logged) (statuses : List ℕ) (reply : Reply)
      (shown : reply ≡ proppatch_reply profile request.path update.0 (grouped (made_report update.1 statuses))) (is_returned : here ≡ statuses) where
    tells : length statuses ≡ length (patches_of update.1) → (all_200 statuses ≡ true → AreStored request update.1 old new) → (all_200 statuses ≡ false → ChangesNothing old new) → StoresAllOrNothing settings request old records reply new
    tells count stored unstored = record {
      changes = update.1;
      asked = seen.read;
      reported = made_report update.1 statuses;
      each = made_names update.1 statuses count;
      own = own ∙ ap (λ more. passed update.1 ++ more) (sym is_returned) ∙ sym (statuses_by update.1 false seen.none_refused);
      shown = shown ∙ ap (λ m. proppatch_reply profile request.path m (grouped (made_report update.1 statuses))) seen.known;
      stored = λ ok. stored (sym is_ok ∙ ok);
      unstored = λ not_ok. unstored (sym is_ok ∙ not_ok);
    }
      where
        own : map status_of (made_report update.1 statuses) ≡ passed update.1 ++ statuses
        own = made_statuses update.1 statuses seen.none_refused count

        is_ok : all_ok (made_report update.1 statuses) ≡ all_200 statuses
        is_ok = ok_statuses (made_report update.1 statuses) ∙ ap all_200 own ∙ ok_returned update.1 statuses

    tells_changes : (patches : List Patch) → patches_of update.1 ≡ patches → MakesChanges keeps request.path.key patches old.contents rest (Ok statuses) new.contents → StoresAllOrNothing settings request old records reply new
    tells_changes [] none asks =
        let recorded : statuses ≡ [] = let h = asks.returns_none in cc in
        tells (ap length recorded ∙ ap length (sym none)) (λ ok. stored_none request update.1 old new locks none asks.same) (λ not_ok. record { contents = asks.same; locks = locks })
    tells_changes (patch ∷ patches) is (inl all) =
        let recorded : statuses ≡ replicate (length (patch ∷ patches)) 200 = let h = all.returns_all in cc in
        tells (ap length recorded ∙ length-replicate (length (patch ∷ patches)) 200 ∙ ap length (sym is)) (λ ok. stored_all request update.1 old new locks (rw is all.made))
        (λ not_ok. let no : false ≡ true = sym not_ok ∙ ap all_200 recorded ∙ ok_each (length (patch ∷ patches)) in absurd cc)
    tells_changes (patch ∷ patches) is (inr (inl none)) =
        let recorded : statuses ≡ none.statuses = let h = none.returns_each in cc in
        tells (ap length recorded ∙ none.each ∙ ap length (sym is))
        (λ ok. absurd (none.not_all (sym recorded ∙ each_ok statuses ok ∙ ap (λ count. replicate count 200) (ap length recorded ∙ none.each))))
        (λ not_ok. record { contents = none.same; locks = locks })
    tells_changes (patch ∷ patches) is (inr (inr refused)) = let no = refused.returns_error in absurd cc

  patch_tells : (answer : Answer) (new : State) → StepBy proppatch_method settings request old records answer new → ReportsStored settings request old records answer new
  patch_tells answer new (Refused h) reply is =
      let r = replies_refused profile keeps request old reply records (subst (λ a. LeadsTo (proppatch_rules profile keeps request old) records (Refuses a)) is h.head) in
      record {
        changes = r.changes;
        asked = r.asked;
        reported = failed_report r.changes;
        each = failed_names r.changes;
        own = failed_statuses r.changes ∙ sym (statuses_by r.changes true r.refused);
        shown = r.shown;
        stored = λ ok. absurd (beside_not_ok r.changes r.refused (sym (ok_statuses (failed_report r.changes) ∙ ap all_200 (failed_statuses r.changes)) ∙ ok));
        unstored = λ not_ok. same_state old new h.same;
      }
  patch_tells answer new (Done h) reply is = by_reported h.work.0.store_answer h.work.0.stored h.work.0.answered
    where
      seen : UpdatePassed profile keeps request old h.found
      seen = update_passed profile keeps request old h.head h.found h.passed

      by_reported : (recorded : Result (List ℕ) FsError) → MakesChanges keeps request.path.key (patches_of h.found.1) old.contents h.rest recorded new.contents → answer ≡ stored_answer profile request h.found recorded → StoresAllOrNothing settings request old records reply new
      by_reported (Ok statuses) made answered =
          tells_changes h.found new seen h.work.1 h.rest statuses reply (let same = sym is ∙ answered in cc)
          (both_returned request.path.key records h.head h.rest h.cut (none_returned request.path.key (proppatch_rules profile keeps request old) h.head (Passed h.found) h.passed) ∙ work_returned keeps request.path.key (patches_of h.found.1) old.contents h.rest statuses new.contents made)
          (patches_of h.found.1) refl made
      by_reported (Err e) made answered = let no = sym is ∙ answered in absurd cc
  patch_tells answer new (CutShort h) reply is = let no = sym is ∙ h.answered in absurd cc
  patch_tells answer new (CutInWork h) reply is = let no = sym is ∙ h.answered in absurd cc

  patch_kept : (answer : Answer) (new : State) → StepBy proppatch_method settings request old records answer new → ErrorsChangeNothing old answer new
  patch_kept answer new (Refused h) e is other = same_state old new h.same
  patch_kept answer new (Done h) e is other = by_reported h.work.0.store_answer (patches_of h.found.1) h.work.0.stored h.work.0.answered
    where
      by_reported : (recorded : Result (List ℕ) FsError) (patches : List Patch) → MakesChanges keeps request.path.key patches old.contents h.rest recorded new.contents → answer ≡ stored_answer profile request h.found recorded → ChangesNothing old new
      by_reported (Ok statuses) patches made answered = let no = sym is ∙ answered in absurd cc
      by_reported (Err cause) [] none answered = record { contents = none.same; locks = h.work.1 }
      by_reported (Err cause) (patch ∷ patches) (inl all) answered = let no = all.returns_all in absurd cc
      by_reported (Err cause) (patch ∷ patches) (inr (inl none)) answered = record { contents = none.same; locks = h.work.1 }
      by_reported (Err cause) (patch ∷ patches) (inr (inr refused)) answered = record { contents = refused.same; locks = h.work.1 }
  patch_kept answer new (CutShort h) e is other = same_state old new h.same
  patch_kept answer new (CutInWork h) e is other = absurd (other (let same = sym is ∙ h.answered in cc))

  -- where all rules are passed, no change is refused
  unrefused : (update : Update) (head : List Logged) → LeadsTo (proppatch_rules profile keeps request old) head (Passed update) → (changes : List Change) → update_verdict profile keeps request.body ≡ Ok changes → some_refused changes ≡ true → ⊥
  unrefused update head led changes asked refused =
      let passed = update_passed profile keeps request old head update led in
      let same : changes ≡ update.1 = let both = sym asked ∙ passed.read in cc in
      let no : true ≡ false = sym refused ∙ ap some_refused same ∙ passed.none_refused in
      cc

  patch_refused : (answer : Answer) (new : State) → StepBy proppatch_method settings request old records answer new → StoresNothingBesideRefused settings request old new
  patch_refused answer new (Refused h) changes asked refused = same_state old new h.same
  patch_refused answer new (Done h) changes asked refused = absurd (unrefused h.found h.head h.passed changes asked refused)
  patch_refused answer new (CutShort h) changes asked refused = same_state old new h.same
  patch_refused answer new (CutInWork h) changes asked refused = absurd (unrefused h.found h.head h.passed changes asked refused)

pub proppatch_law : {settings : Settings} {request : DavRequest} {old new : State} {records : List Logged} {answer : Answer} → IsLawfulState old → StepBy proppatch_method settings request old records answer new → ProppatchLaw settings request old records answer new
proppatch_law {settings} {request} {old} {new} {records} {answer} lawful step = record {
  stored = patch_tells settings request old records answer new step;
  kept = patch_kept settings request old records answer new step;
  refused = patch_refused settings request old records answer new step;
}
