-- What follows for its caller from each step of a PROPFIND.
use Rattle.std.proofs.Common.{◌≡◌, ◌∙◌, ℕ, Bool, true, false, List, [], ◌∷◌, Some, Result, Ok, Err, refl, sym, ap, subst, if◌then◌else◌, arith}
use Rattle.dav_resource.specs.declared.profile.Profile.{Profile}
use Rattle.dav_resource.specs.declared.error.DavError.{DavError}
use Rattle.dav_resource.specs.declared.error.DavError.TheVariants.{Memory}
use Rattle.dav_resource.specs.declared.error.FsError.{FsError}
use Rattle.dav_resource.specs.declared.meta.Meta.{Meta}
use Rattle.dav_resource.specs.declared.request.DavRequest.{DavRequest}
use Rattle.dav_headers.specs.Client.{user_agent_of}
use Rattle.dav_store.specs.Logged.{Logged}
use Rattle.dav_store.specs.Members.{IsIn}
use Rattle.dav_store.specs.Store.{Bodies, IsWellFormed}
use Rattle.dav_messages.specs.Dialogue.{Dialogue, Passed, Refuses, LeadsTo, ◌>>=◌}
use Rattle.dav_messages.specs.Dialogues.{LeadsTo-last}
use Rattle.dav_messages.specs.Reply.{Reply, Answer}
use Rattle.dav_find.specs.Asked.{Asking, asking_of}
use Rattle.dav_find.specs.AskedOnceLaws.{asks_each_once, prop_unlisted}
use Rattle.dav_find.specs.NamedLaws.{reports_named}
use Rattle.dav_find.specs.OrderedLaws.{reports_in_order}
use Rattle.dav_find.specs.Range.{ReportsRange}
use Rattle.dav_find.specs.RangeKeys.{in_right}
use Rattle.dav_find.specs.RangeLaws.{reports_range, range_behind}
use Rattle.dav_find.specs.RangeSteps.{HasNoListing, AsksNoListing, no_listing_then, leads_to_none, reported_keys}
use Rattle.dav_find.specs.Reported.{AreReported}
use Rattle.dav_find.specs.ReportedLaws.{reports_each}
use Rattle.dav_engine.specs.Laws.{ReportsItsRange, PropfindLaw}
use Rattle.dav_engine.specs.Method.{StepBy, Refused, Done, CutShort, CutInWork}
use Rattle.dav_engine.specs.Methods.{propfind_method}
use Rattle.dav_engine.specs.Propfind.{is_too_deep, finite_depth_reply, propfind_reply, propfind_rules, sought_rules, view_in, target_at, depth_or_default}
use Rattle.dav_engine.specs.Rules.{judged, lookup_result, or_refused, must_find}
use Rattle.dav_engine.specs.Settings.{Settings}
use Rattle.dav_engine.specs.State.{State, IsLawfulState}
use Rattle.dav_engine.proofs.Passing.{found_passed}
use Rattle.dav_engine.proofs.Propfinding.{propfind_unchanged}
use Rattle.dav_engine.proofs.Refusals.{AnyError, RefusesBy, errs_then, errs_led, errs_judged, errs_told}

-- ---- the rules list nothing, and pass what is there

judged_lists_none : {A : Type 0} (verdict : Result A DavError) → AsksNoListing (judged verdict)
judged_lists_none (Ok a) = tt
judged_lists_none (Err e) = tt

refused_lists_none : {A : Type 0} (recorded : Result A FsError) → AsksNoListing (or_refused recorded)
refused_lists_none (Ok a) = tt
refused_lists_none (Err e) = tt

module _ (profile : Profile) (held : Bodies) (request : DavRequest) (state : State) where
  abbrev wanted : Meta → Dialogue (Meta × Asking)
  wanted meta = judged (asking_of held request.body (user_agent_of request.headers)) >>= λ asking. Passed (meta, asking)

  sought_lists_none : AsksNoListing (sought_rules held request state)
  sought_lists_none =
      no_listing_then (must_find state.contents request.path.key) wanted (refl, λ outcome. refused_lists_none (lookup_result outcome (state.contents.metas request.path.key)))
      (λ meta. no_listing_then (judged (asking_of held request.body (user_agent_of request.headers))) _ (judged_lists_none (asking_of held request.body (user_agent_of request.headers))) (λ asking. tt))

  errs_sought : RefusesBy AnyError (sought_rules held request state)
  errs_sought =
      errs_then AnyError (must_find state.contents request.path.key) wanted (λ outcome. errs_told AnyError (λ e. tt) (lookup_result outcome (state.contents.metas request.path.key)))
      (λ meta. errs_then AnyError (judged (asking_of held request.body (user_agent_of request.headers))) _ (errs_judged (asking_of held request.body (user_agent_of request.headers))) (λ asking. tt))

  -- what the rules pass is what is there
  record PassedRules (head : List Logged) (found : Meta × Asking) : Type 0 where
    none : HasNoListing head
    there : state.contents.metas request.path.key ≡ Some found.0
    asked : asking_of held request.body (user_agent_of request.headers) ≡ Ok found.1

  passed_sought : (head : List Logged) (found : Meta × Asking) → LeadsTo (sought_rules held request state) head (Passed found) → PassedRules head found
  passed_sought head found led =
      let p = LeadsTo-last (must_find state.contents request.path.key) wanted head found led in
      let q = LeadsTo-last (judged (asking_of held request.body (user_agent_of request.headers))) _ p.2 found p.4 in
      record {
        none = leads_to_none (sought_rules held request state) (Passed found) head sought_lists_none led;
        there = found_passed state.contents request.path.key p.0 p.1 p.3 ∙ ap Some (meta_is p.0 q.0 q.2 q.4);
        asked = judged_is (asking_of held request.body (user_agent_of request.headers)) q.0 q.1 q.3 ∙ ap Ok (asked_is p.0 q.0 q.2 q.4);
      }
    where
      judged_is : (verdict : Result Asking DavError) (asking : Asking) (rest : List Logged) → LeadsTo (judged verdict) rest (Passed asking) → verdict ≡ Ok asking
      judged_is (Ok a) asking [] end = let same : asking ≡ a = cc in ap Ok (sym same)
      judged_is (Err e) asking [] end = absurd cc
      judged_is (Ok a) asking (r ∷ rest) end = absurd end
      judged_is (Err e) asking (r ∷ rest) end = absurd end

      asked_is : (meta : Meta) (asking : Asking) (rest : List Logged) → LeadsTo (Passed (meta, asking)) rest (Passed found) → asking ≡ found.1
      asked_is meta asking [] end = let same : found ≡ (meta, asking) = cc in ap (λ (f : Meta × Asking). f.1) (sym same)
      asked_is meta asking (r ∷ rest) end = absurd end

      meta_is : (meta : Meta) (asking : Asking) (rest : List Logged) → LeadsTo (Passed (meta, asking)) rest (Passed found) → meta ≡ found.0
      meta_is meta asking [] end = let same : found ≡ (meta, asking) = cc in ap (λ (f : Meta × Asking). f.0) (sym same)
      meta_is meta asking (r ∷ rest) end = absurd end

  passed_rules : (head : List Logged) (found : Meta × Asking) → LeadsTo (propfind_rules profile held request state) head (Passed found) → PassedRules head found
  passed_rules head found led = by_depth (is_too_deep request) refl led
    where
      none_passed : (records : List Logged) → LeadsTo (Refuses (Ok (finite_depth_reply profile))) records (Passed found) → PassedRules head found
      none_passed [] end = absurd cc
      none_passed (r ∷ records) end = absurd end

      by_depth : (deep : Bool) → is_too_deep request ≡ deep → LeadsTo (if deep then Refuses (Ok (finite_depth_reply profile)) else sought_rules held request state) head (Passed found) → PassedRules head found
      by_depth true is end = none_passed head end
      by_depth false is end = passed_sought head found end

  -- a reply of the rules is that of 501
  refused_rules : (records : List Logged) (reply : Reply) → LeadsTo (propfind_rules profile held request state) records (Refuses (Ok reply)) → reply ≡ (finite_depth_reply profile)
  refused_rules records reply led = by_depth (is_too_deep request) led
    where
      finite : (rs : List Logged) → LeadsTo {A = Meta × Asking} (Refuses (Ok (finite_depth_reply profile))) rs (Refuses (Ok reply)) → reply ≡ (finite_depth_reply profile)
      finite [] end = cc
      finite (r ∷ rs) end = absurd end

      by_depth : (deep : Bool) → LeadsTo (if deep then Refuses (Ok (finite_depth_reply profile)) else sought_rules held request state) records (Refuses (Ok reply)) → reply ≡ (finite_depth_reply profile)
      by_depth true end = finite records end
      by_depth false end = let e = errs_led AnyError (sought_rules held request state) records (Ok reply) errs_sought end in absurd (let no = e.1 in cc)

-- ---- each step

not_both : (status : ℕ) → status ≡ 501 → status ≡ 207 → ⊥
not_both status one other = omega (arith, one, other)

module _ (settings : Settings) (request : DavRequest) (old new : State) (formed : IsWellFormed old.contents) where
  step_tells : (records : List Logged) (answer : Answer) → StepBy propfind_method settings request old records answer new → ReportsItsRange settings request old records answer
  step_tells records answer (Refused h) reply is recorded =
      let finite : reply ≡ finite_depth_reply settings.profile = refused_rules settings.profile settings.facts.bodies request old records reply (subst (λ a. LeadsTo (propfind_rules settings.profile settings.facts.bodies request old) records (Refuses a)) is h.head) in
      absurd (not_both reply.status (ap (λ (r : Reply). r.status) finite) recorded)
  step_tells records answer (Done h) reply is recorded =
      let passed = passed_rules settings.profile settings.facts.bodies request old h.head h.found h.passed in
      let each : AreReported (view_in settings request old h.found.1.kind) old.contents h.found.1.asked request.path h.work.visits =
      reports_each old.contents formed request.path (view_in settings request old h.found.1.kind) h.found.1.asked (target_at request h.found.0) (depth_or_default request) h.rest h.work.visits h.work.searches passed.there refl in
      record {
        found = h.found;
        visits = h.work.visits;
        shown = let same : Ok reply ≡ Ok (propfind_reply settings.profile request h.found h.work.visits) = sym is ∙ h.work.answered in cc;
        range = subst (λ rs. ReportsRange old.contents (depth_or_default request) request.path.key rs (reported_keys h.work.visits)) (sym h.cut)
            (range_behind old.contents (depth_or_default request) request.path.key h.head h.rest (reported_keys h.work.visits) passed.none
            (reports_range old.contents formed (view_in settings request old h.found.1.kind) h.found.1.asked (target_at request h.found.0) (depth_or_default request) h.rest h.work.visits h.work.searches passed.there));
        there = passed.there;
        order = reports_in_order (view_in settings request old h.found.1.kind) old.contents h.found.1.asked records (target_at request h.found.0) (depth_or_default request) h.rest h.work.visits h.work.searches
            (λ r i. subst (IsIn r) (sym h.cut) (in_right r h.head h.rest i));
        each = each;
        named = reports_named (view_in settings request old h.found.1.kind) old.contents h.found.1.asked request.path h.work.visits formed
            (prop_unlisted settings.facts.bodies (user_agent_of request.headers) request.body h.found.1 passed.asked) each;
        wanted = passed.asked;
        asked = asks_each_once settings.facts.bodies (user_agent_of request.headers) request.body h.found.1 passed.asked;
      }
  step_tells records answer (CutShort h) reply is recorded = absurd (let no : Ok reply ≡ Err Memory = sym is ∙ h.answered in cc)
  step_tells records answer (CutInWork h) reply is recorded = absurd (let no : Ok reply ≡ Err Memory = sym is ∙ h.answered in cc)

pub propfind_law : {settings : Settings} {request : DavRequest} {old new : State} {records : List Logged} {answer : Answer} → IsLawfulState old → StepBy propfind_method settings request old records answer new → PropfindLaw settings request old records answer new
propfind_law {settings} {request} {old} {new} {records} {answer} lawful step = record {
  unchanged = propfind_unchanged settings request old records answer new step;
  range = step_tells settings request old new lawful.contents records answer step;
}
