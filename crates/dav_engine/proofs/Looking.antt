-- The rules of every method make no call but lookups.
use Rattle.std.proofs.Common.{◌≡◌, inl, inr, refl, sym, ap, Bool, true, false, if◌then◌else◌, List, [], ◌∷◌, ℕ, Option, Some, None, Result, Ok, Err, ◌∙◌}
use Rattle.dav_key.specs.Key.{Key}
use Rattle.dav_resource.specs.PathText.{PathValue}
use Rattle.dav_resource.specs.declared.profile.Profile.{Profile}
use Rattle.dav_resource.specs.declared.error.DavError.{DavError}
use Rattle.dav_resource.specs.declared.error.FsError.{FsError}
use Rattle.dav_resource.specs.declared.meta.Meta.{Meta}
use Rattle.dav_resource.specs.declared.record.Op.TheVariants.{Metadata}
use Rattle.dav_resource.specs.declared.record.Outcome.{Outcome}
use Rattle.dav_resource.specs.declared.request.DavRequest.{DavRequest}
use Rattle.dav_headers.specs.IfHeader.{if_of}
use Rattle.dav_headers.specs.declared.if_header.IfCondition.{IfCondition}
use Rattle.dav_headers.specs.declared.if_header.IfItem.{IfItem}
use Rattle.dav_headers.specs.declared.if_header.IfItem.TheVariants.{StateToken, ETag as EntityTag}
use Rattle.dav_headers.specs.declared.if_header.IfList.{IfList}
use Rattle.dav_store.specs.Logged.{Logged}
use Rattle.dav_store.specs.Members.{IsIn}
use Rattle.dav_store.specs.Store.{Contents, Bodies}
use Rattle.dav_store.specs.declared.lock.DavLock.{DavLock}
use Rattle.dav_messages.specs.Conditions.{item_holds_at, condition_holds, all_hold, key_of_list, conditions_hold, any_holds, lists_hold, if_holds, while_true, until_true, unless_refused, tokens_where, http_verdict, dav_if_match, conditions}
use Rattle.dav_messages.specs.Dialogue.{Dialogue, Asks, Refuses, Passed, LeadsTo, look_up, refusing, ◌>>=◌}
use Rattle.dav_engine.specs.Delete.{delete_rules}
use Rattle.dav_engine.specs.Locking.{is_refresh, lock_rules, look_up_to_lock, refresh_rules, new_lock_rules}
use Rattle.dav_engine.specs.Options.{options_rules}
use Rattle.dav_engine.specs.Propfind.{is_too_deep, propfind_rules, sought_rules}
use Rattle.dav_engine.specs.Proppatch.{found_rules, proppatch_rules}
use Rattle.dav_props.specs.Update.{some_refused}
use Rattle.dav_engine.specs.Put.{put_rules}
use Rattle.dav_engine.specs.Rules.{judged, or_refused, where_permitted, must_find, look_up_result, own_conditions, own_if, own_if_match, holding, path_rules, shallow_rules, closing}
use Rattle.dav_engine.specs.Settings.{Settings}
use Rattle.dav_engine.specs.State.{State}
use Rattle.dav_engine.specs.Transferring.{transfer_rules, see_destination, must_have_parent}
use Rattle.dav_engine.specs.Unlocking.{unlock_rules}

-- every call of the dialogue is a lookup
abbrev pub OnlyLookups : {A : Type 0} → Dialogue A → Type 0
OnlyLookups (Asks call next) = (call.op ≡ Metadata) × ((outcome : Outcome) → OnlyLookups (next outcome))
OnlyLookups (Refuses answer) = Unit {0}
OnlyLookups (Passed a) = Unit {0}

-- the records are of lookups
abbrev pub AreLookups : List Logged → Type 0
AreLookups records = (call : Logged) → IsIn call records → call.op ≡ Metadata

-- so are its records
pub looks_led : {A : Type 0} (dialogue left : Dialogue A) (records : List Logged) → OnlyLookups dialogue → LeadsTo dialogue records left → AreLookups records
looks_led dialogue left [] h leads call i = absurd i
looks_led (Asks asked next) left (first ∷ records) h leads call (inl is) = ap (λ (r : Logged). r.op) (sym is ∙ leads.0) ∙ h.0
looks_led (Asks asked next) left (first ∷ records) h leads call (inr i) = looks_led (next first.outcome) left records (h.1 first.outcome) leads.2 call i
looks_led (Refuses answer) left (first ∷ records) h leads call i = absurd leads
looks_led (Passed a) left (first ∷ records) h leads call i = absurd leads

-- ---- the parts of rules

looks_then : {A B : Type 0} (first : Dialogue A) (after : A → Dialogue B) → OnlyLookups first → ((a : A) → OnlyLookups (after a)) → OnlyLookups (first >>= after)
unfolding ◌>>=◌
looks_then (Asks call next) after h g = (h.0, λ outcome. looks_then (next outcome) after (h.1 outcome) g)
looks_then (Refuses answer) after h g = tt
looks_then (Passed a) after h g = g a

looks_refusing : {A : Type 0} (change : DavError → DavError) (dialogue : Dialogue A) → OnlyLookups dialogue → OnlyLookups (refusing change dialogue)
unfolding refusing
looks_refusing change (Asks call next) h = (h.0, λ outcome. looks_refusing change (next outcome) (h.1 outcome))
looks_refusing change (Refuses answer) h = tt
looks_refusing change (Passed a) h = tt

looks_judged : {A : Type 0} (verdict : Result A DavError) → OnlyLookups (judged verdict)
looks_judged (Ok a) = tt
looks_judged (Err e) = tt

looks_told : {A : Type 0} (recorded : Result A FsError) → OnlyLookups (or_refused recorded)
looks_told (Ok a) = tt
looks_told (Err e) = tt

looks_found : (contents : Contents) (key : Key) → OnlyLookups (must_find contents key)
looks_found contents key = (refl, λ outcome. looks_told _)

looks_if : {A : Type 0} (b : Bool) (one other : Dialogue A) → OnlyLookups one → OnlyLookups other → OnlyLookups (if b then one else other)
looks_if true one other h g = h
looks_if false one other h g = g

looks_permitted : {A : Type 0} (status : ℕ) (permitted : Bool) (a : A) → OnlyLookups (where_permitted status permitted a)
looks_permitted status true a = tt
looks_permitted status false a = tt

looks_unless : {A : Type 0} (refusal : Option ℕ) (next : Dialogue A) → OnlyLookups next → OnlyLookups (unless_refused refusal next)
looks_unless None next h = h
looks_unless (Some s) next h = tt

-- ---- the conditions

module _ (contents : Contents) (locks : Option (List DavLock)) where
  looks_item : (key : Option Key) (item : IfItem) → OnlyLookups (item_holds_at contents locks key item)
  looks_item None item = tt
  looks_item (Some key) (StateToken token) = tt
  looks_item (Some key) (EntityTag tag) = looks_then (look_up contents key) _ (refl, λ outcome. tt) (λ found. tt)

  looks_while : (holds : Bool) (rest : Dialogue Bool) → OnlyLookups rest → OnlyLookups (while_true holds rest)
  looks_while true rest h = h
  looks_while false rest h = tt

  looks_until : (holds : Bool) (rest : Dialogue Bool) → OnlyLookups rest → OnlyLookups (until_true holds rest)
  looks_until true rest h = tt
  looks_until false rest h = h

  looks_all : (key : Option Key) (list : List IfCondition) → OnlyLookups (all_hold contents locks key list)
  looks_all key [] = tt
  looks_all key (condition ∷ list) =
      looks_then (condition_holds contents locks key condition) _ (looks_then (item_holds_at contents locks key condition.item) _ (looks_item key condition.item) (λ holds. tt))
      (λ holds. looks_while holds (all_hold contents locks key list) (looks_all key list))

  looks_list : (key : Option Key) (list : List IfCondition) → OnlyLookups (conditions_hold contents locks key list)
  looks_list key [] = tt
  looks_list key (first ∷ others) = looks_all key (first ∷ others)

  looks_any : (path : PathValue) (before : Option Key) (lists : List IfList) → OnlyLookups (any_holds contents locks path before lists)
  looks_any path before [] = tt
  looks_any path before (list ∷ lists) =
      let about = key_of_list before path list.resource_tag in
      looks_then (conditions_hold contents locks about list.conditions) _ (looks_list about list.conditions)
      (λ holds. looks_until holds (any_holds contents locks path about lists) (looks_any path about lists))

  looks_lists : (path : PathValue) (lists : Option (List IfList)) → OnlyLookups (lists_hold contents locks path lists)
  looks_lists path None = tt
  looks_lists path (Some lists) = looks_any path (Some path.key) lists

  looks_tokens : (recorded : Bool × List (List ℕ)) → OnlyLookups (tokens_where recorded)
  looks_tokens recorded = looks_if recorded.0 (Passed recorded.1) (Refuses _) tt tt

  looks_dav_if : (request : DavRequest) (path : PathValue) → OnlyLookups (dav_if_match contents locks request path)
  looks_dav_if request path = looks_then (if_holds contents locks request path) _ (looks_lists path (if_of request.headers)) (λ holds. tt)

  looks_conditions : (request : DavRequest) (found : Option Meta) (path : PathValue) → OnlyLookups (conditions contents locks request found path)
  looks_conditions request found path =
      looks_unless (http_verdict request found) _ (looks_then (dav_if_match contents locks request path) tokens_where (looks_dav_if request path) looks_tokens)

-- ---- the rules

module _ (request : DavRequest) (state : State) where
  looks_own : (found : Option Meta) → OnlyLookups (own_conditions request state found)
  looks_own found = looks_conditions state.contents state.locks request found request.path

  looks_path : (found : Option Meta) → OnlyLookups (path_rules request state found)
  looks_path found = looks_then (own_conditions request state found) _ (looks_own found) (λ tokens. looks_permitted 423 _ found)

  pub shallow_looks : OnlyLookups (shallow_rules request state)
  shallow_looks = looks_then (look_up state.contents request.path.key) (path_rules request state) (refl, λ outcome. tt) looks_path

  pub put_looks : (held : Bodies) (partial : Bool) → OnlyLookups (put_rules held partial request state)
  put_looks held partial =
      looks_then (look_up_result state.contents request.path.key) _ (refl, λ outcome. tt) (λ looked.
      looks_then (judged _) _ (looks_judged _) (λ target.
      looks_then (refusing closing (path_rules request state _)) _ (looks_refusing closing (path_rules request state _) (looks_path _)) (λ found.
      looks_judged _)))

  pub delete_looks : OnlyLookups (delete_rules request state)
  delete_looks =
      looks_then (judged _) _ (looks_judged _) (λ depth.
      looks_then (must_find state.contents request.path.key) _ (looks_found state.contents request.path.key) (λ meta.
      looks_then (own_conditions request state (Some meta)) _ (looks_own (Some meta)) (λ tokens.
      looks_permitted 423 _ meta)))

  looks_destination : (destination : Key) → OnlyLookups (see_destination state.contents destination)
  looks_destination destination =
      looks_then (must_have_parent state.contents destination) _ (looks_then (look_up state.contents _) _ (refl, λ outcome. tt) (λ above. looks_judged _)) (λ above.
      looks_then (look_up_result state.contents destination) _ (refl, λ outcome. tt) (λ recorded. looks_judged _))

  pub transfer_looks : (moving : Bool) (settings : Settings) → OnlyLookups (transfer_rules moving settings request state)
  transfer_looks moving settings =
      looks_then (judged _) _ (looks_judged _) (λ destination.
      looks_then (must_find state.contents request.path.key) _ (looks_found state.contents request.path.key) (λ meta.
      looks_then (see_destination state.contents destination.key) _ (looks_destination destination.key) (λ there.
      looks_then (judged _) _ (looks_judged _) (λ placed.
      looks_then (own_conditions request state (Some meta)) _ (looks_own (Some meta)) (λ tokens.
      looks_permitted 423 _ _)))))

  looks_to_lock : OnlyLookups (look_up_to_lock request state)
  looks_to_lock = looks_then (judged _) _ (looks_judged _) (λ _. (refl, λ outcome. tt))

  looks_refresh : OnlyLookups (refresh_rules request state)
  looks_refresh =
      looks_then (look_up_to_lock request state) _ looks_to_lock (λ found.
      looks_then (own_if request state) _ (looks_dav_if state.contents state.locks request request.path) (λ recorded.
      looks_then (judged _) _ (looks_judged _) (λ token.
      looks_permitted 412 _ found)))

  looks_new : OnlyLookups (new_lock_rules request state)
  looks_new =
      looks_then (look_up_to_lock request state) _ looks_to_lock (λ found.
      looks_then (judged _) _ (looks_judged _) (λ depth.
      looks_then (holding request state found) _
      (looks_then (own_if_match request state found) _
      (looks_then (if_holds state.contents state.locks request request.path) _ (looks_lists state.contents state.locks request.path (if_of request.headers)) (λ holds. tt))
      (λ refusal. looks_unless refusal (Passed tt) tt)) (λ held.
      looks_then (judged _) _ (looks_judged _) (λ info. tt))))

  pub lock_looks : (held : Bodies) → OnlyLookups (lock_rules held request state)
  lock_looks held = looks_if (is_refresh held request.body) (refresh_rules request state) (new_lock_rules request state) looks_refresh looks_new

  pub unlock_looks : OnlyLookups (unlock_rules request state)
  unlock_looks =
      looks_then (judged _) _ (looks_judged _) (λ locks.
      looks_then (judged _) _ (looks_judged _) (λ token. (refl, λ outcome. tt)))

  pub proppatch_looks : (profile : Profile) (keeps : Bool) → OnlyLookups (proppatch_rules profile keeps request state)
  proppatch_looks profile keeps =
      looks_then (found_rules request state) _
      (looks_then (must_find state.contents request.path.key) _ (looks_found state.contents request.path.key) (λ meta. looks_path (Some meta))) (λ found.
      looks_then (judged _) _ (looks_judged _) (λ changes. looks_if (some_refused changes) (Refuses _) (Passed (found, changes)) tt tt))

  pub options_looks : OnlyLookups (options_rules request state)
  options_looks = looks_if request.path.star (Passed None) (look_up state.contents request.path.key) tt (refl, λ outcome. tt)

  pub propfind_looks : (profile : Profile) (held : Bodies) → OnlyLookups (propfind_rules profile held request state)
  propfind_looks profile held =
      looks_if (is_too_deep request) (Refuses _) (sought_rules held request state) tt
      (looks_then (must_find state.contents request.path.key) _ (looks_found state.contents request.path.key) (λ meta.
      looks_then (judged _) _ (looks_judged _) (λ asking. tt)))
