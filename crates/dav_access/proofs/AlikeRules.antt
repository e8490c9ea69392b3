-- The rules of each method, over contents that look alike: a caller cannot distinguish them.
use Rattle.std.specs.Result.{result_ok}
use Rattle.std.proofs.Common.{◌≡◌, ℕ, Bool, true, false, List, [], ◌∷◌, Option, Some, None, Ok, refl, ap, if◌then◌else◌, subst, sym}
use Rattle.dav_key.specs.Key.{Key, parent}
use Rattle.dav_resource.specs.PathText.{PathValue}
use Rattle.dav_resource.specs.declared.profile.Profile.{Profile}
use Rattle.dav_resource.specs.declared.meta.Meta.{Meta}
use Rattle.dav_resource.specs.declared.record.Outcome.{Outcome}
use Rattle.dav_resource.specs.declared.record.Outcome.TheVariants.{Granted, Barred, Refused}
use Rattle.dav_resource.specs.declared.request.DavRequest.{DavRequest}
use Rattle.dav_headers.specs.declared.if_header.IfList.{IfList}
use Rattle.dav_headers.specs.declared.if_header.IfCondition.{IfCondition}
use Rattle.dav_headers.specs.declared.if_header.IfItem.{IfItem}
use Rattle.dav_headers.specs.declared.if_header.IfItem.TheVariants.{StateToken, ETag as EntityTag}
use Rattle.dav_store.specs.Store.{Contents, Bodies}
use Rattle.dav_store.specs.Calls.{metadata_call}
use Rattle.dav_store.specs.declared.lock.DavLock.{DavLock}
use Rattle.dav_messages.specs.Conditions.{is_tagged, current_tag, item_holds, item_holds_at, condition_holds, turned, all_hold, while_true, conditions_hold, until_true, any_holds, key_of_list, lists_hold, if_holds, dav_if_match, if_match, conditions, unless_refused, http_verdict, tokens_where, submitted_tokens, verdict_after}
use Rattle.dav_messages.specs.Dialogue.{Dialogue, Refuses, Passed, ◌>>=◌, look_up, if_granted, refusing}
use Rattle.dav_engine.specs.State.{State}
use Rattle.dav_engine.specs.Settings.{Settings}
use Rattle.dav_engine.specs.Rules.{own_conditions, own_if, path_rules, shallow_rules, holding, lookup_result, look_up_result, or_refused, must_find, closing, judged, where_permitted, depth_verdict, is_permitted, depth_or_all}
use Rattle.dav_engine.specs.Put.{put_rules, body_verdict}
use Rattle.dav_engine.specs.Delete.{delete_rules}
use Rattle.dav_engine.specs.Transferring.{transfer_rules, must_have_parent, look_up_destination, see_destination, asked_destination, parent_verdict, found_or_absent, place_verdict, permits_transfer}
use Rattle.dav_engine.specs.Options.{options_rules}
use Rattle.dav_engine.specs.Propfind.{sought_rules, propfind_rules, finite_depth_reply, is_too_deep}
use Rattle.dav_engine.specs.Proppatch.{found_rules, proppatch_rules, unless_some_refused}
use Rattle.dav_engine.specs.Locking.{look_up_to_lock, refresh_rules, new_lock_rules, lock_rules, is_refresh, locks_verdict, one_token}
use Rattle.dav_engine.specs.Unlocking.{unlock_rules, token_verdict}
use Rattle.dav_access.specs.Sight.{Sight, LooksAlike}
use Rattle.dav_access.proofs.AlikeCalls.{same_metadata}
use Rattle.dav_access.proofs.AlikeDialogues.{IsSeen, Alike, alike_asks, alike_same, alike_then, alike_first, alike_refusing}
use Rattle.dav_headers.specs.IfHeader.{if_of}
use Rattle.dav_engine.specs.Target.{target_of}
use Rattle.dav_props.specs.Update.{update_verdict}
use Rattle.dav_find.specs.Asked.{asking_of}
use Rattle.dav_engine.specs.LockInfo.{lock_info_verdict}
use Rattle.dav_headers.specs.Client.{user_agent_of}

-- the state with other contents
abbrev pub with : State → Contents → State
with state contents = record { contents = contents; locks = state.locks; reliable = state.reliable }

module _ (sight : Sight) (one other : Contents) (alike : LooksAlike sight one other) where
  -- ---- lookups

  pub alike_look_up : (key : Key) → Alike sight (look_up one key) (look_up other key)
  alike_look_up key =
      alike_asks sight (metadata_call one key) (metadata_call other key) (λ outcome. Passed (if_granted outcome (one.metas key))) (λ outcome. Passed (if_granted outcome (other.metas key)))
      (same_metadata sight one other alike key) by
    where
      by : (outcome : Outcome) → IsSeen sight (metadata_call one key) outcome → Alike sight (Passed (if_granted outcome (one.metas key))) (Passed (if_granted outcome (other.metas key)))
      by Granted seen = ap Passed (alike.metas key (seen tt))
      by (Barred e) seen = refl
      by (Refused e) seen = refl

  same_result : (key : Key) (outcome : Outcome) → IsSeen sight (metadata_call one key) outcome → lookup_result outcome (other.metas key) ≡ lookup_result outcome (one.metas key)
  same_result key Granted seen = ap (lookup_result Granted) (alike.metas key (seen tt))
  same_result key (Barred e) seen = refl
  same_result key (Refused e) seen = refl

  pub alike_result : (key : Key) → Alike sight (look_up_result one key) (look_up_result other key)
  alike_result key =
      alike_asks sight (metadata_call one key) (metadata_call other key) (λ outcome. Passed (lookup_result outcome (one.metas key))) (λ outcome. Passed (lookup_result outcome (other.metas key)))
      (same_metadata sight one other alike key) (λ outcome seen. ap Passed (same_result key outcome seen))

  pub alike_must_find : (key : Key) → Alike sight (must_find one key) (must_find other key)
  alike_must_find key =
      alike_asks sight (metadata_call one key) (metadata_call other key) (λ outcome. or_refused (lookup_result outcome (one.metas key))) (λ outcome. or_refused (lookup_result outcome (other.metas key)))
      (same_metadata sight one other alike key) (λ outcome seen. subst (λ r. Alike sight (or_refused (lookup_result outcome (one.metas key))) (or_refused r)) (sym (same_result key outcome seen)) (alike_same sight (or_refused (lookup_result outcome (one.metas key)))))

  -- ---- conditions

  module _ (locks : Option (List DavLock)) where
    alike_item : (key : Key) (item : IfItem) → Alike sight (item_holds one locks key item) (item_holds other locks key item)
    alike_item key (StateToken token) = refl
    alike_item key (EntityTag tag) = alike_first sight (look_up one key) (look_up other key) (λ found. Passed (is_tagged tag (current_tag found))) (alike_look_up key)

    alike_item_at : (key : Option Key) (item : IfItem) → Alike sight (item_holds_at one locks key item) (item_holds_at other locks key item)
    alike_item_at None item = refl
    alike_item_at (Some key) item = alike_item key item

    alike_condition : (key : Option Key) (condition : IfCondition) → Alike sight (condition_holds one locks key condition) (condition_holds other locks key condition)
    alike_condition key condition =
        alike_first sight (item_holds_at one locks key condition.item) (item_holds_at other locks key condition.item) (λ holds. Passed (turned condition.not holds)) (alike_item_at key condition.item)

    alike_while : (holds : Bool) (one other : Dialogue Bool) → Alike sight one other → Alike sight (while_true holds one) (while_true holds other)
    alike_while true one other alike = alike
    alike_while false one other alike = refl

    alike_until : (holds : Bool) (one other : Dialogue Bool) → Alike sight one other → Alike sight (until_true holds one) (until_true holds other)
    alike_until true one other alike = refl
    alike_until false one other alike = alike

    alike_all : (key : Option Key) (conditions : List IfCondition) → Alike sight (all_hold one locks key conditions) (all_hold other locks key conditions)
    alike_all key [] = refl
    alike_all key (condition ∷ conditions) =
        alike_then sight (condition_holds one locks key condition) (condition_holds other locks key condition)
        (λ holds. while_true holds (all_hold one locks key conditions)) (λ holds. while_true holds (all_hold other locks key conditions))
        (alike_condition key condition) (λ holds. alike_while holds (all_hold one locks key conditions) (all_hold other locks key conditions) (alike_all key conditions))

    alike_conditions_of : (key : Option Key) (conditions : List IfCondition) → Alike sight (conditions_hold one locks key conditions) (conditions_hold other locks key conditions)
    alike_conditions_of key [] = refl
    alike_conditions_of key (first ∷ others) = alike_all key (first ∷ others)

    alike_any : (path : PathValue) (before : Option Key) (lists : List IfList) → Alike sight (any_holds one locks path before lists) (any_holds other locks path before lists)
    alike_any path before [] = refl
    alike_any path before (list ∷ lists) =
        let about = key_of_list before path list.resource_tag in
        alike_then sight (conditions_hold one locks about list.conditions) (conditions_hold other locks about list.conditions)
        (λ holds. until_true holds (any_holds one locks path about lists)) (λ holds. until_true holds (any_holds other locks path about lists))
        (alike_conditions_of about list.conditions) (λ holds. alike_until holds (any_holds one locks path about lists) (any_holds other locks path about lists) (alike_any path about lists))

    alike_lists : (path : PathValue) (lists : Option (List IfList)) → Alike sight (lists_hold one locks path lists) (lists_hold other locks path lists)
    alike_lists path None = refl
    alike_lists path (Some lists) = alike_any path (Some path.key) lists

    alike_if : (request : DavRequest) (path : PathValue) → Alike sight (if_holds one locks request path) (if_holds other locks request path)
    alike_if request path = alike_lists path (if_of request.headers)

    alike_tokens : (request : DavRequest) (path : PathValue) → Alike sight (dav_if_match one locks request path) (dav_if_match other locks request path)
    alike_tokens request path = alike_first sight (if_holds one locks request path) (if_holds other locks request path) (λ holds. Passed (holds, submitted_tokens request)) (alike_if request path)

    alike_verdict : (request : DavRequest) (found : Option Meta) (path : PathValue) → Alike sight (if_match one locks request found path) (if_match other locks request found path)
    alike_verdict request found path = alike_first sight (if_holds one locks request path) (if_holds other locks request path) (λ holds. Passed (verdict_after holds request found)) (alike_if request path)

    alike_conditions : (request : DavRequest) (found : Option Meta) (path : PathValue) → Alike sight (conditions one locks request found path) (conditions other locks request found path)
    alike_conditions request found path = by (http_verdict request found)
      where
        by : (status : Option ℕ) → Alike sight (unless_refused status (dav_if_match one locks request path >>= tokens_where)) (unless_refused status (dav_if_match other locks request path >>= tokens_where))
        by None = alike_first sight (dav_if_match one locks request path) (dav_if_match other locks request path) tokens_where (alike_tokens request path)
        by (Some status) = refl

-- ---- the rules

module _ (sight : Sight) (request : DavRequest) (state : State) (other : Contents) (alike : LooksAlike sight state.contents other) where
  -- the rules over the state, and over the state with the other contents
  abbrev pub RulesAlike : {A : Type 0} → (State → Dialogue A) → Type 0
  RulesAlike rules = Alike sight (rules state) (rules (with state other))

  alike_own : (found : Option Meta) → RulesAlike (λ s. own_conditions request s found)
  alike_own found = alike_conditions sight state.contents other alike state.locks request found request.path

  alike_path : (found : Option Meta) → RulesAlike (λ s. path_rules request s found)
  alike_path found = alike_first sight _ _ (λ _. where_permitted 423 (is_permitted request state request.path.key false) found) (alike_own found)

  pub alike_shallow : RulesAlike (shallow_rules request)
  alike_shallow = alike_then sight _ _ (path_rules request state) (path_rules request (with state other)) (alike_look_up sight state.contents other alike request.path.key) alike_path

  alike_holding : (found : Option Meta) → RulesAlike (λ s. holding request s found)
  alike_holding found = alike_first sight _ _ (λ refusal. unless_refused refusal (Passed tt)) (alike_verdict sight state.contents other alike state.locks request found request.path)

  pub alike_put : (held : Bodies) (partial : Bool) → RulesAlike (put_rules held partial request)
  alike_put held partial =
      alike_then sight (look_up_result state.contents request.path.key) (look_up_result other request.path.key) _ _ (alike_result sight state.contents other alike request.path.key) (λ looked.
      alike_then sight (judged (target_of partial request.headers looked)) (judged (target_of partial request.headers looked)) _ _ (alike_same sight (judged (target_of partial request.headers looked))) (λ target.
      alike_first sight (refusing closing (path_rules request state (result_ok looked))) (refusing closing (path_rules request (with state other) (result_ok looked))) (λ found. judged (body_verdict held target request.body found))
      (alike_refusing sight closing (path_rules request state (result_ok looked)) (path_rules request (with state other) (result_ok looked)) (alike_path (result_ok looked)))))

  pub alike_delete : RulesAlike (delete_rules request)
  alike_delete =
      alike_then sight (judged (depth_verdict (depth_or_all request))) (judged (depth_verdict (depth_or_all request))) _ _ (alike_same sight (judged (depth_verdict (depth_or_all request)))) (λ _.
      alike_then sight (must_find state.contents request.path.key) (must_find other request.path.key) _ _ (alike_must_find sight state.contents other alike request.path.key) (λ meta.
      alike_first sight (own_conditions request state (Some meta)) (own_conditions request (with state other) (Some meta)) (λ _. where_permitted 423 (is_permitted request state request.path.key true) meta) (alike_own (Some meta))))

  alike_see : (destination : Key) → Alike sight (see_destination state.contents destination) (see_destination other destination)
  alike_see destination =
      alike_then sight (must_have_parent state.contents destination) (must_have_parent other destination) (λ _. look_up_destination state.contents destination) (λ _. look_up_destination other destination)
      (alike_first sight (look_up state.contents (parent destination)) (look_up other (parent destination)) (λ above. judged (parent_verdict above)) (alike_look_up sight state.contents other alike (parent destination)))
      (λ _. alike_first sight (look_up_result state.contents destination) (look_up_result other destination) (λ found. judged (found_or_absent found)) (alike_result sight state.contents other alike destination))

  pub alike_transfer : (moving : Bool) (settings : Settings) → RulesAlike (transfer_rules moving settings request)
  alike_transfer moving settings =
      alike_then sight (judged (asked_destination moving settings request)) (judged (asked_destination moving settings request)) _ _ (alike_same sight (judged (asked_destination moving settings request))) (λ destination.
      alike_then sight (must_find state.contents request.path.key) (must_find other request.path.key) _ _ (alike_must_find sight state.contents other alike request.path.key) (λ meta.
      alike_then sight (see_destination state.contents destination.key) (see_destination other destination.key) _ _ (alike_see destination.key) (λ there.
      alike_then sight (judged (place_verdict moving request destination.key there)) (judged (place_verdict moving request destination.key there)) _ _ (alike_same sight (judged (place_verdict moving request destination.key there))) (λ _.
      alike_first sight (own_conditions request state (Some meta)) (own_conditions request (with state other) (Some meta))
      (λ tokens. where_permitted 423 (permits_transfer moving state.locks request (submitted_tokens request) destination.key) (record { meta = meta; destination = destination; there = there })) (alike_own (Some meta))))))

  pub alike_options : RulesAlike (options_rules request)
  alike_options = by request.path.star
    where
      by : (star : Bool) → Alike sight (if star then Passed None else look_up state.contents request.path.key) (if star then Passed None else look_up other request.path.key)
      by true = refl
      by false = alike_look_up sight state.contents other alike request.path.key

  pub alike_propfind : (profile : Profile) (held : Bodies) → RulesAlike (propfind_rules profile held request)
  alike_propfind profile held = by (is_too_deep request)
    where
      by : (deep : Bool) → Alike sight (if deep then Refuses (Ok (finite_depth_reply profile)) else sought_rules held request state) (if deep then Refuses (Ok (finite_depth_reply profile)) else sought_rules held request (with state other))
      by true = refl
      by false = alike_first sight (must_find state.contents request.path.key) (must_find other request.path.key) (λ meta. judged (asking_of held request.body (user_agent_of request.headers)) >>= λ asking. Passed (meta, asking)) (alike_must_find sight state.contents other alike request.path.key)

  alike_found : RulesAlike (found_rules request)
  alike_found =
      alike_then sight (must_find state.contents request.path.key) (must_find other request.path.key) (λ meta. path_rules request state (Some meta)) (λ meta. path_rules request (with state other) (Some meta))
      (alike_must_find sight state.contents other alike request.path.key) (λ meta. alike_path (Some meta))

  pub alike_proppatch : (profile : Profile) (keeps : Bool) → RulesAlike (proppatch_rules profile keeps request)
  alike_proppatch profile keeps = alike_first sight (found_rules request state) (found_rules request (with state other)) (λ found. judged (update_verdict profile keeps request.body) >>= unless_some_refused profile request found) alike_found

  alike_to_lock : RulesAlike (look_up_to_lock request)
  alike_to_lock =
      alike_then sight (judged (locks_verdict state)) (judged (locks_verdict state)) (λ _. look_up state.contents request.path.key) (λ _. look_up other request.path.key)
      (alike_same sight (judged (locks_verdict state))) (λ _. alike_look_up sight state.contents other alike request.path.key)

  alike_refresh : RulesAlike (refresh_rules request)
  alike_refresh =
      alike_then sight (look_up_to_lock request state) (look_up_to_lock request (with state other)) _ _ alike_to_lock (λ found.
      alike_first sight (own_if request state) (own_if request (with state other)) (λ held. judged (one_token held.1) >>= λ _. where_permitted 412 (is_permitted request state request.path.key false) found)
      (alike_tokens sight state.contents other alike state.locks request request.path))

  alike_new_lock : RulesAlike (new_lock_rules request)
  alike_new_lock =
      alike_then sight (look_up_to_lock request state) (look_up_to_lock request (with state other)) _ _ alike_to_lock (λ found.
      alike_then sight (judged (depth_verdict (depth_or_all request))) (judged (depth_verdict (depth_or_all request))) _ _ (alike_same sight (judged (depth_verdict (depth_or_all request)))) (λ _.
      alike_first sight (holding request state found) (holding request (with state other) found) (λ _. judged (lock_info_verdict request.body) >>= λ _. Passed found) (alike_holding found)))

  pub alike_lock : (held : Bodies) → RulesAlike (lock_rules held request)
  alike_lock held = by (is_refresh held request.body)
    where
      by : (refresh : Bool) → Alike sight (if refresh then refresh_rules request state else new_lock_rules request state) (if refresh then refresh_rules request (with state other) else new_lock_rules request (with state other))
      by true = alike_refresh
      by false = alike_new_lock

  pub alike_unlock : RulesAlike (unlock_rules request)
  alike_unlock =
      alike_then sight (judged (locks_verdict state)) (judged (locks_verdict state)) _ _ (alike_same sight (judged (locks_verdict state))) (λ _.
      alike_then sight (judged (token_verdict request)) (judged (token_verdict request)) (λ _. look_up state.contents request.path.key) (λ _. look_up other request.path.key)
      (alike_same sight (judged (token_verdict request))) (λ _. alike_look_up sight state.contents other alike request.path.key))
