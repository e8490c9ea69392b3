-- By which errors rules refuse a request.
use Rattle.std.proofs.Common.{◌≡◌, ◌≤◌, ℕ, Bool, true, false, List, [], ◌∷◌, Option, Some, None, is_some, Result, Ok, Err, refl, sym, subst, if◌then◌else◌, arith}
use Rattle.dav_key.specs.Key.{Key}
use Rattle.dav_resource.specs.PathText.{PathValue}
use Rattle.dav_resource.specs.Methods.{method_of}
use Rattle.dav_resource.specs.Errors.{fs_status, dav_status, from_fs}
use Rattle.dav_resource.specs.declared.request.Depth.{Depth}
use Rattle.dav_resource.specs.declared.request.Depth.TheVariants.{Zero, One, Infinity, Default}
use Rattle.dav_resource.specs.declared.method.DavMethod.{DavMethod}
use Rattle.dav_resource.specs.declared.method.DavMethod.TheVariants.{Get, Head}
use Rattle.dav_resource.specs.declared.error.DavError.{DavError}
use Rattle.dav_resource.specs.declared.error.DavError.TheVariants.{Status}
use Rattle.dav_resource.specs.declared.error.FsError.{FsError}
use Rattle.dav_resource.specs.declared.error.FsError.TheVariants as fs
use Rattle.dav_resource.specs.declared.meta.Meta.{Meta}
use Rattle.dav_resource.specs.declared.record.Outcome.{Outcome}
use Rattle.dav_resource.specs.declared.request.DavRequest.{DavRequest}
use Rattle.dav_headers.specs.declared.if_header.IfList.{IfList}
use Rattle.dav_headers.specs.declared.if_header.IfCondition.{IfCondition}
use Rattle.dav_headers.specs.declared.if_header.IfItem.{IfItem}
use Rattle.dav_headers.specs.declared.if_header.IfItem.TheVariants.{StateToken, ETag as EntityTag}
use Rattle.dav_headers.specs.IfHeader.{if_of}
use Rattle.dav_headers.specs.TagList.{if_match_of, if_none_match_of}
use Rattle.dav_store.specs.Logged.{Logged}
use Rattle.dav_store.specs.Store.{Contents}
use Rattle.dav_store.specs.declared.lock.DavLock.{DavLock}
use Rattle.dav_messages.specs.Conditions.{item_holds_at, condition_holds, all_hold, key_of_list, conditions_hold, any_holds, lists_hold, if_holds, while_true, until_true, unless_refused, tokens_where, http_verdict, if_match_fails, if_none_match_fails, none_match_status, none_match_verdict, current_tag, dav_if_match, conditions}
use Rattle.dav_messages.specs.Dialogue.{Dialogue, Asks, Refuses, Passed, LeadsTo, look_up, ◌>>=◌, refusing}
use Rattle.dav_messages.specs.Reply.{Answer}
use Rattle.dav_engine.specs.Rules.{judged, or_refused, where_permitted, depth_verdict}

-- ---- the store's refusals

-- each has the status of an error
pub refusal_from_300 : (e : FsError) → 300 ≤ fs_status e
refusal_from_300 fs.NotImplemented = omega arith
refusal_from_300 fs.GeneralFailure = omega arith
refusal_from_300 fs.Exists = omega arith
refusal_from_300 fs.NotFound = omega arith
refusal_from_300 fs.Forbidden = omega arith
refusal_from_300 fs.InsufficientStorage = omega arith
refusal_from_300 fs.LoopDetected = omega arith
refusal_from_300 fs.PathTooLong = omega arith
refusal_from_300 fs.TooLarge = omega arith
refusal_from_300 fs.IsRemote = omega arith
refusal_from_300 fs.Memory = omega arith

pub from_fs_status : (e : FsError) → dav_status (from_fs e) ≡ fs_status e
from_fs_status fs.NotImplemented = refl
from_fs_status fs.GeneralFailure = refl
from_fs_status fs.Exists = refl
from_fs_status fs.NotFound = refl
from_fs_status fs.Forbidden = refl
from_fs_status fs.InsufficientStorage = refl
from_fs_status fs.LoopDetected = refl
from_fs_status fs.PathTooLong = refl
from_fs_status fs.TooLarge = refl
from_fs_status fs.IsRemote = refl
from_fs_status fs.Memory = refl

-- ---- the conditions refuse by 412 and 304

status_from_300 : (method : Option DavMethod) → 300 ≤ none_match_status method
status_from_300 (Some Get) = omega arith
status_from_300 (Some Head) = omega arith
status_from_300 other = omega arith

none_match_from_300 : (fails : Bool) (status s : ℕ) → 300 ≤ status → (if fails then Some status else None) ≡ Some s → 300 ≤ s
none_match_from_300 true status s least is = let same : status ≡ s = cc in omega (arith, least, same)
none_match_from_300 false status s least is = absurd cc

http_from_300 : (request : DavRequest) (found : Option Meta) (s : ℕ) → http_verdict request found ≡ Some s → 300 ≤ s
http_from_300 request found s is = by_first (if_match_fails (if_match_of request.headers) (is_some found) (current_tag found)) is
  where
    by_first : (b : Bool) → (if b then Some 412 else none_match_verdict request (is_some found) (current_tag found)) ≡ Some s → 300 ≤ s
    by_first true is = let same : 412 ≡ s = cc in omega (arith, same)
    by_first false is =
        none_match_from_300 (if_none_match_fails (if_none_match_of request.headers) (is_some found) (current_tag found)) (none_match_status (method_of request.method)) s (status_from_300 (method_of request.method)) is

-- ---- a dialogue whose refusals are errors of this kind

module _ (Kind : DavError → Type 0) where
  abbrev pub RefusesBy : {A : Type 0} → Dialogue A → Type 0
  RefusesBy (Asks call next) = (outcome : Outcome) → RefusesBy (next outcome)
  RefusesBy (Refuses (Ok reply)) = ⊥
  RefusesBy (Refuses (Err e)) = Kind e
  RefusesBy (Passed a) = Unit {0}

  pub errs_then : {A B : Type 0} (first : Dialogue A) (after : A → Dialogue B) → RefusesBy first → ((a : A) → RefusesBy (after a)) → RefusesBy (first >>= after)
  unfolding ◌>>=◌
  errs_then (Asks call next) after h g = λ outcome. errs_then (next outcome) after (h outcome) g
  errs_then (Refuses (Ok reply)) after h g = h
  errs_then (Refuses (Err e)) after h g = h
  errs_then (Passed a) after h g = g a

  errs_end : {A : Type 0} (answer : Answer) (dialogue : Dialogue A) → RefusesBy dialogue → Refuses answer ≡ dialogue → (e : DavError) × (answer ≡ Err e) × Kind e
  errs_end {A} (Ok reply) dialogue h is = absurd (let P : Dialogue A → Type 0 = λ d. RefusesBy d in subst P (sym is) h)
  errs_end {A} (Err e) dialogue h is = (e, refl, let P : Dialogue A → Type 0 = λ d. RefusesBy d in subst P (sym is) h)

  -- what it refuses by
  pub errs_led : {A : Type 0} (dialogue : Dialogue A) (records : List Logged) (answer : Answer) → RefusesBy dialogue → LeadsTo dialogue records (Refuses answer) → (e : DavError) × (answer ≡ Err e) × Kind e
  errs_led dialogue [] answer h is = errs_end answer dialogue h is
  errs_led (Asks call next) (logged ∷ records) answer h leads = errs_led (next logged.outcome) records answer (h logged.outcome) leads.2
  errs_led (Refuses other) (logged ∷ records) answer h leads = absurd leads
  errs_led (Passed a) (logged ∷ records) answer h leads = absurd leads

  pub errs_told : ((e : FsError) → Kind (from_fs e)) → {A : Type 0} (recorded : Result A FsError) → RefusesBy (or_refused recorded)
  errs_told refusal (Ok a) = tt
  errs_told refusal (Err e) = refusal e

  -- where a status of an error is one of this kind
  module _ (status : (s : ℕ) → 300 ≤ s → Kind (Status s)) where
    module _ (contents : Contents) (locks : Option (List DavLock)) where
      errs_item : (key : Option Key) (item : IfItem) → RefusesBy (item_holds_at contents locks key item)
      errs_item None item = tt
      errs_item (Some key) (StateToken token) = tt
      errs_item (Some key) (EntityTag tag) = errs_then (look_up contents key) _ (λ outcome. tt) (λ found. tt)

      errs_while : (holds : Bool) (rest : Dialogue Bool) → RefusesBy rest → RefusesBy (while_true holds rest)
      errs_while true rest h = h
      errs_while false rest h = tt

      errs_until : (holds : Bool) (rest : Dialogue Bool) → RefusesBy rest → RefusesBy (until_true holds rest)
      errs_until true rest h = tt
      errs_until false rest h = h

      errs_all : (key : Option Key) (list : List IfCondition) → RefusesBy (all_hold contents locks key list)
      errs_all key [] = tt
      errs_all key (condition ∷ list) =
          errs_then (condition_holds contents locks key condition) _ (errs_then (item_holds_at contents locks key condition.item) _ (errs_item key condition.item) (λ holds. tt))
          (λ holds. errs_while holds (all_hold contents locks key list) (errs_all key list))

      errs_list : (key : Option Key) (list : List IfCondition) → RefusesBy (conditions_hold contents locks key list)
      errs_list key [] = tt
      errs_list key (first ∷ others) = errs_all key (first ∷ others)

      errs_any : (path : PathValue) (before : Option Key) (lists : List IfList) → RefusesBy (any_holds contents locks path before lists)
      errs_any path before [] = tt
      errs_any path before (list ∷ lists) =
          let about = key_of_list before path list.resource_tag in
          errs_then (conditions_hold contents locks about list.conditions) _ (errs_list about list.conditions)
          (λ holds. errs_until holds (any_holds contents locks path about lists) (errs_any path about lists))

      pub errs_lists : (path : PathValue) (lists : Option (List IfList)) → RefusesBy (lists_hold contents locks path lists)
      errs_lists path None = tt
      errs_lists path (Some lists) = errs_any path (Some path.key) lists

      errs_unless : {A : Type 0} (refusal : Option ℕ) (next : Dialogue A) → ((s : ℕ) → refusal ≡ Some s → 300 ≤ s) → RefusesBy next → RefusesBy (unless_refused refusal next)
      errs_unless None next least h = h
      errs_unless (Some s) next least h = status s (least s refl)

      errs_tokens : (recorded : Bool × List (List ℕ)) → RefusesBy (tokens_where recorded)
      errs_tokens recorded = elim (recorded.0) as (λ b. RefusesBy (if b then Passed recorded.1 else Refuses (Err (Status 412)))) [ true ↦ tt | false ↦ status 412 (omega arith) ]

      pub errs_conditions : (request : DavRequest) (found : Option Meta) (path : PathValue) → RefusesBy (conditions contents locks request found path)
      errs_conditions request found path =
          errs_unless (http_verdict request found) _ (http_from_300 request found)
          (errs_then (dav_if_match contents locks request path) tokens_where
          (errs_then (if_holds contents locks request path) _ (errs_lists path (if_of request.headers)) (λ holds. tt)) errs_tokens)

    pub errs_depth : (depth : Depth) → RefusesBy (judged (depth_verdict depth))
    errs_depth Zero = tt
    errs_depth One = status 400 (omega arith)
    errs_depth Infinity = tt
    errs_depth Default = tt

    pub errs_permitted : {A : Type 0} (s : ℕ) → 300 ≤ s → (permitted : Bool) (a : A) → RefusesBy (where_permitted s permitted a)
    errs_permitted s least true a = tt
    errs_permitted s least false a = status s least

-- ---- no refusal is a reply

-- any error is one of this kind
abbrev pub AnyError : DavError → Type 0
AnyError e = Unit {0}

pub errs_judged : {A : Type 0} (verdict : Result A DavError) → RefusesBy AnyError (judged verdict)
errs_judged (Ok a) = tt
errs_judged (Err e) = tt

-- nor is one whose error is changed
pub errs_refusing : {A : Type 0} (change : DavError → DavError) (dialogue : Dialogue A) → RefusesBy AnyError dialogue → RefusesBy AnyError (refusing change dialogue)
unfolding refusing
errs_refusing change (Asks call next) h = λ outcome. errs_refusing change (next outcome) (h outcome)
errs_refusing change (Refuses (Ok reply)) h = h
errs_refusing change (Refuses (Err e)) h = tt
errs_refusing change (Passed a) h = tt
