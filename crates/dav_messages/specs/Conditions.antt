-- Conditions of a request (RFC 7232, sections 3.1 and 3.2; RFC 4918, section 10.4), and the calls to a store that evaluate them.
use Rattle.std.specs.Prelude.{ℕ, nat_eq, Bool, true, false, not, ◌&&◌, if◌then◌else◌, List, [], ◌∷◌, codes, Option, Some, None, Result, Err, is_some, option_map}
use Rattle.std.specs.Option.{option_copied, option_map_or}
use Rattle.std.specs.List.{list_any, filter_map, starts_with, flat_map}
use Rattle.dav_key.specs.Key.{Key}
use Rattle.dav_resource.specs.PathText.{PathValue}
use Rattle.dav_resource.specs.Methods.{method_of}
use Rattle.dav_resource.specs.ETags.{strongly_equal, strong_tag}
use Rattle.dav_resource.specs.declared.etag.ETag.{ETag}
use Rattle.dav_resource.specs.declared.etag.ETagList.{ETagList}
use Rattle.dav_resource.specs.declared.etag.ETagList.TheVariants.{Star, Tags}
use Rattle.dav_resource.specs.declared.meta.Meta.{Meta}
use Rattle.dav_resource.specs.declared.method.DavMethod.{DavMethod}
use Rattle.dav_resource.specs.declared.method.DavMethod.TheVariants.{Get, Head}
use Rattle.dav_resource.specs.declared.error.DavError.{DavError}
use Rattle.dav_resource.specs.declared.error.DavError.TheVariants.{Status}
use Rattle.dav_resource.specs.declared.request.DavRequest.{DavRequest}
use Rattle.dav_headers.specs.IfHeader.{if_of}
use Rattle.dav_headers.specs.TagList.{if_match_of, if_none_match_of}
use Rattle.dav_headers.specs.Place.{tagged_path}
use Rattle.dav_headers.specs.declared.if_header.IfList.{IfList}
use Rattle.dav_headers.specs.declared.if_header.IfCondition.{IfCondition}
use Rattle.dav_headers.specs.declared.if_header.IfItem.{IfItem}
use Rattle.dav_headers.specs.declared.if_header.IfItem.TheVariants.{StateToken, ETag as EntityTag}
use Rattle.dav_store.specs.Store.{Store, Contents}
use Rattle.dav_store.specs.Locks.{Locks, permits}
use Rattle.dav_store.specs.declared.lock.DavLock.{DavLock}
use Rattle.dav_messages.specs.Dialogue.{Dialogue, Refuses, Passed, Judges, look_up, ◌>>=◌}
use denote.Ref.{Bor}

-- ---- If-Match, If-None-Match, If-Range

-- there is a current tag, and it is strongly equal to this one
abbrev pub is_tagged : ETag → Option ETag → Bool
is_tagged tag current = option_map_or (strongly_equal tag) current false

-- `*` matches if the resource exists. A list matches if one of its tags is strongly equal to the current one.
abbrev pub list_matches : ETagList → Bool → Option ETag → Bool
list_matches Star exists current = exists
list_matches (Tags tags) exists current = list_any (λ tag. is_tagged tag current) tags

-- the entity tag in the metadata that was found
abbrev pub current_tag : Option Meta → Option ETag
current_tag found = option_map_or (λ (m : Meta). option_map strong_tag m.etag) found None

-- if If-None-Match fails: 304 for GET and HEAD, 412 for every other method
abbrev pub none_match_status : Option DavMethod → ℕ
none_match_status (Some Get) = 304
none_match_status (Some Head) = 304
none_match_status _ = 412

-- If-Match rejects the request: it is present and does not match
abbrev pub if_match_fails : Option ETagList → Bool → Option ETag → Bool
if_match_fails None exists current = false
if_match_fails (Some tags) exists current = not (list_matches tags exists current)

-- If-None-Match rejects the request: it is present and matches
abbrev pub if_none_match_fails : Option ETagList → Bool → Option ETag → Bool
if_none_match_fails None exists current = false
if_none_match_fails (Some tags) exists current = list_matches tags exists current

abbrev pub none_match_verdict : DavRequest → Bool → Option ETag → Option ℕ
none_match_verdict request exists current =
    if if_none_match_fails (if_none_match_of request.headers) exists current then Some (none_match_status (method_of request.method)) else None

-- the status that rejects the request: 412 by If-Match, which is evaluated first, else that of If-None-Match
abbrev pub http_verdict : DavRequest → Option Meta → Option ℕ
http_verdict request found =
    if if_match_fails (if_match_of request.headers) (is_some found) (current_tag found) then Some 412 else none_match_verdict request (is_some found) (current_tag found)

-- ---- If

-- the state tokens of conditions, in order, also those under `Not`
abbrev pub token_of : IfItem → Option (List ℕ)
token_of (StateToken text) = Some text
token_of (EntityTag tag) = None

abbrev pub tokens_in : List IfCondition → List (List ℕ)
tokens_in conditions = filter_map (λ (c : IfCondition). token_of c.item) conditions

abbrev pub all_tokens : Option (List IfList) → List (List ℕ)
all_tokens None = []
all_tokens (Some lists) = flat_map (λ (list : IfList). tokens_in list.conditions) lists

-- the tokens that a request submits: all in its header If, in order
abbrev pub submitted_tokens : DavRequest → List (List ℕ)
submitted_tokens request = all_tokens (if_of request.headers)

-- the locks, if there is a lock system
abbrev pub locks_in : {L : Type 0} → (L → Locks) → Option L → Option (List DavLock)
locks_in seen ls = option_map (λ l. (seen l).list) ls

-- A state token holds at a key if the locks allow any principal to write there with only this token submitted. One that starts with `DAV:` never
-- holds.
abbrev pub token_holds : Option (List DavLock) → Key → List ℕ → Bool
token_holds locks key token = not (starts_with nat_eq token (codes "DAV:")) && option_map_or (λ list. permits list key None true false (token ∷ [])) locks false

-- an entity tag holds at a key if a lookup of the key is granted, and the tag is strongly equal to the one found
abbrev pub tag_holds : Contents → Key → ETag → Dialogue Bool
tag_holds contents key tag = look_up contents key >>= λ found. Passed (is_tagged tag (current_tag found))

-- the negation, if the condition has `Not`
abbrev pub turned : Bool → Bool → Bool
turned true holds = not holds
turned false holds = holds

-- go on, or stop with this value
abbrev pub while_true : Bool → Dialogue Bool → Dialogue Bool
while_true true rest = rest
while_true false rest = Passed false

abbrev pub until_true : Bool → Dialogue Bool → Dialogue Bool
until_true true rest = Passed true
until_true false rest = rest

-- The key that a list applies to: that of its own tag, below the request's prefix, else that of the list before it (RFC 4918, section 10.4.2). None
-- if the tag cannot be parsed.
abbrev pub key_of_list : Option Key → PathValue → Option (List ℕ) → Option Key
key_of_list before path None = before
key_of_list before path (Some tag) = option_map (λ p. p.key) (tagged_path tag path.prefix)

module _ (contents : Contents) (locks : Option (List DavLock)) where
  abbrev pub item_holds : Key → IfItem → Dialogue Bool
  item_holds key (StateToken token) = Passed (token_holds locks key token)
  item_holds key (EntityTag tag) = tag_holds contents key tag

  -- if the key could not be parsed, the item does not hold, and no call is made
  abbrev pub item_holds_at : Option Key → IfItem → Dialogue Bool
  item_holds_at None item = Passed false
  item_holds_at (Some key) item = item_holds key item

  -- `Not` negates it
  abbrev pub condition_holds : Option Key → IfCondition → Dialogue Bool
  condition_holds key condition = item_holds_at key condition.item >>= λ holds. Passed (turned condition.not holds)

  -- Each condition holds. None is evaluated after the first that does not.
  abbrev pub all_hold : Option Key → List IfCondition → Dialogue Bool
  all_hold key [] = Passed true
  all_hold key (condition ∷ conditions) = condition_holds key condition >>= λ holds. while_true holds (all_hold key conditions)

  -- a list without conditions does not hold
  abbrev pub conditions_hold : Option Key → List IfCondition → Dialogue Bool
  conditions_hold key [] = Passed false
  conditions_hold key (first ∷ others) = all_hold key (first ∷ others)

  -- Some list holds. None is evaluated after it. `before` is the key that a first list without a tag applies to.
  abbrev pub any_holds : PathValue → Option Key → List IfList → Dialogue Bool
  any_holds path before [] = Passed false
  any_holds path before (list ∷ lists) =
      let about = key_of_list before path list.resource_tag in
      conditions_hold about list.conditions >>= λ holds. until_true holds (any_holds path about lists)

  -- Without a readable header it holds, and no call is made. The lists before the first tag apply to the request's key.
  abbrev pub lists_hold : PathValue → Option (List IfList) → Dialogue Bool
  lists_hold path None = Passed true
  lists_hold path (Some lists) = any_holds path (Some path.key) lists

  abbrev pub if_holds : DavRequest → PathValue → Dialogue Bool
  if_holds request path = lists_hold path (if_of request.headers)

-- ---- all conditions

-- the status that rejects a request after its header If was evaluated: 412 if it does not hold
abbrev pub verdict_after : Bool → DavRequest → Option Meta → Option ℕ
verdict_after holds request found = if holds then http_verdict request found else Some 412

-- reject the request with the status if there is one, else go on
abbrev pub unless_refused : {A : Type 0} → Option ℕ → Dialogue A → Dialogue A
unless_refused (Some status) next = Refuses (Err (Status status))
unless_refused None next = next

-- the tokens if the header If holds, else 412
abbrev pub tokens_where : Bool × List (List ℕ) → Dialogue (List (List ℕ))
tokens_where held = if held.0 then Passed held.1 else Refuses (Err (Status 412))

module _ (contents : Contents) (locks : Option (List DavLock)) (request : DavRequest) where
  -- the header If, with the tokens
  abbrev pub dav_if_match : PathValue → Dialogue (Bool × List (List ℕ))
  dav_if_match path = if_holds contents locks request path >>= λ holds. Passed (holds, submitted_tokens request)

  -- If is evaluated first, and then If-Match and If-None-Match
  abbrev pub if_match : Option Meta → PathValue → Dialogue (Option ℕ)
  if_match found path = if_holds contents locks request path >>= λ holds. Passed (verdict_after holds request found)

  -- If-Match and If-None-Match are evaluated first. If they reject the request, no call is made.
  abbrev pub conditions : Option Meta → PathValue → Dialogue (List (List ℕ))
  conditions found path = unless_refused (http_verdict request found) (dav_if_match path >>= tokens_where)

-- Evaluating the condition made the calls that it makes on these contents and under these locks, and returned what it ends in. Nothing changed except
-- the log.
abbrev pub Evaluates : {F L A : Type 0} → (F → Store) → (L → Locks) → (Contents → Option (List DavLock) → Dialogue A) → F → Option (Bor L) → Result A DavError → F → Type 0
Evaluates store_of locks_of condition old ls verdict new = Judges (condition (store_of old).contents (locks_in locks_of (option_copied ls))) (store_of old) verdict (store_of new)
