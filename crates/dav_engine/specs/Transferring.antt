-- What COPY and MOVE share (RFC 4918, sections 9.8 and 9.9): the rules before a resource is copied or moved to a destination, and the removal of what
-- exists there.
use Rattle.std.specs.Prelude.{◌≡◌, ◌⊎◌, ℕ, Bool, true, false, not, ◌&&◌, ◌||◌, if◌then◌else◌, List, [], ◌∷◌, ◌++◌, Option, Some, None, is_some, unwrap_or, Result, Ok, Err}
use Rattle.dav_resource.specs.Errors.{from_fs}
use Rattle.dav_key.specs.Key.{Key, parent, is_same_key}
use Rattle.dav_resource.specs.PathText.{PathValue}
use Rattle.dav_resource.specs.declared.profile.Profile.{Profile}
use Rattle.dav_resource.specs.declared.meta.Meta.{Meta}
use Rattle.dav_resource.specs.declared.error.FsError.{FsError}
use Rattle.dav_resource.specs.declared.error.FsError.TheVariants.{NotFound}
use Rattle.dav_resource.specs.declared.error.DavError.{DavError}
use Rattle.dav_resource.specs.declared.error.DavError.TheVariants.{Status, Memory}
use Rattle.dav_resource.specs.declared.request.Depth.{Depth}
use Rattle.dav_resource.specs.declared.request.Depth.TheVariants.{Zero, Infinity}
use Rattle.dav_resource.specs.declared.request.DavRequest.{DavRequest}
use Rattle.dav_headers.specs.Destination.{destination_of}
use Rattle.dav_headers.specs.Overwrite.{overwrite_of}
use Rattle.dav_key.specs.Below.{is_at_or_below}
use Rattle.dav_store.specs.Logged.{Logged}
use Rattle.dav_store.specs.Store.{Contents}
use Rattle.dav_store.specs.declared.lock.DavLock.{DavLock}
use Rattle.dav_messages.specs.Conditions.{submitted_tokens}
use Rattle.dav_messages.specs.Dialogue.{Dialogue, look_up, ◌>>=◌}
use Rattle.dav_messages.specs.Multistatus.{Item, multi_answer}
use Rattle.dav_messages.specs.Reply.{Answer}
use Rattle.dav_walks.specs.Deletion.{Removes, RemovesInPart, first_failure}
use Rattle.dav_engine.specs.State.{State, Seen, state_of, facts_of, LocksStay, HasSameSystem}
use Rattle.dav_engine.specs.Settings.{Settings}
use Rattle.dav_engine.specs.Delete.{LeavesLocks}
use Rattle.dav_engine.specs.Rules.{judged, must_find, look_up_result, own_conditions, permits_by, where_permitted, depth_or_all, depth_verdict, is_deep, fixed_path, is_directory}
use Rattle.dav_engine.specs.declared.transfer.Transfer.{Transfer}

-- ---- the rules

-- a MOVE includes everything below the resource, so Depth 0 is rejected (400); a COPY may have Depth 0; Depth 1 is rejected for both (400)
abbrev pub reach_verdict : Bool → Depth → Result (Unit {0}) DavError
reach_verdict true Zero = Err (Status 400)
reach_verdict moving depth = depth_verdict depth

-- the destination, unless the Depth was rejected
abbrev pub where_reached : Result (Unit {0}) DavError → Settings → DavRequest → Result PathValue DavError
where_reached (Ok reached) settings request = destination_of request.headers settings.prefix
where_reached (Err e) settings request = Err e

-- the Depth, and then the destination
abbrev pub asked_destination : Bool → Settings → DavRequest → Result PathValue DavError
asked_destination moving settings request = where_reached (reach_verdict moving (depth_or_all request)) settings request

-- the parent of the destination must be a directory: else 409
abbrev pub parent_verdict : Option Meta → Result (Unit {0}) DavError
parent_verdict above = if is_directory above then Ok tt else Err (Status 409)

-- a lookup of the destination's parent, which must be a directory; a failed lookup counts as finding nothing
abbrev pub must_have_parent : Contents → Key → Dialogue (Unit {0})
must_have_parent contents destination = look_up contents (parent destination) >>= λ above. judged (parent_verdict above)

-- the result of a lookup, in which `NotFound` counts as finding nothing and any other error stays an error
abbrev pub found_or_absent : Result Meta FsError → Result (Option Meta) DavError
found_or_absent (Ok meta) = Ok (Some meta)
found_or_absent (Err NotFound) = Ok None
found_or_absent (Err e) = Err (from_fs e)

-- a lookup of the destination; if it fails with any error other than `NotFound`, the request is rejected with that error
abbrev pub look_up_destination : Contents → Key → Dialogue (Option Meta)
look_up_destination contents destination = look_up_result contents destination >>= λ found. judged (found_or_absent found)

-- the same, after the check of its parent
abbrev pub see_destination : Contents → Key → Dialogue (Option Meta)
see_destination contents destination = must_have_parent contents destination >>= λ _. look_up_destination contents destination

-- the request may replace what exists at the destination, unless `Overwrite` is `F`
abbrev pub may_overwrite : DavRequest → Bool
may_overwrite request = unwrap_or (overwrite_of request.headers) true

-- the destination is not allowed: it is the source; in a MOVE, it is below the source; or, unless Depth is 0, the source is below it
abbrev pub is_misplaced : Bool → Depth → Key → Key → Bool
is_misplaced moving depth source destination =
    is_same_key source destination || (moving && is_at_or_below destination source) || (is_deep depth && is_at_or_below source destination)

-- 412 if something exists at the destination that the request may not replace; 403 if the destination is not allowed
abbrev pub place_verdict : Bool → DavRequest → Key → Option Meta → Result (Unit {0}) DavError
place_verdict moving request destination there =
    if is_some there && not (may_overwrite request) then Err (Status 412)
    else (if is_misplaced moving (depth_or_all request) request.path.key destination then Err (Status 403) else Ok tt)

-- the locks permit the request, with these tokens, to write at and below the destination and, in a MOVE, at and below the source
abbrev pub permits_transfer : Bool → Option (List DavLock) → DavRequest → List (List ℕ) → Key → Bool
permits_transfer moving locks request tokens destination =
    (not moving || permits_by locks request.path.key request.principal true tokens) && permits_by locks destination request.principal true tokens

-- In order: the Depth and the destination, a lookup of the source, of the destination's parent and of the destination, whether the destination may be
-- replaced and is allowed (`place_verdict`), the conditions, and the locks (423).
abbrev pub transfer_rules : Bool → Settings → DavRequest → State → Dialogue Transfer
transfer_rules moving settings request state =
    judged (asked_destination moving settings request) >>= λ destination.
    must_find state.contents request.path.key >>= λ meta.
    see_destination state.contents destination.key >>= λ there.
    judged (place_verdict moving request destination.key there) >>= λ _.
    own_conditions request state (Some meta) >>= λ tokens.
    where_permitted 423 (permits_transfer moving state.locks request (submitted_tokens request) destination.key) (record { meta = meta; destination = destination; there = there })

-- ---- the removal at the destination

-- everything at the destination and below it is removed, as far as the store allows; the locks there are removed if no failure is reported
-- (`LeavesLocks`)
pub record Clears (destination : PathValue) (old : State) (records : List Logged) (names : List Item) (new : State) : Type 0 where
  pub removed : Removes Infinity destination old.contents new.contents records names
  pub locks : LeavesLocks names destination old new
  pub system : HasSameSystem old new

-- the same if something exists at the destination (`true`); otherwise no call is made, no failure is reported, and nothing changes
abbrev pub ClearsIf : Bool → PathValue → State → List Logged → List Item → State → Type 0
ClearsIf true destination old records names new = Clears destination old records names new
ClearsIf false destination old records names new = (records ≡ []) × (names ≡ []) × (new ≡ old)

-- memory ran out in the removal: what was removed stays removed, and the locks are unchanged
abbrev pub ClearsInPart : Bool → PathValue → State → List Logged → State → Type 0
ClearsInPart true destination old records new = RemovesInPart Infinity destination old.contents new.contents records × LocksStay old new
ClearsInPart false destination old records new = (records ≡ []) × (new ≡ old)

-- if no failure was reported, `Follows` comes next; otherwise no further call is made, nothing changes, and the reported failures stay the same
abbrev pub UnlessNamed : (State → List Logged → List Item → State → Type 0) → List Item → State → List Logged → List Item → State → Type 0
UnlessNamed Follows [] old records names new = Follows old records names new
UnlessNamed Follows (item ∷ left) old records names new = (records ≡ []) × (names ≡ item ∷ left) × (new ≡ old)

-- What exists at the destination is removed over the records of `removal`, with the failures `left`, and that leads to the state `between`. Unless
-- there were failures, `Follows` comes next, over the records of `after`.
pub record Replaces (Follows : State → List Logged → List Item → State → Type 0) (there : Bool) (destination : PathValue) (old : State) (records : List Logged) (names : List Item) (new : State) : Type 0 where
  pub removal : List Logged
  pub after : List Logged
  pub cut : records ≡ removal ++ after
  pub left : List Item
  pub between : State
  pub cleared : ClearsIf there destination old removal left between
  pub follows : UnlessNamed Follows left between after names new

-- what exists at the destination was removed, no failure was reported, and memory ran out in what follows
pub record ReplacesThen (Part : State → List Logged → State → Type 0) (there : Bool) (destination : PathValue) (old : State) (records : List Logged) (new : State) : Type 0 where
  pub removal : List Logged
  pub after : List Logged
  pub cut : records ≡ removal ++ after
  pub between : State
  pub cleared : ClearsIf there destination old removal [] between
  pub part : Part between after new

-- memory ran out in the removal, or in what follows
abbrev pub ReplacesInPart : (State → List Logged → State → Type 0) → Bool → PathValue → State → List Logged → State → Type 0
ReplacesInPart Part there destination old records new = ClearsInPart there destination old records new ⊎ ReplacesThen Part there destination old records new

-- ---- the reported failures

-- The work was done and appended `names` to the reported failures; the result is success if `names` is empty, else the status of its first item. Or
-- the result is `Memory`, and `Cut` holds.
abbrev pub NamesBy : (State → List Logged → List Item → State → Type 0) → (State → List Logged → State → Type 0) → State → List Logged → List Item → List Item → Result (Unit {0}) DavError → State → Type 0
NamesBy Done Cut old records had has answer new =
    ((names : List Item) × (has ≡ had ++ names) × Done old records names new × (answer ≡ first_failure names))
    ⊎ ((answer ≡ Err Memory) × Cut old records new)

-- the same for views of the engine: the log gained the records, and the facts of the store and the lock system are unchanged
pub record Names (Done : State → List Logged → List Item → State → Type 0) (Cut : State → List Logged → State → Type 0) (old : Seen) (had has : List Item) (answer : Result (Unit {0}) DavError) (new : Seen) : Type 0 where
  pub records : List Logged
  pub recorded : new.store.log ≡ old.store.log ++ records
  pub fixed : facts_of new ≡ facts_of old
  pub done : NamesBy Done Cut (state_of old) records had has answer (state_of new)

-- what exists at the destination is removed, if something does, and each failure is reported
abbrev pub Clearing : Bool → PathValue → Seen → List Item → List Item → Result (Unit {0}) DavError → Seen → Type 0
Clearing there destination = Names (ClearsIf there destination) (ClearsInPart there destination)

-- what the result reports: the reported failures or, if there are none, 204 for the source if something existed at the destination, else 201
abbrev pub transferred_items : PathValue → Option Meta → List Item → List Item
transferred_items source there [] = (source, if is_some there then 204 else 201) ∷ []
transferred_items source there (item ∷ names) = item ∷ names

-- ---- the work

-- the path by which the source is reported, with a trailing slash if it is a directory
abbrev pub source_path : DavRequest → Transfer → PathValue
source_path request found = fixed_path request.path (Some found.meta)

-- the work was done with these reported failures, and the result reports them (`transferred_items`)
pub record TransferWork (profile : Profile) (Done : State → List Logged → List Item → State → Type 0) (source : PathValue) (there : Option Meta) (old : State) (records : List Logged) (answer : Answer) (new : State) : Type 0 where
  pub names : List Item
  pub done : Done old records names new
  pub answered : answer ≡ multi_answer profile source (transferred_items source there names)
