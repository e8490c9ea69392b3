-- PROPPATCH (RFC 4918, section 9.2): sets and removes properties, all of them or none.
use Rattle.std.specs.Prelude.{◌≡◌, ◌≢◌, ◌⊎◌, ℕ, Bool, if◌then◌else◌, List, [], ◌∷◌, codes, length, replicate, Option, Some, None, Result, Ok, Err}
use Rattle.std.specs.FinMap.{get}
use Rattle.http.specs.declared.version.TheConstants.Version.{HTTP_11}
use Rattle.dav_resource.specs.Errors.{from_fs}
use Rattle.dav_key.specs.Key.{Key}
use Rattle.dav_resource.specs.PathText.{PathValue}
use Rattle.dav_resource.specs.Profile.{xml_type}
use Rattle.dav_resource.specs.declared.error.FsError.{FsError}
use Rattle.dav_resource.specs.declared.error.FsError.TheVariants.{GeneralFailure}
use Rattle.dav_resource.specs.declared.meta.Meta.{Meta}
use Rattle.dav_resource.specs.declared.profile.Profile.{Profile}
use Rattle.dav_resource.specs.declared.record.Op.TheVariants.{PatchProps}
use Rattle.dav_resource.specs.declared.record.Outcome.{Outcome}
use Rattle.dav_resource.specs.declared.record.Outcome.TheVariants.{Granted, Refused}
use Rattle.dav_resource.specs.declared.request.Body.{Body}
use Rattle.dav_resource.specs.declared.request.DavRequest.{DavRequest}
use Rattle.dav_store.specs.Calls.{Call, IsLawful, error_of, record_of}
use Rattle.dav_store.specs.Logged.{Logged}
use Rattle.dav_store.specs.PropertyCalls.{Patch, properties_bar, patch_record, IsPatchedAt}
use Rattle.dav_store.specs.Store.{Contents}
use Rattle.dav_messages.specs.Dialogue.{Dialogue, Passed, Refuses, ◌>>=◌}
use Rattle.dav_messages.specs.Reply.{Reply, Answer, field}
use Rattle.dav_props.specs.Propstat.{Group, grouped, property_response, property_multistatus}
use Rattle.dav_props.specs.Update.{Change, update_verdict, some_refused, patches_of, failed_report, made_report}
use Rattle.dav_engine.specs.Answered.{Unbegun}
use Rattle.dav_engine.specs.Location.{location_fields}
use Rattle.dav_engine.specs.Rules.{judged, must_find, path_rules, fixed_path}
use Rattle.dav_engine.specs.State.{State}

-- ---- the response

-- 207, with one response element that reports the properties, grouped by status
abbrev pub proppatch_reply : Profile → PathValue → Option Meta → List Group → Reply
proppatch_reply profile path found groups =
    record {
      status = 207;
      version = HTTP_11;
      headers = field (codes "content-type") (xml_type profile) ∷ location_fields path found;
      body = Body.Tree (property_multistatus (property_response profile (fixed_path path found) groups ∷ []));
    }

-- ---- the rules

-- what the rules pass on: what was found at the path, and the requested changes
abbrev pub Update : Type 0
Update = Option Meta × List Change

-- in order: a lookup of the path that must succeed, the conditions, and the locks that cover the path
abbrev pub found_rules : DavRequest → State → Dialogue (Option Meta)
found_rules request state = must_find state.contents request.path.key >>= λ meta. path_rules request state (Some meta)

-- if some change is rejected before the store is asked, the request ends with a response that reports all changes as failed
abbrev pub unless_some_refused : Profile → DavRequest → Option Meta → List Change → Dialogue Update
unless_some_refused profile request found changes =
    if some_refused changes then Refuses (Ok (proppatch_reply profile request.path found (grouped (failed_report changes)))) else Passed (found, changes)

-- after `found_rules` the body is read, and each change gets its status before the store is asked; the status depends on the profile and on whether the
-- store supports dead properties
abbrev pub proppatch_rules : Profile → Bool → DavRequest → State → Dialogue Update
proppatch_rules profile keeps request state =
    found_rules request state >>= λ found.
    judged (update_verdict profile keeps request.body) >>= unless_some_refused profile request found

-- ---- the work: the store's call and its result

-- the `patch_props` call on a key, for a store that supports dead properties or does not
abbrev pub patch_call : Bool → Contents → Key → Call
patch_call keeps contents key = record { op = PatchProps; keys = key ∷ []; bar = properties_bar keeps (get contents.tree key) }

-- the statuses if all changes are made: 200 for each
abbrev pub all_made : List Patch → List ℕ
all_made patches = replicate (length patches) 200

-- there are no changes for the store: no call is made, there are no statuses, and nothing changes
pub record AsksNothing (old : Contents) (records : List Logged) (store_answer : Result (List ℕ) FsError) (new : Contents) : Type 0 where
  pub none : records ≡ []
  pub returns_none : store_answer ≡ Ok []
  pub same : new ≡ old

module _ (keeps : Bool) (key : Key) (patches : List Patch) (old : Contents) (records : List Logged) (store_answer : Result (List ℕ) FsError) (new : Contents) where
  -- all changes are made, in order, and the status of each is 200
  pub record MakesAll : Type 0 where
    pub allowed : (patch_call keeps old key).bar ≡ None
    pub called : records ≡ patch_record key Granted (all_made patches) ∷ []
    pub returns_all : store_answer ≡ Ok (all_made patches)
    pub made : IsPatchedAt key patches old new

  -- no change is made; there is a status for each, and not all are 200
  pub record MakesNone : Type 0 where
    pub statuses : List ℕ
    pub each : length statuses ≡ length patches
    pub not_all : statuses ≢ all_made patches
    pub called : records ≡ patch_record key (Refused GeneralFailure) statuses ∷ []
    pub returns_each : store_answer ≡ Ok statuses
    pub same : new ≡ old

  -- the call fails, and no change is made
  pub record IsPatchRefused : Type 0 where
    pub error : FsError
    pub outcome : Outcome
    pub cause : error_of outcome ≡ Some error
    pub lawful : IsLawful (patch_call keeps old key).bar outcome
    pub called : records ≡ record_of (patch_call keeps old key) outcome ∷ []
    pub returns_error : store_answer ≡ Err error
    pub same : new ≡ old

-- one call for all changes; no call if there are none
abbrev pub MakesChanges : Bool → Key → List Patch → Contents → List Logged → Result (List ℕ) FsError → Contents → Type 0
MakesChanges keeps key [] old records store_answer new = AsksNothing old records store_answer new
MakesChanges keeps key (patch ∷ patches) old records store_answer new =
    MakesAll keeps key (patch ∷ patches) old records store_answer new
    ⊎ MakesNone keeps key (patch ∷ patches) old records store_answer new
    ⊎ IsPatchRefused keeps key (patch ∷ patches) old records store_answer new

-- the result: a response that reports the statuses that the store returned, or the error of its call
abbrev pub stored_answer : Profile → DavRequest → Update → Result (List ℕ) FsError → Answer
stored_answer profile request update (Ok statuses) = Ok (proppatch_reply profile request.path update.0 (grouped (made_report update.1 statuses)))
stored_answer profile request update (Err e) = Err (from_fs e)

-- the store makes all changes to dead properties or none, and the result reports what it returned
pub record ProppatchWork (profile : Profile) (keeps : Bool) (request : DavRequest) (update : Update) (old : Contents) (records : List Logged) (answer : Answer) (new : Contents) : Type 0 where
  pub store_answer : Result (List ℕ) FsError
  pub stored : MakesChanges keeps request.path.key (patches_of update.1) old records store_answer new
  pub answered : answer ≡ stored_answer profile request update store_answer

-- memory ran out before the store was asked, or after it returned its statuses
abbrev pub ProppatchCut : Bool → DavRequest → Update → Contents → List Logged → Contents → Type 0
ProppatchCut keeps request update old records new =
    Unbegun old records new ⊎ ((statuses : List ℕ) × MakesChanges keeps request.path.key (patches_of update.1) old records (Ok statuses) new)
