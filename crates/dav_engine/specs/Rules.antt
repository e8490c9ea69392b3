-- The checks before a request changes anything: its conditions, and the locks (RFC 4918, sections 7 and 10.4; RFC 7232).
use Rattle.std.specs.Prelude.{ℕ, Bool, true, false, ◌||◌, if◌then◌else◌, List, Option, Some, None, unwrap_or, Result, Ok, Err}
use Rattle.std.specs.Option.{option_map_or}
use Rattle.dav_key.specs.Key.{Key}
use Rattle.dav_resource.specs.declared.meta.Meta.{Meta}
use Rattle.dav_resource.specs.declared.record.Outcome.{Outcome}
use Rattle.dav_resource.specs.declared.record.Outcome.TheVariants.{Granted, Barred, Refused}
use Rattle.dav_resource.specs.declared.error.FsError.{FsError}
use Rattle.dav_resource.specs.declared.error.FsError.TheVariants.{NotFound}
use Rattle.dav_resource.specs.declared.error.DavError.{DavError}
use Rattle.dav_resource.specs.declared.error.DavError.TheVariants.{Status, StatusClose}
use Rattle.dav_resource.specs.declared.request.Depth.{Depth}
use Rattle.dav_resource.specs.declared.request.Depth.TheVariants.{Zero, One, Infinity}
use Rattle.dav_resource.specs.declared.request.DavRequest.{DavRequest}
use Rattle.dav_resource.specs.PathText.{PathValue}
use Rattle.dav_resource.specs.Errors.{from_fs}
use Rattle.dav_headers.specs.Depth.{depth_of}
use Rattle.dav_store.specs.Store.{Contents}
use Rattle.dav_store.specs.Calls.{metadata_call}
use Rattle.dav_store.specs.Locks.{permits}
use Rattle.dav_store.specs.declared.lock.DavLock.{DavLock}
use Rattle.dav_messages.specs.Conditions.{conditions, if_match, dav_if_match, unless_refused, submitted_tokens}
use Rattle.dav_messages.specs.Dialogue.{Dialogue, Asks, Refuses, Passed, look_up, ◌>>=◌}
use Rattle.dav_engine.specs.State.{State}

-- the locks permit this principal, with these submitted tokens, to write at the key or, with `deep`, at and below it; without a lock system
-- everything is permitted
abbrev pub permits_by : Option (List DavLock) → Key → Option (List ℕ) → Bool → List (List ℕ) → Bool
permits_by locks key principal deep tokens = option_map_or (λ list. permits list key principal false deep tokens) locks true

-- the same for the principal of the request and the tokens that it submits
abbrev pub is_permitted : DavRequest → State → Key → Bool → Bool
is_permitted request state key deep = permits_by state.locks key request.principal deep (submitted_tokens request)

-- passes the value if this is permitted; otherwise rejects the request with this status
abbrev pub where_permitted : {A : Type 0} → ℕ → Bool → A → Dialogue A
where_permitted status permitted a = if permitted then Passed a else Refuses (Err (Status status))

-- the conditions of a request at its own path in this state, where `found` was found; they pass on the tokens that it submits
abbrev pub own_conditions : DavRequest → State → Option Meta → Dialogue (List (List ℕ))
own_conditions request state found = conditions state.contents state.locks request found request.path

-- the status with which the conditions reject the request, if they do
abbrev pub own_if_match : DavRequest → State → Option Meta → Dialogue (Option ℕ)
own_if_match request state found = if_match state.contents state.locks request found request.path

-- the `If` header only: whether it holds, and the tokens that it submits
abbrev pub own_if : DavRequest → State → Dialogue (Bool × List (List ℕ))
own_if request state = dav_if_match state.contents state.locks request request.path

-- the rules of a request that changes only the resource at its path: its conditions, and then the locks that cover the path (423)
abbrev pub path_rules : DavRequest → State → Option Meta → Dialogue (Option Meta)
path_rules request state found =
    own_conditions request state found >>= λ _.
    where_permitted 423 (is_permitted request state request.path.key false) found

-- the same after a lookup of the path; a failed lookup counts as finding nothing
abbrev pub shallow_rules : DavRequest → State → Dialogue (Option Meta)
shallow_rules request state = look_up state.contents request.path.key >>= path_rules request state

-- the conditions only: the request is rejected if they do not hold
abbrev pub holding : DavRequest → State → Option Meta → Dialogue (Unit {0})
holding request state found = own_if_match request state found >>= λ refusal. unless_refused refusal (Passed tt)

-- a check that makes no call: it passes its value, or rejects the request with its error
abbrev pub judged : {A : Type 0} → Result A DavError → Dialogue A
judged (Ok a) = Passed a
judged (Err e) = Refuses (Err e)

-- the result of a lookup: the metadata if the call was granted, else its error; a granted call without metadata counts as `NotFound`
abbrev pub lookup_result : Outcome → Option Meta → Result Meta FsError
lookup_result Granted (Some meta) = Ok meta
lookup_result Granted None = Err NotFound
lookup_result (Barred e) meta = Err e
lookup_result (Refused e) meta = Err e

-- a lookup of a key, which passes on its result even if it fails
abbrev pub look_up_result : Contents → Key → Dialogue (Result Meta FsError)
look_up_result contents key = Asks (metadata_call contents key) (λ outcome. Passed (lookup_result outcome (contents.metas key)))

-- passes the value, or rejects the request with the store's error
abbrev pub or_refused : {A : Type 0} → Result A FsError → Dialogue A
or_refused (Ok a) = Passed a
or_refused (Err e) = Refuses (Err (from_fs e))

-- a lookup of a key; if it fails, the request is rejected with the store's error
abbrev pub must_find : Contents → Key → Dialogue Meta
must_find contents key = Asks (metadata_call contents key) (λ outcome. or_refused (lookup_result outcome (contents.metas key)))

-- ---- what several methods read from a request

-- the Depth of the request; a missing or unreadable one counts as infinity
abbrev pub depth_or_all : DavRequest → Depth
depth_or_all request = unwrap_or (depth_of request.headers) Infinity

-- Depth 1 is rejected: 400
abbrev pub depth_verdict : Depth → Result (Unit {0}) DavError
depth_verdict One = Err (Status 400)
depth_verdict _ = Ok tt

-- everything below the resource is included
abbrev pub is_deep : Depth → Bool
is_deep Zero = false
is_deep depth = true

-- a directory was found
abbrev pub is_directory : Option Meta → Bool
is_directory found = option_map_or (λ (m : Meta). m.dir) found false

-- the path, with a trailing slash if a directory was found
abbrev pub fixed_path : PathValue → Option Meta → PathValue
fixed_path path found = record path { slash = path.slash || is_directory found }

-- what was found, without the other value that the rules pass on; an error stays the same
abbrev pub found_in : {A : Type 0} → Result (Option Meta × A) DavError → Result (Option Meta) DavError
found_in (Ok passed) = Ok passed.0
found_in (Err e) = Err e

-- a `Status` error with the connection closed after it (`StatusClose`); every other error stays the same
abbrev pub closing : DavError → DavError
closing (Status status) = StatusClose status
closing e = e
