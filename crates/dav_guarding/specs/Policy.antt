-- What a policy refuses, and what that leaves to a caller: this project's own choice.
use Rattle.std.specs.Prelude.{◌≡◌, Bool, true, not, List, [], ◌∷◌, map, if◌then◌else◌, Some, None, Result}
use Rattle.dav_key.specs.Key.{Key}
use Rattle.dav_resource.specs.declared.record.Op.{Op}
use Rattle.dav_resource.specs.declared.record.Op.TheVariants.{Entry}
use Rattle.dav_resource.specs.declared.record.Outcome.{Outcome}
use Rattle.dav_resource.specs.declared.record.Outcome.TheVariants.{Granted, Barred, Refused}
use Rattle.dav_resource.specs.declared.record.Record.{Record}
use Rattle.dav_resource.specs.declared.error.FsError.TheVariants.{Forbidden}
use Rattle.dav_store.specs.Logged.{Logged, logged_of}
use Rattle.dav_resource.specs.PathText.{PathValue}
use Rattle.dav_resource.specs.declared.meta.DirEntry.{DirEntry}
use Rattle.dav_resource.specs.declared.error.FsError.{FsError}
use Rattle.dav_store.specs.Members.{Child, IsIn}
use Rattle.dav_wrapping.specs.Wrapping.{Leave}
use Rattle.dav_wrapping.specs.Hiding.{Why, IsListingOf}
use Rattle.dav_wrapping.specs.Underway.{IsHidden}

-- which calls are refused, by their kind and the keys of their paths
abbrev pub Refusals : Type 0
Refusals = Op → List Key → Bool

-- a call is allowed if it is not refused, and a member may be shown if its entry is not
abbrev pub leave_by : Refusals → Leave
leave_by refuses = record { allows = λ facts call. not (refuses call.op call.keys); shows = λ facts key. not (refuses Entry (key ∷ [])) }

-- why a member is hidden: its entry is refused
abbrev pub why_by : Refusals → Why
why_by refuses key = if refuses Entry (key ∷ []) then Some Forbidden else None

-- the outcome reveals something of what the store contains: the call was granted or barred, and not refused
abbrev pub Reveals : Outcome → Type 0
Reveals Granted = Unit {0}
Reveals (Barred e) = Unit {0}
Reveals (Refused e) = ⊥

-- each call whose outcome reveals something is allowed
abbrev pub AreAllowed : Refusals → List Record → Type 0
AreAllowed refuses records = (call : Logged) → IsIn call (map logged_of records) → Reveals call.outcome → not (refuses call.op call.keys) ≡ true

-- the members whose entries are refused are hidden, whichever members the listing has; `hidden` has the records of those that it did not list before
abbrev pub HidesRefused : Refusals → PathValue → List (Result DirEntry FsError) → List Record → List (Result DirEntry FsError) → List Record → Type 0
HidesRefused refuses directory listing hidden shown unseen = (children : List Child) → IsListingOf directory.key children listing hidden → IsHidden (why_by refuses) directory children hidden shown unseen
