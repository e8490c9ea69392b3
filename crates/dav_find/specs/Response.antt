-- What is reported for one resource: a single response, with what was found (RFC 4918, sections 9.1 and 14.24).
use Rattle.std.specs.Prelude.{ℕ, List, Option, Some, None, Result}
use Rattle.dav_key.specs.Key.{Key}
use Rattle.dav_resource.specs.Tree.{Tree}
use Rattle.dav_store.specs.Logged.{Logged}
use Rattle.dav_resource.specs.declared.error.DavError.{DavError}
use Rattle.dav_store.specs.Store.{Store, Contents}
use Rattle.dav_messages.specs.Dialogue.{Dialogue, Passed, ◌>>=◌, LeadsTo, Judges}
use Rattle.dav_props.specs.Propstat.{PropertyStatus}
use Rattle.dav_walks.specs.declared.listing.Resource.{Resource}
use Rattle.dav_find.specs.Asked.{AskedProperty}
use Rattle.dav_find.specs.declared.finding.Found.{Found}
use Rattle.dav_find.specs.Finding.{View, QuotaAnswer, AreKept, find_each, find_stored, findings_in}
use Rattle.dav_find.specs.Reporting.{report_of}

-- the calls for the requested properties, then the one for all stored properties, which returns them in the order of `kept`
abbrev pub response_rules : View → Contents → List AskedProperty → Resource → Option QuotaAnswer → List Tree → Dialogue (List PropertyStatus × Option QuotaAnswer)
response_rules view contents asked here quota kept =
    find_each view contents here asked quota >>= λ found.
    find_stored view contents here.path.key kept >>= λ stored.
    Passed (report_of view.kind found.0 stored, found.1)

-- over these records a dialogue ends in this value, or memory ran out on the way (`None`)
abbrev pub ComesTo : {A : Type 0} → Dialogue A → List Logged → Option A → Type 0
ComesTo dialogue records (Some a) = LeadsTo dialogue records (Passed a)
ComesTo {A} dialogue records None = (left : Dialogue A) × LeadsTo dialogue records left

-- over these records this is reported for the resource, with the quota as the store reported it so far, or memory ran out on the way
pub record Responds (view : View) (contents : Contents) (asked : List AskedProperty) (here : Resource) (quota : Option QuotaAnswer) (records : List Logged) (end : Option (List PropertyStatus × Option QuotaAnswer)) : Type 0 where
  pub kept : List Tree
  pub are : AreKept contents here.path.key kept
  pub comes : ComesTo (response_rules view contents asked here quota kept) records end

-- ---- the same for stores

-- the requested properties were looked up in order, or memory ran out, and nothing changed except the log
abbrev pub FindsEach : View → Resource → List AskedProperty → Option QuotaAnswer → Store → Result (List Found × Option QuotaAnswer) DavError → Store → Type 0
FindsEach view here asked quota old verdict new = Judges (find_each view old.contents here asked quota) old (findings_in verdict) new

-- the store was asked for all its properties, if they are requested, or memory ran out, and nothing changed except the log
pub record FindsStored (view : View) (key : Key) (old : Store) (verdict : Result (Result (List Tree) ℕ) DavError) (new : Store) : Type 0 where
  pub kept : List Tree
  pub are : AreKept old.contents key kept
  pub held : Judges (find_stored view old.contents key kept) old verdict new

-- this is reported for the resource, or memory ran out, and nothing changed except the log
pub record IsResponse (view : View) (asked : List AskedProperty) (here : Resource) (quota : Option QuotaAnswer) (old : Store) (verdict : Result (List PropertyStatus × Option QuotaAnswer) DavError) (new : Store) : Type 0 where
  pub kept : List Tree
  pub are : AreKept old.contents here.path.key kept
  pub held : Judges (response_rules view old.contents asked here quota kept) old verdict new
