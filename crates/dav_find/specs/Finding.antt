-- What is found for the requested properties, and by which calls (RFC 4918, sections 9.1 and 15; RFC 4331): live properties whose values the server
-- knows, and properties that the store keeps and returns.
use Rattle.std.specs.Prelude.{ℕ, Bool, true, ◌&&◌, not, if◌then◌else◌, List, [], ◌∷◌, map, Option, Some, None, Result, Ok, Err, IsPermutation}
use Rattle.std.specs.FinMap.{get, entries}
use Rattle.std.specs.Option.{option_map, ok_or}
use Rattle.dav_resource.specs.Errors.{fs_status}
use Rattle.dav_key.specs.Key.{Key}
use Rattle.dav_resource.specs.Tree.{Tree}
use Rattle.dav_resource.specs.declared.error.DavError.{DavError}
use Rattle.dav_resource.specs.declared.record.Op.TheVariants.{GetProps}
use Rattle.dav_resource.specs.declared.record.Outcome.{Outcome}
use Rattle.dav_resource.specs.declared.record.Outcome.TheVariants.{Granted, Barred, Refused}
use Rattle.dav_store.specs.Calls.{Call}
use Rattle.dav_store.specs.PropertyCalls.{get_prop_call, get_quota_call, properties_at, properties_bar}
use Rattle.dav_store.specs.Store.{Contents, Quota, property_key}
use Rattle.dav_store.specs.declared.lock.DavLock.{DavLock}
use Rattle.dav_messages.specs.Dialogue.{Dialogue, Asks, Passed, ◌>>=◌}
use Rattle.dav_resource.specs.declared.profile.Profile.{Profile}
use Rattle.dav_resource.specs.declared.property.DavProp.{DavProp}
use Rattle.dav_props.specs.Live.{is_kept}
use Rattle.dav_props.specs.Property.{prop_named}
use Rattle.dav_live.specs.Viewing.{Asker}
use Rattle.dav_live.specs.Names.{live_property_of, is_quota}
use Rattle.dav_live.specs.Live.{live_value}
use Rattle.dav_live.specs.declared.property.LiveProperty.{LiveProperty}
use Rattle.dav_walks.specs.declared.listing.Resource.{Resource}
use Rattle.dav_find.specs.declared.search.FindKind.{FindKind}
use Rattle.dav_find.specs.Asked.{AskedProperty}
use Rattle.dav_find.specs.declared.finding.Found.{Found}
use Rattle.dav_find.specs.Asked.{names_only, named_only}

-- the kind of search, whether the store supports dead properties, which members a listing may show, the locks if there is a lock system, the
-- principal and client of the request, and the profile of the engine
pub record View : Type 0 where
  pub kind : FindKind
  pub keeps : Bool
  pub shows : Key → Bool
  pub locks : Option (List DavLock)
  pub principal : Option (List ℕ)
  pub user_agent : Option (List ℕ)
  pub profile : Profile

-- ---- what a call returns

-- the value if the call was granted, 404 if there is none or the call was barred, the status of the error if the call was refused
abbrev pub returned_by : {A : Type 0} → Outcome → Option A → Result A ℕ
returned_by Granted there = ok_or there 404
returned_by (Barred e) there = Err 404
returned_by (Refused e) there = Err (fs_status e)

-- the bytes used, and the total if there is a limit, or the status for which the quota is not reported
abbrev pub QuotaAnswer : Type 0
QuotaAnswer = Result (ℕ × Option ℕ) ℕ

abbrev pub quota_pair : Quota → ℕ × Option ℕ
quota_pair quota = (quota.used, quota.total)

-- the store is asked for its quota once
abbrev pub ask_quota : Contents → Option QuotaAnswer → Dialogue QuotaAnswer
ask_quota contents (Some answer) = Passed answer
ask_quota contents None = Asks (get_quota_call contents) (λ outcome. Passed (returned_by outcome (option_map quota_pair contents.quota)))

-- ---- a live property

-- the quota, if the store reported it
abbrev pub quota_in : Option QuotaAnswer → Option (ℕ × Option ℕ)
quota_in None = None
quota_in (Some (Ok quota)) = Some quota
quota_in (Some (Err status)) = None

-- the status for which the quota was not reported, otherwise 404
abbrev pub quota_status : Option QuotaAnswer → ℕ
quota_status None = 404
quota_status (Some (Ok quota)) = 404
quota_status (Some (Err status)) = status

abbrev pub asker_with : View → Option QuotaAnswer → Asker
asker_with view quota =
    record { principal = view.principal; user_agent = view.user_agent; quota = quota_in quota; profile = view.profile }

-- the property as it is reported, or if its value is not known, the status in `quota` if there is one, otherwise 404
abbrev pub live_result : View → Resource → Tree → LiveProperty → Option QuotaAnswer → Result Tree ℕ
live_result view here element property quota =
    ok_or (live_value property element (names_only view.kind) (asker_with view quota) view.locks here.path.key here.meta) (quota_status quota)

-- a property of the store's quota, which the store is asked for if it was not yet
abbrev pub find_quota : View → Contents → Resource → Tree → LiveProperty → Option QuotaAnswer → Dialogue (Result Tree ℕ × Option QuotaAnswer)
find_quota view contents here element property quota =
    ask_quota contents quota >>= λ answer. Passed (live_result view here element property (Some answer), Some answer)

abbrev pub find_live : View → Contents → Resource → Tree → LiveProperty → Option QuotaAnswer → Dialogue (Result Tree ℕ × Option QuotaAnswer)
find_live view contents here element property quota =
    if is_quota property then find_quota view contents here element property quota else Passed (live_result view here element property None, quota)

-- ---- a dead property

abbrev pub name_in : Tree → Key
name_in element = property_key element.tag.namespace element.tag.name

-- the property is looked up only for `prop`, if the store supports dead properties and can keep this one
abbrev pub is_looked_up : View → Tree → Bool
is_looked_up view element = view.keeps && named_only view.kind && is_kept element

-- the name by which the store is asked for it, if it is
abbrev pub looked_up : View → Tree → Option DavProp
looked_up view element = if is_looked_up view element then Some (prop_named element None) else None

abbrev pub find_kept : View → Contents → Resource → Tree → Dialogue (Result Tree ℕ)
find_kept view contents here element =
    if is_looked_up view element
    then Asks (get_prop_call contents here.path.key (name_in element)) (λ outcome. Passed (returned_by outcome (get (properties_at contents here.path.key) (name_in element))))
    else Passed (Err 404)

-- ---- each requested property

abbrev pub find_by : View → Contents → Resource → Tree → Option LiveProperty → Option QuotaAnswer → Dialogue (Result Tree ℕ × Option QuotaAnswer)
find_by view contents here element (Some property) quota = find_live view contents here element property quota
find_by view contents here element None quota = find_kept view contents here element >>= λ value. Passed (value, quota)

abbrev pub find_one : View → Contents → Resource → Tree → Option QuotaAnswer → Dialogue (Result Tree ℕ × Option QuotaAnswer)
find_one view contents here element quota = find_by view contents here element (live_property_of element.tag.namespace element.tag.name) quota

-- a requested property, and what was found for it: the element to report, or the status that says why there is none
pub record Finding : Type 0 where
  pub asked : AskedProperty
  pub value : Result Tree ℕ

abbrev pub finding_of : Found → Finding
finding_of found = record { asked = found.asked.now; value = found.value }

-- the findings of a result, or its error
abbrev pub findings_in : Result (List Found × Option QuotaAnswer) DavError → Result (List Finding × Option QuotaAnswer) DavError
findings_in (Ok found) = Ok (map finding_of found.0, found.1)
findings_in (Err e) = Err e

-- each property in order, and what the store reported as its quota so far
unfoldable pub find_each : View → Contents → Resource → List AskedProperty → Option QuotaAnswer → Dialogue (List Finding × Option QuotaAnswer)
find_each view contents here [] quota = Passed ([], quota)
find_each view contents here (asked ∷ more) quota =
    find_one view contents here asked.element quota >>= λ one.
    find_each view contents here more one.1 >>= λ others.
    Passed (record { asked = asked; value = one.0 } ∷ others.0, others.1)

-- ---- all dead properties

-- the elements of all properties stored at the key, each once, in some order
abbrev pub AreKept : Contents → Key → List Tree → Type 0
AreKept contents key kept = IsPermutation (map (λ e. e.1) (entries (properties_at contents key))) kept

-- the `get_props` call, of a store that supports dead properties
abbrev pub props_call : Contents → Key → Call
props_call contents key = record { op = GetProps; keys = key ∷ []; bar = properties_bar true (get contents.tree key) }

-- the store is asked for all properties that it keeps, unless the request names the properties (`prop`)
abbrev pub is_all_sought : View → Bool
is_all_sought view = view.keeps && not (named_only view.kind)

-- all stored properties, in the order in which the store returns them, or none if the store is not asked
abbrev pub find_stored : View → Contents → Key → List Tree → Dialogue (Result (List Tree) ℕ)
find_stored view contents key kept =
    if is_all_sought view then Asks (props_call contents key) (λ outcome. Passed (returned_by outcome (Some kept))) else Passed (Ok [])
