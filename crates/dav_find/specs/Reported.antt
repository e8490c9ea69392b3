-- How a PROPFIND reports each resource of its range: under which path, and which properties (RFC 4918, section 9.1).
use Rattle.std.specs.Prelude.{◌≡◌, ◌⊎◌, ◌||◌, ℕ, Bool, true, false, List, [], ◌∷◌, ◌++◌, map, Option, Some, None, Result, Ok}
use Rattle.std.specs.FinMap.{get}
use Rattle.std.specs.Option.{option_map}
use Rattle.dav_key.specs.Key.{Key}
use Rattle.dav_resource.specs.PathText.{PathValue}
use Rattle.dav_resource.specs.Tree.{Tree}
use Rattle.dav_resource.specs.declared.meta.Meta.{Meta}
use Rattle.dav_resource.specs.declared.record.Outcome.{Outcome}
use Rattle.dav_store.specs.Logged.{Logged}
use Rattle.dav_store.specs.Members.{IsIn}
use Rattle.dav_store.specs.Store.{Contents, Node, Directory}
use Rattle.dav_messages.specs.Dialogue.{LeadsTo, Passed}
use Rattle.dav_props.specs.Propstat.{PropertyStatus}
use Rattle.dav_walks.specs.declared.listing.Resource.{Resource}
use Rattle.dav_find.specs.Asked.{AskedProperty}
use Rattle.dav_find.specs.declared.search.FindKind.{FindKind}
use Rattle.dav_find.specs.declared.search.FindKind.TheVariants.{Prop}
use Rattle.dav_find.specs.Finding.{View, QuotaAnswer, Finding, AreKept, is_all_sought, returned_by, quota_pair, find_one}
use Rattle.dav_find.specs.Reporting.{report_of}
use Rattle.dav_find.specs.Visiting.{Visit}

-- ---- paths

abbrev pub is_directory_node : Option Node → Bool
is_directory_node (Some Directory) = true
is_directory_node _ = false

-- a directory exists at the key
abbrev pub is_directory_at : Contents → Key → Bool
is_directory_at contents key = is_directory_node (get contents.tree key)

-- The path under which the resource at `x` below the request's path is reported. Its prefix is the request's. It has a trailing slash exactly if the
-- resource is a directory. The request's own resource (x is empty) has the request's path, with a slash added if it is a directory.
abbrev pub path_at : Contents → PathValue → Key → PathValue
path_at contents top [] = record top { slash = top.slash || is_directory_at contents top.key }
path_at contents top (name ∷ x) =
    record { star = false; slash = is_directory_at contents (top.key ++ name ∷ x); prefix = top.prefix; key = top.key ++ name ∷ x }

-- ---- properties

-- the store was asked for all its properties: these are all that it keeps at the key, in the order in which it returned them, or the call failed with
-- this status
pub record ReturnsStored (contents : Contents) (key : Key) (stored : Result (List Tree) ℕ) : Type 0 where
  pub kept : List Tree
  pub are : AreKept contents key kept
  pub outcome : Outcome
  pub is : stored ≡ returned_by outcome (Some kept)

-- if the store is asked for all its properties, it returns them (`ReturnsStored`); otherwise none are reported
abbrev pub IsStored : Bool → Contents → Key → Result (List Tree) ℕ → Type 0
IsStored true contents key stored = ReturnsStored contents key stored
IsStored false contents key stored = stored ≡ Ok []

-- the store was not asked for its quota yet, or this is what it reported: the quota of the contents, or the status of the failed call
abbrev pub IsQuotaAnswer : Contents → Option QuotaAnswer → Type 0
IsQuotaAnswer contents answer = (answer ≡ None) ⊎ ((outcome : Outcome) × (answer ≡ Some (returned_by outcome (option_map quota_pair contents.quota))))

-- what was found for a requested property is what its lookup at this resource gives (`find_one`)
pub record IsFoundAt (view : View) (contents : Contents) (here : Resource) (one : Finding) : Type 0 where
  pub quota : Option QuotaAnswer
  pub reported : IsQuotaAnswer contents quota
  pub next : Option QuotaAnswer
  pub records : List Logged
  pub leads : LeadsTo (find_one view contents here one.asked.element quota) records (Passed (one.value, next))

-- For each requested property, in order, there is one finding, which is what its lookup gives. Nothing is reported except these and, if all are
-- requested, the stored properties (`report_of`).
pub record ReportsAsked (view : View) (contents : Contents) (asked : List AskedProperty) (here : Resource) (reports : List PropertyStatus) : Type 0 where
  pub found : List Finding
  pub stored : Result (List Tree) ℕ
  pub each : map (λ (one : Finding). one.asked) found ≡ asked
  pub by_lookup : (one : Finding) → IsIn one found → IsFoundAt view contents here one
  pub kept : IsStored (is_all_sought view) contents here.path.key stored
  pub reported : reports ≡ report_of view.kind found stored

-- ---- a reported resource

-- it exists at or below the request's path, is reported under its own path (`path_at`), and with the requested properties (`ReportsAsked`)
pub record IsReported (view : View) (contents : Contents) (asked : List AskedProperty) (top : PathValue) (visit : Visit) : Type 0 where
  pub below : Key
  pub path : visit.path ≡ path_at contents top below
  pub meta : Meta
  pub there : contents.metas visit.path.key ≡ Some meta
  pub properties : ReportsAsked view contents asked (record { path = visit.path; meta = meta }) visit.reported

abbrev pub AreReported : View → Contents → List AskedProperty → PathValue → List Visit → Type 0
AreReported view contents asked top visits = (visit : Visit) → IsIn visit visits → IsReported view contents asked top visit

-- the local names of a reported and of a requested property
abbrev pub reported_name : PropertyStatus → List ℕ
reported_name property = property.1.tag.name

abbrev pub asked_name : AskedProperty → List ℕ
asked_name asked = asked.element.tag.name

-- with `prop`, each resource is reported with exactly the requested properties by their local names: one each, in the order of the list
abbrev pub AreNamedAsAsked : FindKind → List AskedProperty → List Visit → Type 0
AreNamedAsAsked kind asked visits =
    kind ≡ Prop → (visit : Visit) → IsIn visit visits → map reported_name visit.reported ≡ map asked_name asked
