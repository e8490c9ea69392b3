-- How what was found is reported, each property with its status (RFC 4918, sections 9.1, 14.2, 14.18, 14.21 and 14.22).
use Rattle.std.specs.Prelude.{ℕ, ◌||◌, not, if◌then◌else◌, List, [], ◌∷◌, ◌++◌, map, filter, filter_map, Option, Some, None, Result, Ok, Err}
use Rattle.std.specs.List.{flat_map}
use Rattle.dav_resource.specs.Tree.{Tree}
use Rattle.dav_props.specs.Live.{is_kept}
use Rattle.dav_props.specs.Property.{bare}
use Rattle.dav_props.specs.Propstat.{PropertyStatus}
use Rattle.dav_find.specs.declared.search.FindKind.{FindKind}
use Rattle.dav_find.specs.declared.search.FindKind.TheVariants.{AllProp, PropName, Prop}
use Rattle.dav_find.specs.Asked.{AskedProperty}
use Rattle.dav_find.specs.Asked.{is_among}
use Rattle.dav_find.specs.Finding.{Finding}

-- the stored properties that the store returned, none if the call failed
abbrev pub kept_in : Result (List Tree) ℕ → List Tree
kept_in (Ok kept) = kept
kept_in (Err status) = []

-- the status of a property that was not found: that of the failed call for all stored properties, if the store can keep this one, otherwise its own
-- status
abbrev pub missing_status : Result (List Tree) ℕ → Tree → ℕ → ℕ
missing_status (Ok kept) element status = status
missing_status (Err refused) element status = if is_kept element then refused else status

-- a property that was found is reported with 200. One that was not is reported by name with its status, unless it is among the returned stored
-- properties, or only the server's own list names it.
abbrev pub report_by : Result (List Tree) ℕ → AskedProperty → Result Tree ℕ → List PropertyStatus
report_by stored asked (Ok element) = (200, element) ∷ []
report_by stored asked (Err status) =
    if asked.by_server || is_among asked.element (kept_in stored) then [] else (missing_status stored asked.element status, bare asked.element) ∷ []

abbrev pub report_one : Result (List Tree) ℕ → Finding → List PropertyStatus
report_one stored found = report_by stored found.asked found.value

-- the requested properties that were found
abbrev pub given_by : AskedProperty → Result Tree ℕ → Option Tree
given_by asked (Ok element) = Some asked.element
given_by asked (Err status) = None

abbrev pub given_in : List Finding → List Tree
given_in found = filter_map (λ (one : Finding). given_by one.asked one.value) found

-- `allprop`: the stored properties, except those that were found already. `propname`: the names of all stored properties, also of those that were
-- found already.
abbrev pub report_stored : FindKind → List Finding → List Tree → List PropertyStatus
report_stored AllProp found kept = map (λ element. (200, element)) (filter (λ element. not (is_among element (given_in found))) kept)
report_stored PropName found kept = map (λ element. (200, bare element)) kept
report_stored Prop found kept = []

abbrev pub report_of : FindKind → List Finding → Result (List Tree) ℕ → List PropertyStatus
report_of kind found stored = flat_map (report_one stored) found ++ report_stored kind found (kept_in stored)
