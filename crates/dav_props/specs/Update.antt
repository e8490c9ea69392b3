-- What the body of a PROPPATCH requests (RFC 4918, sections 9.2, 14.18, 14.19, 14.23 and 14.26). Elements are recognized only by their local names.
use Rattle.std.specs.Prelude.{ℕ, Bool, true, false, ◌&&◌, ◌||◌, not, nat_eq, if◌then◌else◌, List, [], ◌++◌, map, filter, codes, Some, None, Result, Ok, Err}
use Rattle.std.specs.List.{flat_map, list_any, zip}
use Rattle.std.specs.Option.{unwrap_or}
use Rattle.dav_resource.specs.Tree.{Tree, elements_of}
use Rattle.dav_resource.specs.declared.error.DavError.{DavError}
use Rattle.dav_resource.specs.declared.error.DavError.TheVariants.{XmlParseError}
use Rattle.dav_resource.specs.declared.profile.Profile.{Profile}
use Rattle.dav_resource.specs.declared.property.PropertyPatch.TheVariants.{Set, Remove}
use Rattle.dav_resource.specs.declared.request.ReqBody.{ReqBody}
use Rattle.dav_resource.specs.declared.request.ReqBody.TheVariants as bodies
use Rattle.dav_store.specs.PropertyCalls.{Patch}
use Rattle.dav_messages.specs.DavElement.{is_named}
use Rattle.dav_props.specs.Live.{kind_of, time_in, patch_of_time, set_status, remove_status}
use Rattle.dav_props.specs.Property.{bare, prop_named}
use Rattle.dav_props.specs.Propstat.{PropertyStatus}
use Rattle.dav_props.specs.declared.update.PropertyChange.{PropertyChange}

-- a property that is set or removed, and its status before the store is called
pub record Change : Type 0 where
  pub set : Bool
  pub element : Tree
  pub status : ℕ

abbrev pub change_of : PropertyChange → Change
change_of change = record { set = change.set; element = change.element.now; status = change.status }

-- ---- what the body requests

-- The change that sets a property (`true`) or removes it, with its status. `keeps` says whether the store supports dead properties.
abbrev pub judged : Profile → Bool → Bool → Tree → Change
judged profile keeps true prop = record { set = true; element = prop; status = set_status profile prop keeps }
judged profile keeps false prop = record { set = false; element = prop; status = remove_status prop keeps }

-- the properties in a `prop`, none in any other element
abbrev pub properties_of : Tree → List Tree
properties_of prop = if is_named (codes "prop") prop then elements_of prop.children else []

-- the properties in a `set` or a `remove`: those of each `prop` directly in it
abbrev pub properties_in : Tree → List Tree
properties_in part = flat_map properties_of (elements_of part.children)

-- the changes that a part of the body requests
abbrev pub changes_in : Profile → Bool → Tree → List Change
changes_in profile keeps part =
    if is_named (codes "set") part then map (judged profile keeps true) (properties_in part)
    else (if is_named (codes "remove") part then map (judged profile keeps false) (properties_in part) else [])

-- All changes, in order. A body that is not a `propertyupdate` is an error.
abbrev pub update_verdict : Profile → Bool → ReqBody → Result (List Change) DavError
update_verdict profile keeps (bodies.Tree root) =
    if is_named (codes "propertyupdate") root then Ok (flat_map (changes_in profile keeps) (elements_of root.children)) else Err XmlParseError
update_verdict profile keeps _ = Err XmlParseError

-- ---- the changes for the store

-- the store has to make the change
abbrev pub is_dead : Change → Bool
is_dead change = nat_eq change.status 100

-- the change is rejected before the store is called
abbrev pub is_refused : Change → Bool
is_refused change = not (nat_eq change.status 100 || nat_eq change.status 200)

-- some change is rejected: then none is made
abbrev pub some_refused : List Change → Bool
some_refused changes = list_any is_refused changes

-- first the changes that the store does not have to make, in order, then those that it has to make
abbrev pub live_first : List Change → List Change
live_first changes = filter (λ change. not (is_dead change)) changes ++ filter is_dead changes

-- what the store has to do to set a property: a time is set, and any other property has its element as its value
abbrev pub set_patch : Tree → Patch
set_patch element =
    unwrap_or (patch_of_time (kind_of element.tag.namespace element.tag.name) (time_in element)) (Set (prop_named element (Some element)))

-- what the store has to do for a change
abbrev pub patch_of : Change → Patch
patch_of change = if change.set then set_patch change.element else Remove (prop_named change.element None)

abbrev pub patches_of : List Change → List Patch
patches_of changes = map patch_of (filter is_dead changes)

-- ---- how the changes are reported

-- If some change is rejected, every change that is not itself rejected is reported with 424: with its value if the store would have set the property,
-- else by name.
abbrev pub failed : Change → PropertyStatus
failed change =
    if is_refused change then (change.status, bare change.element)
    else (424, if change.set && is_dead change then change.element else bare change.element)

abbrev pub failed_report : List Change → List PropertyStatus
failed_report changes = map failed (live_first changes)

-- if none is rejected, each change that the store does not have to make has its own status
abbrev pub made : Change → PropertyStatus
made change = (change.status, bare change.element)

abbrev pub live_made : List Change → List PropertyStatus
live_made changes = map made (filter (λ change. not (is_dead change)) changes)

-- and each other change has the status that the store returned for it
abbrev pub dead_made : List Change → List ℕ → List PropertyStatus
dead_made changes statuses = zip statuses (map (λ change. bare change.element) (filter is_dead changes))

abbrev pub made_report : List Change → List ℕ → List PropertyStatus
made_report changes statuses = live_made changes ++ dead_made changes statuses
