-- A live property of one resource, as a response reports it (RFC 4918, sections 9.1 and 15; RFC 4331; RFC 5397, section 3).
use Rattle.std.specs.Prelude.{ℕ, Bool, ◌&&◌, not, if◌then◌else◌, List, [], ◌∷◌, codes, Option, Some, is_some}
use Rattle.std.specs.Option.{option_map}
use Rattle.dav_key.specs.Key.{Key}
use Rattle.dav_resource.specs.Profile.{repeats_request}
use Rattle.dav_resource.specs.Tree.{Tree, prefixed_element}
use Rattle.dav_resource.specs.declared.meta.Meta.{Meta}
use Rattle.dav_resource.specs.declared.profile.Profile.{Profile}
use Rattle.dav_store.specs.Locks.{Locks}
use Rattle.dav_store.specs.declared.lock.DavLock.{DavLock}
use Rattle.dav_messages.specs.Conditions.{locks_in}
use Rattle.dav_messages.specs.DavElement.{with_elements, text_element}
use Rattle.dav_messages.specs.LockTree.{lock_discovery, covering_in, supported_lock}
use Rattle.dav_live.specs.Viewing.{Asker, asker_of}
use Rattle.dav_live.specs.Names.{shown_name}
use Rattle.dav_live.specs.Rows.{live_text}
use Rattle.dav_live.specs.declared.viewer.Viewer.{Viewer}
use Rattle.dav_live.specs.declared.property.LiveProperty.{LiveProperty}
use Rattle.dav_live.specs.declared.property.LiveProperty.TheVariants.{LockDiscovery, ResourceType, SupportedLock, CurrentUserPrincipal}

-- an element of this name that holds the string, if there is one
abbrev pub text_property : List ℕ → Bool → Option (List ℕ) → Option Tree
text_property name names_only text = option_map (λ t. if names_only then prefixed_element name else text_element name t) text

-- the element in which a property is reported: the requested one or the server's own, as the profile says
abbrev pub reported_in : Profile → Tree → List ℕ → Tree
reported_in profile asked name = if repeats_request profile then asked else prefixed_element name

-- the element of the property, for a directory with `D:collection` appended unless only names are reported
abbrev pub resource_type : Tree → Bool → Bool → Tree
resource_type element names_only dir =
    if dir && not names_only then with_elements element (prefixed_element (codes "D:collection") ∷ []) else element

-- the element of the property with the principal appended, if there is one, unless only names are reported
abbrev pub current_user_principal : Tree → Bool → Option (List ℕ) → Option Tree
current_user_principal element names_only principal =
    option_map (λ text. if names_only then element else with_elements element (text_element (codes "D:href") text ∷ [])) principal

-- the locks that cover the key
abbrev pub locks_of : Profile → Bool → Option (List DavLock) → Key → Tree
locks_of profile names_only locks key =
    if names_only then prefixed_element (codes "D:lockdiscovery") else lock_discovery profile (covering_in locks key)

-- the kinds of locks that are supported, if there is a lock system
abbrev pub lock_kinds : Bool → Bool → Tree
lock_kinds names_only present = if names_only then prefixed_element (codes "D:supportedlock") else supported_lock present

-- the property as it is reported, or `None` if its value is not known
abbrev pub live_value : LiveProperty → Tree → Bool → Asker → Option (List DavLock) → Key → Meta → Option Tree
live_value ResourceType asked names_only asker locks key meta =
    Some (resource_type (reported_in asker.profile asked (shown_name ResourceType)) names_only meta.dir)
live_value CurrentUserPrincipal asked names_only asker locks key meta =
    current_user_principal (reported_in asker.profile asked (shown_name CurrentUserPrincipal)) names_only asker.principal
live_value LockDiscovery asked names_only asker locks key meta = Some (locks_of asker.profile names_only locks key)
live_value SupportedLock asked names_only asker locks key meta = Some (lock_kinds names_only (is_some locks))
live_value property asked names_only asker locks key meta = text_property (shown_name property) names_only (live_text property asker key meta)

-- the same for this viewer, with the locks of this lock system, if there is one
abbrev pub value_shown : {L : Type 0} → (L → Locks) → LiveProperty → Tree → Bool → Viewer → Option L → Key → Meta → Option Tree
value_shown seen property asked names_only viewer ls key meta = live_value property asked names_only (asker_of viewer) (locks_in seen ls) key meta
