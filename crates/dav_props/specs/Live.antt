-- Which properties a request may set or remove, and with which value (RFC 4918, sections 4.2, 9.2.1 and 15; the properties of Apache's and
-- Microsoft's namespaces are those that their clients request).
use Rattle.std.specs.Prelude.{ℕ, Bool, true, false, ◌&&◌, ◌||◌, nat_eq, if◌then◌else◌, List, [], length, codes, bytes_eq, Option, Some, None, is_some}
use Rattle.std.specs.List.{concat}
use Rattle.std.specs.Option.{option_map}
use Rattle.dav_dates.specs.HttpDate.{date_in}
use Rattle.dav_resource.specs.Profile.{sets_times}
use Rattle.dav_resource.specs.Tree.{Tree, Nodes, no_nodes, text_then, texts, texts_of, elements_of}
use Rattle.dav_resource.specs.declared.element.XMLNode.{XMLNode}
use Rattle.dav_resource.specs.declared.element.XMLNode.TheVariants as nodes
use Rattle.dav_resource.specs.declared.profile.Profile.{Profile}
use Rattle.dav_resource.specs.declared.property.PropertyPatch.{PropertyPatch}
use Rattle.dav_resource.specs.declared.property.PropertyPatch.TheVariants.{Modified, Created}
use Rattle.dav_props.specs.Language.{is_language_list}
use Rattle.dav_props.specs.declared.live.PropertyKind.{PropertyKind}
use Rattle.dav_props.specs.declared.live.PropertyKind.TheVariants.{Dead, DisplayName, ContentLanguage, Fixed, PassedOver, ModificationTime, CreationTime, Protected}

-- ---- the kinds of property

abbrev pub kind_in_dav : List ℕ → PropertyKind
kind_in_dav name =
    if bytes_eq name (codes "displayname") then DisplayName
    else (if bytes_eq name (codes "getcontentlanguage") then ContentLanguage
    else (if bytes_eq name (codes "getlastmodified") then Fixed else Protected))

abbrev pub kind_in_apache : List ℕ → PropertyKind
kind_in_apache name = if bytes_eq name (codes "executable") then Fixed else Protected

-- the times and attributes that Microsoft's clients set on each file that they write
abbrev pub kind_in_microsoft : List ℕ → PropertyKind
kind_in_microsoft name =
    if bytes_eq name (codes "Win32LastModifiedTime") then ModificationTime
    else (if bytes_eq name (codes "Win32CreationTime") then CreationTime
    else (if bytes_eq name (codes "Win32LastAccessTime") || bytes_eq name (codes "Win32FileAttributes") then PassedOver else Protected))

-- The names of three namespaces are live. Every other name, and one without a namespace, is dead.
abbrev pub kind_of : Option (List ℕ) → List ℕ → PropertyKind
kind_of None name = Dead
kind_of (Some namespace) name =
    if bytes_eq namespace (codes "DAV:") then kind_in_dav name
    else (if bytes_eq namespace (codes "http://apache.org/dav/props/") then kind_in_apache name
    else (if bytes_eq namespace (codes "urn:schemas-microsoft-com:") then kind_in_microsoft name else Dead))

-- properties of this kind are stored
abbrev pub is_kept_kind : PropertyKind → Bool
is_kept_kind Dead = true
is_kept_kind DisplayName = true
is_kept_kind ContentLanguage = true
is_kept_kind _ = false

-- a property of this element's name is stored
abbrev pub is_kept : Tree → Bool
is_kept prop = is_kept_kind (kind_of prop.tag.namespace prop.tag.name)

-- ---- valid values

abbrev pub node_is_text : XMLNode → Bool
node_is_text (nodes.Text text) = true
node_is_text (nodes.Element element) = false

-- the text of a node that is a text
abbrev pub node_text : XMLNode → List ℕ
node_text (nodes.Text text) = text
node_text (nodes.Element element) = []

-- the element directly holds text, and no element
abbrev pub holds_text_alone : Tree → Bool
holds_text_alone tree = is_some (texts_of tree.children) && nat_eq (length (elements_of tree.children)) 0

-- the texts directly in the element, joined, are a language list
abbrev pub holds_languages : Tree → Bool
holds_languages tree = is_language_list (concat (texts tree.children))

-- the second that a text names as an HTTP date (RFC 9110, section 5.6.7)
abbrev pub node_time : XMLNode → Option ℕ
node_time (nodes.Text text) = date_in text
node_time (nodes.Element element) = None

-- the same for an element with such a text and nothing else
abbrev pub only_time : Nodes → Option ℕ
only_time (text_then text no_nodes) = date_in text
only_time _ = None

abbrev pub time_in : Tree → Option ℕ
time_in tree = only_time tree.children

-- ---- the statuses

-- the status of setting or removing `DAV:displayname` or `DAV:getcontentlanguage`: 100 if the store supports dead properties, else 403
abbrev pub dead_status : Bool → ℕ
dead_status keeps = if keeps then 100 else 403

-- the status of setting a time that holds text alone: in a profile that sets times it must be an HTTP date
abbrev pub time_status : Profile → Tree → Bool → ℕ
time_status profile prop keeps = if sets_times profile then (if is_some (time_in prop) then dead_status keeps else 409) else 200

-- the status of setting a property of this kind
abbrev pub set_kind : Profile → PropertyKind → Tree → Bool → ℕ
set_kind profile Dead prop keeps = 100
set_kind profile DisplayName prop keeps = if holds_text_alone prop then dead_status keeps else 409
set_kind profile ContentLanguage prop keeps = if holds_text_alone prop && holds_languages prop then dead_status keeps else 409
set_kind profile Fixed prop keeps = if holds_text_alone prop then 403 else 409
set_kind profile PassedOver prop keeps = if holds_text_alone prop then 200 else 409
set_kind profile ModificationTime prop keeps = if holds_text_alone prop then time_status profile prop keeps else 409
set_kind profile CreationTime prop keeps = if holds_text_alone prop then time_status profile prop keeps else 409
set_kind profile Protected prop keeps = 403

abbrev pub set_status : Profile → Tree → Bool → ℕ
set_status profile prop = set_kind profile (kind_of prop.tag.namespace prop.tag.name) prop

-- the status of removing a property of this kind
abbrev pub remove_kind : PropertyKind → Bool → ℕ
remove_kind Dead keeps = 100
remove_kind DisplayName keeps = dead_status keeps
remove_kind ContentLanguage keeps = dead_status keeps
remove_kind _ keeps = 403

abbrev pub remove_status : Tree → Bool → ℕ
remove_status prop = remove_kind (kind_of prop.tag.namespace prop.tag.name)

-- ---- times

-- the change of a resource's times that a property of this kind with this time asks for
abbrev pub patch_of_time : PropertyKind → Option ℕ → Option PropertyPatch
patch_of_time ModificationTime time = option_map Modified time
patch_of_time CreationTime time = option_map Created time
patch_of_time _ time = None
