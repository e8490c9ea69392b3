-- What a PROPFIND asks for (RFC 4918, sections 9.1, 14.2, 14.8, 14.18, 14.20 and 14.21). Which properties the server adds is this project's own
-- choice. The elements `propname`, `prop`, `allprop` and `include` are recognized by their local names only, the root element also by its namespace.
use Rattle.std.specs.Prelude.{ℕ, Bool, true, false, ◌&&◌, ◌||◌, if◌then◌else◌, List, [], ◌∷◌, ◌++◌, map, codes, bytes_eq, Option, Some, None, Result, Ok, Err}
use Rattle.std.specs.List.{list_any, fold, find}
use Rattle.std.specs.Option.{option_eq, option_map_or}
use Rattle.dav_resource.specs.Tree.{Tree, elements_of, no_nodes}
use Rattle.dav_resource.specs.declared.error.DavError.{DavError}
use Rattle.dav_resource.specs.declared.error.DavError.TheVariants.{XmlParseError}
use Rattle.dav_resource.specs.declared.request.ReqBody.{ReqBody}
use Rattle.dav_resource.specs.declared.request.ReqBody.TheVariants as bodies
use Rattle.dav_store.specs.Store.{Bodies}
use Rattle.dav_messages.specs.DavElement.{is_named}
use Rattle.dav_messages.specs.RequestBody.{is_empty_body}
use Rattle.dav_live.specs.Viewing.{names_microsoft}
use Rattle.dav_find.specs.declared.search.FindKind.{FindKind}
use Rattle.dav_find.specs.declared.search.FindKind.TheVariants.{AllProp, PropName, Prop}

-- ---- properties by their names

-- both elements name the same property: their namespaces and local names are equal
abbrev pub is_same : Tree → Tree → Bool
is_same one other = option_eq bytes_eq one.tag.namespace other.tag.namespace && bytes_eq one.tag.name other.tag.name

-- the element has this namespace
abbrev pub is_of : List ℕ → Tree → Bool
is_of namespace element = option_eq bytes_eq element.tag.namespace (Some namespace)

-- one of the elements names the property
abbrev pub is_among : Tree → List Tree → Bool
is_among prop props = list_any (is_same prop) props

-- a requested property: the element that names it, and whether only the server's own list names it
pub record AskedProperty : Type 0 where
  pub element : Tree
  pub by_server : Bool

-- a property that the request names, and one that the server adds
abbrev pub asked_by_request : Tree → AskedProperty
asked_by_request element = record { element = element; by_server = false }

abbrev pub asked_by_server : Tree → AskedProperty
asked_by_server element = record { element = element; by_server = true }

-- one more property, unless the list already has it
abbrev pub ask_once : List AskedProperty → AskedProperty → List AskedProperty
ask_once asked more = if list_any (λ (a : AskedProperty). is_same more.element a.element) asked then asked else asked ++ more ∷ []

-- ---- the kinds of search

-- properties are reported by name only, without values
abbrev pub names_only : FindKind → Bool
names_only PropName = true
names_only _ = false

-- only properties that the request names are reported
abbrev pub named_only : FindKind → Bool
named_only Prop = true
named_only _ = false

-- ---- the properties that the server adds

abbrev pub property : List ℕ → List ℕ → List ℕ → Tree
property prefix namespace name =
    record { tag = record { name = name; prefix = Some prefix; namespace = Some namespace; attributes = [] }; children = no_nodes }

-- a property of the namespace `DAV:` (RFC 4918, section 15)
abbrev pub dav_property : List ℕ → Tree
dav_property = property (codes "D") (codes "DAV:")

abbrev pub microsoft_property : List ℕ → Tree
microsoft_property = property (codes "Z") (codes "urn:schemas-microsoft-com:")

-- the properties of RFC 4918
abbrev pub dav_properties : List Tree
dav_properties =
    dav_property (codes "creationdate") ∷ dav_property (codes "displayname") ∷ dav_property (codes "getcontentlanguage") ∷ dav_property (codes "getcontentlength")
    ∷ dav_property (codes "getcontenttype") ∷ dav_property (codes "getetag") ∷ dav_property (codes "getlastmodified") ∷ dav_property (codes "lockdiscovery")
    ∷ dav_property (codes "resourcetype") ∷ dav_property (codes "supportedlock") ∷ []

-- the further properties of `propname`, for every client: those of the quota (RFC 4331), and one each of Apache's and Microsoft's namespaces
abbrev pub named_besides : List Tree
named_besides =
    dav_property (codes "quota-available-bytes") ∷ dav_property (codes "quota-used-bytes")
    ∷ property (codes "A") (codes "http://apache.org/dav/props/") (codes "executable") ∷ microsoft_property (codes "Win32LastAccessTime") ∷ []

-- the further properties of `allprop` for a Microsoft client
abbrev pub microsoft_properties : List Tree
microsoft_properties =
    microsoft_property (codes "Win32CreationTime") ∷ microsoft_property (codes "Win32FileAttributes")
    ∷ microsoft_property (codes "Win32LastAccessTime") ∷ microsoft_property (codes "Win32LastModifiedTime") ∷ []

-- the server's own list, by the kind of search and the client
abbrev pub server_properties : FindKind → Option (List ℕ) → List Tree
server_properties Prop user_agent = []
server_properties PropName user_agent = dav_properties ++ named_besides
server_properties AllProp user_agent = if names_microsoft user_agent then dav_properties ++ microsoft_properties else dav_properties

-- ---- what the body requests

-- the kind of search, and the requested properties: first those that the request names, then the server's, each once
pub record Asking : Type 0 where
  pub kind : FindKind
  pub asked : List AskedProperty

abbrev pub asking : FindKind → List Tree → Option (List ℕ) → Asking
asking kind own user_agent =
    record { kind = kind; asked = fold ask_once [] (map asked_by_request own ++ map asked_by_server (server_properties kind user_agent)) }

-- an element that decides the kind of search
abbrev pub says_kind : Tree → Bool
says_kind tree = is_named (codes "propname") tree || is_named (codes "prop") tree || is_named (codes "allprop") tree

-- the properties that an element names, if there is one: its child elements
abbrev pub named_in : Option Tree → List Tree
named_in element = option_map_or (λ (t : Tree). elements_of t.children) element []

-- the first `include` in the root element
abbrev pub include_in : Tree → Option Tree
include_in root = find (is_named (codes "include")) (elements_of root.children)

-- what the first element that decides the kind asks for
abbrev pub asking_by : Option (List ℕ) → Tree → Tree → Asking
asking_by user_agent root said =
    if is_named (codes "propname") said then asking PropName [] user_agent
    else (if is_named (codes "prop") said then asking Prop (named_in (Some said)) user_agent
    else asking AllProp (named_in (include_in root)) user_agent)

abbrev pub asking_or_not : Option (List ℕ) → Tree → Option Tree → Result Asking DavError
asking_or_not user_agent root None = Err XmlParseError
asking_or_not user_agent root (Some said) = Ok (asking_by user_agent root said)

-- the root element is a `propfind` of the namespace `DAV:`
abbrev pub is_propfind : Tree → Bool
is_propfind root = is_named (codes "propfind") root && is_of (codes "DAV:") root

abbrev pub asking_in : Option (List ℕ) → Tree → Result Asking DavError
asking_in user_agent root = if is_propfind root then asking_or_not user_agent root (find says_kind (elements_of root.children)) else Err XmlParseError

-- what a body that is not empty asks for
abbrev pub asking_by_body : ReqBody → Option (List ℕ) → Result Asking DavError
asking_by_body (bodies.Tree root) user_agent = asking_in user_agent root
asking_by_body _ user_agent = Err XmlParseError

-- without a body, or with an empty one, all properties are requested
abbrev pub asking_of : Bodies → ReqBody → Option (List ℕ) → Result Asking DavError
asking_of held body user_agent = if is_empty_body held body then Ok (asking AllProp [] user_agent) else asking_by_body body user_agent
