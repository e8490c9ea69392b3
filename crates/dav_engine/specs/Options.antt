-- OPTIONS (RFC 9110, section 9.3.7; RFC 4918, section 10.1): lists methods for the resource at a path.
use Rattle.std.specs.Prelude.{◌≡◌, ℕ, Bool, true, false, ◌&&◌, ◌||◌, ◌==◌, not, if◌then◌else◌, List, [], ◌∷◌, codes, length, filter, Option, Some, None, is_some, Ok}
use Rattle.std.specs.List.{join_by}
use Rattle.std.specs.Option.{option_map_or}
use Rattle.http_header.specs.HeaderMap.{Entries}
use Rattle.http_header.specs.FieldValue.{FieldValue}
use Rattle.dav_resource.specs.Methods.{method_of, same_method, contains_method}
use Rattle.dav_resource.specs.PathText.{PathValue}
use Rattle.dav_resource.specs.declared.meta.Meta.{Meta}
use Rattle.dav_resource.specs.declared.method.DavMethod.{DavMethod}
use Rattle.dav_resource.specs.declared.method.DavMethod.TheVariants.{Head, Get, Put, Patch, Options, PropFind, PropPatch, MkCol, Copy, Move, Delete, Lock, Unlock}
use Rattle.dav_resource.specs.declared.method.DavMethodSet.{DavMethodSet}
use Rattle.dav_resource.specs.declared.request.DavRequest.{DavRequest}
use Rattle.dav_store.specs.Logged.{Logged}
use Rattle.dav_messages.specs.Dialogue.{Dialogue, Passed, look_up}
use Rattle.dav_messages.specs.Reply.{Reply, Answer, bare_reply, field}
use Rattle.dav_engine.specs.State.{State}

-- a lookup of the path; a failed lookup counts as finding nothing; for `*`, which is no resource, no call is made
abbrev pub options_rules : DavRequest → State → Dialogue (Option Meta)
options_rules request state = if request.path.star then Passed None else look_up state.contents request.path.key

-- ---- the methods by kind of resource

-- nothing exists: OPTIONS, MKCOL, PUT and LOCK, but not PATCH, which may also create a file
abbrev pub missing_methods : List DavMethod
missing_methods = Options ∷ MkCol ∷ Put ∷ Lock ∷ []

-- the root, which cannot be moved or deleted
abbrev pub root_methods : List DavMethod
root_methods = Options ∷ PropFind ∷ Copy ∷ Lock ∷ Unlock ∷ []

-- any other directory
abbrev pub directory_methods : List DavMethod
directory_methods = Options ∷ PropFind ∷ Copy ∷ Move ∷ Delete ∷ Lock ∷ Unlock ∷ []

-- a file; the same list is used for `*`
abbrev pub file_methods : List DavMethod
file_methods = Head ∷ Get ∷ Patch ∷ Put ∷ directory_methods

-- the list for what was found at the path
abbrev pub found_methods : PathValue → Option Meta → List DavMethod
found_methods path None = if path.star then file_methods else missing_methods
found_methods path (Some meta) = if length path.key == 0 then root_methods else (if meta.dir then directory_methods else file_methods)

-- ---- the listed methods

-- the method is the request's own, unless that is OPTIONS
abbrev pub is_own : Option DavMethod → DavMethod → Bool
is_own None method = false
is_own (Some Options) method = false
is_own (Some own) method = same_method method own

-- the method needs a lock system
abbrev pub needs_locks : DavMethod → Bool
needs_locks method = same_method method Lock || same_method method Unlock

-- the method is enabled: it is in the set, or there is no set
abbrev pub is_let : Option DavMethodSet → DavMethod → Bool
is_let allow method = option_map_or (λ set. contains_method set method) allow true

-- a method is listed if it is enabled, is not the request's own and, if it needs a lock system, there is one
abbrev pub is_offered : Option DavMethodSet → Bool → Option DavMethod → DavMethod → Bool
is_offered allow locks own method = is_let allow method && (not (is_own own method) && (locks || not (needs_locks method)))

-- the listed methods for what was found, in order
abbrev pub offered_methods : Option DavMethodSet → Bool → DavRequest → Option Meta → List DavMethod
offered_methods allow locks request found = filter (is_offered allow locks (method_of request.method)) (found_methods request.path found)

-- ---- the response

-- the name of a method
abbrev pub name_of : DavMethod → List ℕ
name_of Head = codes "HEAD"
name_of Get = codes "GET"
name_of Put = codes "PUT"
name_of Patch = codes "PATCH"
name_of Options = codes "OPTIONS"
name_of PropFind = codes "PROPFIND"
name_of PropPatch = codes "PROPPATCH"
name_of MkCol = codes "MKCOL"
name_of Copy = codes "COPY"
name_of Move = codes "MOVE"
name_of Delete = codes "DELETE"
name_of Lock = codes "LOCK"
name_of Unlock = codes "UNLOCK"

-- their names, joined by commas
abbrev pub names_of : List DavMethod → List ℕ
names_of methods = join_by name_of (codes ",") methods

-- the compliance classes (`dav`), `ms-author-via`, the length 0 of the body, and the methods (`allow`)
abbrev pub options_headers : List ℕ → Entries FieldValue
options_headers methods =
    field (codes "dav") (codes "1,2,3,sabredav-partialupdate")
    ∷ field (codes "ms-author-via") (codes "DAV")
    ∷ field (codes "content-length") (codes "0")
    ∷ field (codes "allow") methods
    ∷ []

-- 200, with these header fields
abbrev pub options_reply : List ℕ → Reply
options_reply methods = bare_reply 200 (options_headers methods)

-- ---- the work

-- no call is made, nothing changes, and the response lists the methods
pub record OptionsWork (allow : Option DavMethodSet) (request : DavRequest) (found : Option Meta) (old : State) (records : List Logged) (answer : Answer) (new : State) : Type 0 where
  pub none : records ≡ []
  pub answered : answer ≡ Ok (options_reply (names_of (offered_methods allow (is_some old.locks) request found)))
  pub same : new ≡ old
