-- PROPFIND (RFC 4918, section 9.1): returns properties of resources.
use Rattle.std.specs.Prelude.{◌≡◌, ◌⊎◌, not, ◌&&◌, Bool, if◌then◌else◌, List, [], ◌∷◌, ◌++◌, map, codes, is_some, Option, Some, None, unwrap_or, Ok}
use Rattle.http.specs.declared.version.TheConstants.Version.{HTTP_11}
use Rattle.http_header.specs.HeaderMap.{Entries}
use Rattle.http_header.specs.FieldValue.{FieldValue}
use Rattle.dav_resource.specs.Profile.{xml_type}
use Rattle.dav_resource.specs.Tree.{Tree, prefixed_element}
use Rattle.dav_resource.specs.declared.meta.Meta.{Meta}
use Rattle.dav_resource.specs.declared.profile.Profile.{Profile}
use Rattle.dav_resource.specs.declared.request.Body.{Body}
use Rattle.dav_resource.specs.declared.request.DavRequest.{DavRequest}
use Rattle.dav_resource.specs.declared.request.Depth.{Depth}
use Rattle.dav_resource.specs.declared.request.Depth.TheVariants.{Default}
use Rattle.dav_headers.specs.Depth.{depth_of}
use Rattle.dav_headers.specs.Client.{user_agent_of, litmus_of}
use Rattle.dav_store.specs.Logged.{Logged}
use Rattle.dav_store.specs.Store.{Bodies}
use Rattle.dav_messages.specs.DavElement.{declaring_element, with_elements}
use Rattle.dav_messages.specs.Dialogue.{Dialogue, Passed, Refuses, ◌>>=◌}
use Rattle.dav_messages.specs.Reply.{Reply, Answer, field}
use Rattle.dav_props.specs.Propstat.{property_multistatus}
use Rattle.dav_walks.specs.declared.listing.Resource.{Resource}
use Rattle.dav_find.specs.Asked.{Asking, asking_of}
use Rattle.dav_find.specs.Declaring.{with_prefixes}
use Rattle.dav_find.specs.Finding.{View}
use Rattle.dav_find.specs.Visiting.{Visit, VisitsFrom, response_of, is_infinite}
use Rattle.dav_find.specs.declared.search.FindKind.{FindKind}
use Rattle.dav_engine.specs.Location.{location_fields}
use Rattle.dav_engine.specs.Rules.{judged, must_find, fixed_path}
use Rattle.dav_engine.specs.Settings.{Settings}
use Rattle.dav_engine.specs.State.{State}

-- ---- the request's Depth

-- the Depth of the request; a missing or unreadable one is `Default`, a Depth of its own
abbrev pub depth_or_default : DavRequest → Depth
depth_or_default request = unwrap_or (depth_of request.headers) Default

-- the Depth is infinity, and the request is not one of the test suite litmus, which has an `X-Litmus` header (RFC 4918, section 9.1, lets a server
-- reject it)
abbrev pub is_too_deep : DavRequest → Bool
is_too_deep request = is_infinite (depth_or_default request) && not (is_some (litmus_of request.headers))

-- ---- the responses

-- a cache must not reuse the response without validating it (RFC 9111, sections 5.2.2.4 and 5.4)
abbrev pub uncached_fields : Entries FieldValue
uncached_fields = field (codes "cache-control") (codes "no-cache") ∷ field (codes "pragma") (codes "no-cache") ∷ []

abbrev pub propfind_fields : Profile → Entries FieldValue
propfind_fields profile = uncached_fields ++ field (codes "content-type") (xml_type profile) ∷ []

-- the precondition that Depth infinity fails, `propfind-finite-depth` (RFC 4918, section 16)
abbrev pub finite_depth_error : Tree
finite_depth_error = with_elements (declaring_element (codes "D:error")) (prefixed_element (codes "D:propfind-finite-depth") ∷ [])

abbrev pub finite_depth_reply : Profile → Reply
finite_depth_reply profile = record { status = 501; version = HTTP_11; headers = propfind_fields profile; body = Body.Tree finite_depth_error }

-- 207, with a response element for each reported resource
abbrev pub propfind_reply : Profile → DavRequest → Meta × Asking → List Visit → Reply
propfind_reply profile request found visits =
    record {
      status = 207;
      version = HTTP_11;
      headers = propfind_fields profile ++ location_fields request.path (Some found.0);
      body = Body.Tree (with_elements (with_prefixes found.1.asked (property_multistatus [])) (map (response_of profile) visits));
    }

-- ---- the rules

-- in order: a lookup of the path that must succeed, and what the body requests
abbrev pub sought_rules : Bodies → DavRequest → State → Dialogue (Meta × Asking)
sought_rules held request state =
    must_find state.contents request.path.key >>= λ meta.
    judged (asking_of held request.body (user_agent_of request.headers)) >>= λ asking.
    Passed (meta, asking)

-- Depth infinity is rejected first, by a response (501), except for litmus; then `sought_rules` apply
abbrev pub propfind_rules : Profile → Bodies → DavRequest → State → Dialogue (Meta × Asking)
propfind_rules profile held request state =
    if is_too_deep request then Refuses (Ok (finite_depth_reply profile)) else sought_rules held request state

-- ---- the work

-- how properties are read: the kind of the search, whether the store supports dead properties, which members a listing may show, the locks, the
-- principal, the user agent and the profile
abbrev pub view_in : Settings → DavRequest → State → FindKind → View
view_in settings request state kind =
    record {
      kind = kind;
      keeps = settings.facts.keeps_properties;
      shows = settings.facts.shows;
      locks = state.locks;
      principal = request.principal;
      user_agent = user_agent_of request.headers;
      profile = settings.profile;
    }

-- the resource at the path, whose path has a trailing slash if it is a directory
abbrev pub target_at : DavRequest → Meta → Resource
target_at request meta = record { path = fixed_path request.path (Some meta); meta = meta }

-- over these records these resources are reported; `None`: memory ran out
abbrev pub Searches : Settings → DavRequest → Meta × Asking → State → List Logged → Option (List Visit) → Type 0
Searches settings request found old records end =
    VisitsFrom (view_in settings request old found.1.kind) old.contents found.1.asked (target_at request found.0) (depth_or_default request) records end

-- the resources are reported, and nothing changes
pub record PropfindWork (settings : Settings) (request : DavRequest) (found : Meta × Asking) (old : State) (records : List Logged) (answer : Answer) (new : State) : Type 0 where
  pub visits : List Visit
  pub searches : Searches settings request found old records (Some visits)
  pub answered : answer ≡ Ok (propfind_reply settings.profile request found visits)
  pub same : new ≡ old

-- memory ran out, and nothing changes
pub record PropfindCut (settings : Settings) (request : DavRequest) (found : Meta × Asking) (old : State) (records : List Logged) (new : State) : Type 0 where
  pub searches : (records ≡ []) ⊎ Searches settings request found old records None
  pub same : new ≡ old
