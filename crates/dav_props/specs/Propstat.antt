-- How the properties of a resource are reported: grouped by status (RFC 4918, sections 13, 14.16, 14.18, 14.22 and 14.24).
use Rattle.std.specs.Prelude.{ℕ, nat_eq, List, [], ◌∷◌, ◌++◌, map, filter, codes}
use Rattle.std.specs.Ordering.{nat_cmp}
use Rattle.std.specs.FinMap.{keys, from_entries}
use Rattle.dav_resource.specs.PathText.{PathValue}
use Rattle.dav_resource.specs.Profile.{xml_type}
use Rattle.dav_resource.specs.Tree.{Tree, prefixed_element}
use Rattle.dav_resource.specs.declared.profile.Profile.{Profile}
use Rattle.dav_messages.specs.DavElement.{with_elements, declaring_element, href_element}
use Rattle.dav_messages.specs.Multistatus.{status_element}
use Rattle.dav_messages.specs.Reply.{Reply, field}

-- ---- properties by their statuses

-- a reported property, with its status
abbrev pub PropertyStatus : Type 0
PropertyStatus = ℕ × Tree

-- a status and the properties that have it
abbrev pub Group : Type 0
Group = ℕ × List Tree

-- the properties of this status, in order
abbrev pub of_status : ℕ → List PropertyStatus → List Tree
of_status status reported = map (λ (t : PropertyStatus). t.1) (filter (λ (t : PropertyStatus). nat_eq t.0 status) reported)

-- each status that a property has, once, the least first
abbrev pub statuses : List PropertyStatus → List ℕ
statuses reported = keys (from_entries {R = nat_cmp} reported)

-- each status with its properties
abbrev pub grouped : List PropertyStatus → List Group
grouped reported = map (λ status. (status, of_status status reported)) (statuses reported)

-- ---- the trees

-- the properties of one status
abbrev pub propstat : Group → Tree
propstat group =
    with_elements (prefixed_element (codes "D:propstat"))
    (with_elements (prefixed_element (codes "D:prop")) group.1 ∷ status_element group.0 ∷ [])

-- a resource's path, including its prefix, and its properties grouped by status
abbrev pub property_response : Profile → PathValue → List Group → Tree
property_response profile path groups = with_elements (prefixed_element (codes "D:response")) (href_element profile path ∷ map propstat groups)

-- each response, in order
abbrev pub property_multistatus : List Tree → Tree
property_multistatus responses = with_elements (declaring_element (codes "D:multistatus")) responses

-- ---- the response

-- 207, with the media type of the body behind the other fields
abbrev pub begun_in : Profile → Reply → Reply
begun_in profile reply =
    record reply { status = 207; headers = reply.headers ++ field (codes "content-type") (xml_type profile) ∷ [] }
