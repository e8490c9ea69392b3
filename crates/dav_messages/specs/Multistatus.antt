-- The response that reports the status of each of several resources (RFC 4918, sections 11.1, 13 and 14.16).
use Rattle.std.specs.Prelude.{ℕ, ◌==◌, if◌then◌else◌, List, [], ◌∷◌, ◌++◌, map, codes, Option, Some, None, Ok, Err}
use Rattle.std.specs.Option.{option_map_or}
use Rattle.http.specs.StatusCode.{code_digits, reason_phrase}
use Rattle.http.specs.declared.version.TheConstants.Version.{HTTP_11}
use Rattle.dav_key.specs.Key.{is_same_key}
use Rattle.dav_resource.specs.PathText.{PathValue}
use Rattle.dav_resource.specs.Profile.{xml_type}
use Rattle.dav_resource.specs.Tree.{Tree, prefixed_element}
use Rattle.dav_resource.specs.declared.profile.Profile.{Profile}
use Rattle.dav_resource.specs.declared.request.Body.{Body}
use Rattle.dav_resource.specs.declared.error.DavError.TheVariants.{ChanError}
use Rattle.dav_messages.specs.DavElement.{with_elements, declaring_element, text_element, href_element}
use Rattle.dav_messages.specs.Reply.{Reply, Answer, bare_reply, field}

-- a resource and its status
abbrev pub Item : Type 0
Item = PathValue × ℕ

-- the status of the first item, if there is one
abbrev pub first_status : List Item → Option ℕ
first_status [] = None
first_status (item ∷ items) = Some item.1

-- the status as in the first line of an HTTP response, with its reason phrase if it has one
abbrev pub status_line : ℕ → List ℕ
status_line status = codes "HTTP/1.1 " ++ code_digits status ++ option_map_or (λ phrase. 32 ∷ phrase) (reason_phrase status) []

abbrev pub status_element : ℕ → Tree
status_element status = text_element (codes "D:status") (status_line status)

-- 204 is shown as 200, since an item has no content of its own
abbrev pub shown_status : ℕ → ℕ
shown_status status = if status == 204 then 200 else status

-- the resource's path, including its prefix, and its status
abbrev pub response_element : Profile → Item → Tree
response_element profile item =
    with_elements (prefixed_element (codes "D:response"))
    (href_element profile item.0 ∷ status_element (shown_status item.1) ∷ [])

-- a response for each item, in order
abbrev pub multistatus : Profile → List Item → Tree
multistatus profile items = with_elements (declaring_element (codes "D:multistatus")) (map (response_element profile) items)

-- 207, with the tree
abbrev pub multistatus_reply : Profile → List Item → Reply
multistatus_reply profile items =
    record { status = 207; version = HTTP_11; headers = field (codes "content-type") (xml_type profile) ∷ []; body = Body.Tree (multistatus profile items) }

-- One item with the request's own key gives the response its status, without a body. No item is an error. Otherwise the response is a 207.
abbrev pub multi_answer : Profile → PathValue → List Item → Answer
multi_answer profile path [] = Err ChanError
multi_answer profile path (item ∷ []) = if is_same_key path.key item.0.key then Ok (bare_reply item.1 []) else Ok (multistatus_reply profile (item ∷ []))
multi_answer profile path (item ∷ next ∷ items) = Ok (multistatus_reply profile (item ∷ next ∷ items))
