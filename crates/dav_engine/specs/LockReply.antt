-- The responses to LOCK and UNLOCK (RFC 4918, sections 9.10, 9.11 and 10.5).
use Rattle.std.specs.Prelude.{ℕ, true, if◌then◌else◌, ◌∷◌, codes, Option, is_some}
use Rattle.http.specs.declared.version.TheConstants.Version.{HTTP_11}
use Rattle.http_header.specs.HeaderMap.{Entries}
use Rattle.http_header.specs.FieldValue.{FieldValue}
use Rattle.dav_resource.specs.LockToken.{coded}
use Rattle.dav_resource.specs.PathText.{PathValue}
use Rattle.dav_resource.specs.declared.meta.Meta.{Meta}
use Rattle.dav_resource.specs.Profile.{xml_type}
use Rattle.dav_resource.specs.declared.profile.Profile.{Profile}
use Rattle.dav_resource.specs.declared.request.Body.{Body}
use Rattle.dav_resource.specs.declared.request.DavRequest.{DavRequest}
use Rattle.dav_store.specs.declared.lock.DavLock.{DavLock}
use Rattle.dav_messages.specs.LockTree.{lock_prop}
use Rattle.dav_messages.specs.Reply.{Reply, bare_reply, field}
use Rattle.dav_engine.specs.Location.{location_fields}

-- a response whose body is a `prop` with the `lockdiscovery` of this lock
abbrev pub lock_reply : Profile → ℕ → Entries FieldValue → DavLock → Reply
lock_reply profile status fields lock =
    record { status = status; version = HTTP_11; headers = field (codes "content-type") (xml_type profile) ∷ fields; body = Body.Tree (lock_prop profile lock true) }

-- for a new lock: 200 if something was found at the path, else 201, with the request's token in `lock-token`
abbrev pub granted_reply : Profile → DavRequest → Option Meta → DavLock → Reply
granted_reply profile request found lock =
    lock_reply profile (if is_some found then 200 else 201) (field (codes "lock-token") (coded request.token) ∷ location_fields request.path found) lock

-- for a refreshed lock: 200
abbrev pub refreshed_reply : Profile → PathValue → Option Meta → DavLock → Reply
refreshed_reply profile path found lock = lock_reply profile 200 (location_fields path found) lock

-- for a removed lock: 204
abbrev pub unlocked_reply : PathValue → Option Meta → Reply
unlocked_reply path found = bare_reply 204 (location_fields path found)
