-- The response to a PUT or PATCH (RFC 9110, sections 9.3.4, 8.8.2 and 8.8.3).
use Rattle.std.specs.Prelude.{ℕ, nat_le, if◌then◌else◌, List, [], ◌∷◌, ◌++◌, codes, Option, Some, None, is_some}
use Rattle.std.specs.Option.{option_map_or, option_and_then}
use Rattle.http_header.specs.HeaderMap.{Entries}
use Rattle.http_header.specs.FieldValue.{FieldValue, plain_value}
use Rattle.dav_resource.specs.declared.meta.Meta.{Meta}
use Rattle.dav_dates.specs.Moment.{last_shown}
use Rattle.dav_dates.specs.HttpDate.{http_date_text}
use Rattle.dav_messages.specs.Reply.{Reply, bare_reply, field}

-- the time of the last change in seconds since 1970, if it is known and not after `last_shown`
abbrev pub shown_change : Meta → Option ℕ
shown_change meta = option_and_then (λ secs. if nat_le secs last_shown then Some secs else None) meta.modified

-- a strong entity tag, in its quotes
abbrev pub quoted : List ℕ → List ℕ
quoted tag = codes "\"" ++ tag ++ codes "\""

-- the header fields for the metadata of a file: its entity tag and the time of its last change, each if known
abbrev pub known_headers : Meta → Entries FieldValue
known_headers meta =
    option_map_or (λ tag. field (codes "etag") (quoted tag) ∷ []) meta.etag []
    ++ option_map_or (λ secs. field (codes "last-modified") (http_date_text secs) ∷ []) (shown_change meta) []

-- the header fields of the response: `accept-ranges`, `content-length` if the lookup found nothing, and those for the file's metadata now, if known
abbrev pub put_headers : Option Meta → Option Meta → Entries FieldValue
put_headers found meta =
    field (codes "accept-ranges") (codes "bytes") ∷ []
    ++ (if is_some found then [] else field (codes "content-length") (codes "0") ∷ [])
    ++ option_map_or known_headers meta []

-- 204 if the lookup found something at the path, else 201 (also if the lookup failed, whatever exists there)
abbrev pub put_reply : Option Meta → Option Meta → Reply
put_reply found meta = bare_reply (if is_some found then 204 else 201) (put_headers found meta)

-- ---- the values in the response

-- the entity tag, if there is metadata and it has one
abbrev pub shown_tag : Option Meta → Option (List ℕ)
shown_tag meta = option_and_then (λ m. m.etag) meta

-- the value of `content-length`, 0, if the lookup found nothing
abbrev pub empty_length : Option Meta → Option FieldValue
empty_length found = if is_some found then None else Some (plain_value (codes "0"))
