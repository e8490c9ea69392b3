-- The headers that describe the body: its length (RFC 7230, section 3.3.2), the length that a client without Content-Length announces, its type
-- (RFC 7231, section 3.1.1.5) and its checksum (from ownCloud).
use Rattle.std.specs.Prelude.{ℕ, List, Option, option_and_then, codes}
use Rattle.http_header.specs.HeaderMap.{Entries}
use Rattle.http_header.specs.FieldValue.{FieldValue}
use Rattle.dav_headers.specs.Values.{first_text}
use Rattle.dav_headers.specs.Number.{number_in}

-- the number of Content-Length
abbrev pub content_length_of : Entries FieldValue → Option ℕ
content_length_of headers = option_and_then number_in (first_text headers (codes "content-length"))

-- the number of X-Expected-Entity-Length
abbrev pub expected_length_of : Entries FieldValue → Option ℕ
expected_length_of headers = option_and_then number_in (first_text headers (codes "x-expected-entity-length"))

-- the value of Content-Type
abbrev pub content_type_of : Entries FieldValue → Option (List ℕ)
content_type_of headers = first_text headers (codes "content-type")

-- the value of OC-Checksum
abbrev pub checksum_of : Entries FieldValue → Option (List ℕ)
checksum_of headers = first_text headers (codes "oc-checksum")
