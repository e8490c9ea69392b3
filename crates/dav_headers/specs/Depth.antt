-- The header Depth (RFC 4918, section 10.2): how far below a resource a request applies.
use Rattle.std.specs.Prelude.{ℕ, List, codes, bytes_eq, Option, Some, None, option_and_then, if◌then◌else◌}
use Rattle.http_header.specs.HeaderMap.{Entries}
use Rattle.http_header.specs.FieldValue.{FieldValue}
use Rattle.dav_resource.specs.declared.request.Depth.{Depth}
use Rattle.dav_resource.specs.declared.request.Depth.TheVariants.{Zero, One, Infinity}
use Rattle.dav_headers.specs.Values.{first_text, is_word}

-- `0`, `1`, or `infinity` in any ASCII case
abbrev pub depth_in : List ℕ → Option Depth
depth_in text =
    if bytes_eq text (codes "0") then Some Zero else (
    if bytes_eq text (codes "1") then Some One else (
    if is_word text (codes "infinity") then Some Infinity else None))

-- the value of the header, if it can be parsed
abbrev pub depth_of : Entries FieldValue → Option Depth
depth_of headers = option_and_then depth_in (first_text headers (codes "depth"))
