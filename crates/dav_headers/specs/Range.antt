-- Byte ranges: X-Update-Range (of SabreDAV's partial update by PATCH) and Content-Range (RFC 7233, section 4.2).
use Rattle.std.specs.Prelude.{ℕ, Bool, ◌==◌, ◌||◌, List, length, Option, Some, None, option_map, option_and_then, Result, Ok, if◌then◌else◌, codes, bytes_eq}
use Rattle.std.specs.Option.{ok_or, option_map_or, option_zip}
use Rattle.http_header.specs.HeaderMap.{Entries, get}
use Rattle.http_header.specs.FieldValue.{FieldValue}
use Rattle.dav_resource.specs.declared.error.DavError.{DavError}
use Rattle.dav_resource.specs.declared.error.DavError.TheVariants.{StatusClose}
use Rattle.dav_headers.specs.declared.range.UpdateRange.{UpdateRange}
use Rattle.dav_headers.specs.declared.range.UpdateRange.TheVariants.{FromTo, AllFrom, Last, Append}
use Rattle.dav_headers.specs.declared.range.ContentRange.{ContentRange}
use Rattle.dav_headers.specs.Values.{readable_text, first_text, cut_at}
use Rattle.dav_headers.specs.Number.{is_number, number_in}

-- what follows the unit `bytes` and the byte `mark`
abbrev pub of_bytes : ℕ → List ℕ → Option (List ℕ)
of_bytes mark text =
    option_and_then (λ parts. if bytes_eq parts.0 (codes "bytes") then Some parts.1 else None) (cut_at mark text)

-- both strings as numbers
abbrev pub both_numbers : List ℕ × List ℕ → Option (ℕ × ℕ)
both_numbers parts = option_zip (number_in parts.0) (number_in parts.1)

-- ---- X-Update-Range

-- the range from the strings before and after the `-`: if the first is empty, the second is a number of bytes at the end; if the second is empty,
-- everything from the first on
abbrev pub range_between : List ℕ × List ℕ → Option UpdateRange
range_between parts =
    if length parts.0 == 0 then option_map Last (number_in parts.1) else (
    if length parts.1 == 0 then option_map AllFrom (number_in parts.0) else
    option_map (λ ends. FromTo ends.0 ends.1) (both_numbers parts))

-- `append`, or `bytes=` and a range, split at its first `-`
abbrev pub update_range_in : List ℕ → Option UpdateRange
update_range_in text =
    if bytes_eq text (codes "append") then Some Append
    else option_and_then range_between (option_and_then (cut_at 45) (of_bytes 61 text))

-- the value of the header, if it can be parsed
abbrev pub update_range_of : Entries FieldValue → Option UpdateRange
update_range_of headers = option_and_then update_range_in (first_text headers (codes "x-update-range"))

-- ---- Content-Range

-- the offsets of a first and a last byte, split at the first `-`
abbrev pub ends_in : List ℕ → Option ContentRange
ends_in text = option_map (λ ends. record { first = ends.0; last = ends.1 }) (option_and_then both_numbers (cut_at 45 text))

-- the whole length: a number, or `*` if it is unknown
abbrev pub is_length : List ℕ → Bool
is_length text = bytes_eq text (codes "*") || is_number text

-- the strings before and after the `/`: a range and a length, or `*` and a known length, which is no range
abbrev pub range_of_length : List ℕ × List ℕ → Option (Option ContentRange)
range_of_length parts =
    if bytes_eq parts.0 (codes "*") then (if is_number parts.1 then Some None else None) else (
    if is_length parts.1 then option_map Some (ends_in parts.0) else None)

-- `bytes`, one space, a range and a length, split at the first `/`
abbrev pub content_range_in : List ℕ → Option (Option ContentRange)
content_range_in text = option_and_then range_of_length (option_and_then (cut_at 47) (of_bytes 32 text))

-- the value of the header; one that cannot be parsed is the error `StatusClose` 400
abbrev pub content_range_of : Entries FieldValue → Result (Option ContentRange) DavError
content_range_of headers =
    option_map_or (λ value. ok_or (option_and_then content_range_in (readable_text value.bytes)) (StatusClose 400))
    (get headers (codes "content-range")) (Ok None)
