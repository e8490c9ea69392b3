-- The target of a PUT or a PATCH, by its headers: where it writes, and how much (RFC 9110, section 14.5; SabreDAV's partial update).
use Rattle.std.specs.Prelude.{ℕ, ◌+◌, ◌-◌, ◌^◌, nat_le, nat_lt, nat_eq, Bool, true, false, ◌&&◌, if◌then◌else◌, List, bytes_eq, codes, Option, Some, None, unwrap_or, Result, Ok, Err}
use Rattle.std.specs.Option.{option_map_or, option_or}
use Rattle.http_header.specs.HeaderMap.{Entries}
use Rattle.http_header.specs.FieldValue.{FieldValue}
use Rattle.dav_resource.specs.Errors.{from_fs}
use Rattle.dav_resource.specs.declared.meta.Meta.{Meta}
use Rattle.dav_resource.specs.declared.error.FsError.{FsError}
use Rattle.dav_resource.specs.declared.error.FsError.TheVariants.{NotFound}
use Rattle.dav_resource.specs.declared.error.DavError.{DavError}
use Rattle.dav_resource.specs.declared.error.DavError.TheVariants.{StatusClose}
use Rattle.dav_headers.specs.Body.{content_length_of, expected_length_of, content_type_of}
use Rattle.dav_headers.specs.Range.{update_range_of, content_range_of}
use Rattle.dav_headers.specs.declared.range.UpdateRange.{UpdateRange}
use Rattle.dav_headers.specs.declared.range.UpdateRange.TheVariants.{FromTo, AllFrom, Last, Append}
use Rattle.dav_headers.specs.declared.range.ContentRange.{ContentRange}
use Rattle.dav_engine.specs.declared.target.Target.{Target}

-- the length that a header states for the body: `Content-Length` or, without that, `X-Expected-Entity-Length`
abbrev pub stated_length : Entries FieldValue → Option ℕ
stated_length headers = option_or (content_length_of headers) (expected_length_of headers)

-- ---- ranges

-- `first` to `last` is a range, its length fits in 64 bits, and it is the stated length, if one is stated
abbrev pub spans : Option ℕ → ℕ → ℕ → Bool
spans stated first last = nat_le first last && nat_lt (last - first + 1) (2 ^ 64) && option_map_or (nat_eq (last - first + 1)) stated true

-- the part from `first` to `last`, with its length; if that is not such a range: 416
abbrev pub from_to : Target → ℕ → ℕ → Result Target DavError
from_to target first last =
    if spans target.length first last then Ok (record target { start = first; part = true; length = Some (last - first + 1) }) else Err (StatusClose 416)

-- The part that begins `count` bytes before the end of the file; 416 if the file is shorter. If nothing exists there, the target stays the same,
-- whatever `count` is. Any other error of the lookup stays an error.
abbrev pub last_bytes : Target → ℕ → Result Meta FsError → Result Target DavError
last_bytes target count (Ok meta) = if nat_le count meta.len then Ok (record target { start = meta.len - count }) else Err (StatusClose 416)
last_bytes target count (Err NotFound) = Ok target
last_bytes target count (Err e) = Err (from_fs e)

-- ---- the target of a PATCH

-- the part that `X-Update-Range` selects
abbrev pub named_part : Target → UpdateRange → Result Meta FsError → Result Target DavError
named_part target (FromTo first last) found = from_to target first last
named_part target (AllFrom first) found = Ok (record target { start = first })
named_part target (Last count) found = last_bytes target count found
named_part target Append found = Ok (record target { append = true })

-- a partial update needs a length (411) and a range (400)
abbrev pub update_target : Option ℕ → Option UpdateRange → Result Meta FsError → Result Target DavError
update_target None range found = Err (StatusClose 411)
update_target (Some length) None found = Err (StatusClose 400)
update_target (Some length) (Some range) found = named_part (record { start = 0; append = false; part = true; length = Some length; stated = Some length }) range found

-- the Content-Type is that of SabreDAV's partial update
abbrev pub is_update : Option (List ℕ) → Bool
is_update kind = option_map_or (λ text. bytes_eq text (codes "application/x-sabredav-partialupdate")) kind false

-- any other Content-Type is rejected: 415
abbrev pub patch_target : Entries FieldValue → Result Meta FsError → Result Target DavError
patch_target headers found =
    if is_update (content_type_of headers) then update_target (stated_length headers) (update_range_of headers) found else Err (StatusClose 415)

-- ---- the target of a PUT or a PATCH

-- the whole file, which a PUT replaces
abbrev pub whole : Entries FieldValue → Target
whole headers = record { start = 0; append = false; part = false; length = stated_length headers; stated = stated_length headers }

-- the part that `Content-Range` selects, if it has a range; if the header cannot be read, its error
abbrev pub in_range : Target → Result (Option ContentRange) DavError → Result Target DavError
in_range target (Err e) = Err e
in_range target (Ok None) = Ok target
in_range target (Ok (Some range)) = from_to target range.first range.last

-- a target whose end does not fit in 64 bits is rejected: 416
abbrev pub within_reach : Target → Result Target DavError
within_reach target = if nat_lt (target.start + unwrap_or target.length 0) (2 ^ 64) then Ok target else Err (StatusClose 416)

abbrev pub and_then : {A B : Type 0} → Result A DavError → (A → Result B DavError) → Result B DavError
and_then (Ok a) next = next a
and_then (Err e) next = Err e

-- the target of a PATCH (`partial`) or of a PUT, before `Content-Range`
abbrev pub first_target : Bool → Entries FieldValue → Result Meta FsError → Result Target DavError
first_target partial headers found = if partial then patch_target headers found else Ok (whole headers)

-- the target, by the headers and the result of the lookup of the path
abbrev pub target_of : Bool → Entries FieldValue → Result Meta FsError → Result Target DavError
target_of partial headers found =
    and_then (first_target partial headers found) (λ target.
    and_then (in_range target (content_range_of headers)) within_reach)
