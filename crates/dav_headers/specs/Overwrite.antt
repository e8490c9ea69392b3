-- The header Overwrite (RFC 4918, section 10.6): whether COPY or MOVE may replace a resource at the destination.
use Rattle.std.specs.Prelude.{ℕ, List, codes, Bool, true, false, Option, Some, None, option_and_then, if◌then◌else◌}
use Rattle.http_header.specs.HeaderMap.{Entries}
use Rattle.http_header.specs.FieldValue.{FieldValue}
use Rattle.dav_headers.specs.Values.{first_text, is_word}

-- `T` or `F`, in any ASCII case
abbrev pub overwrite_in : List ℕ → Option Bool
overwrite_in text = if is_word text (codes "T") then Some true else (if is_word text (codes "F") then Some false else None)

-- the value of the header, if it can be parsed
abbrev pub overwrite_of : Entries FieldValue → Option Bool
overwrite_of headers = option_and_then overwrite_in (first_text headers (codes "overwrite"))
