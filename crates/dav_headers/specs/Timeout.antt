-- The header Timeout (RFC 4918, section 10.7): the timeout that a client requests for its lock.
use Rattle.std.specs.Prelude.{ℕ, ◌^◌, ◌==◌, List, codes, nat_lt, Option, Some, None, is_some, slice_get, option_and_then, if◌then◌else◌}
use Rattle.std.specs.List.{list_all, slice_split}
use Rattle.http_header.specs.HeaderMap.{Entries}
use Rattle.http_header.specs.FieldValue.{FieldValue}
use Rattle.dav_headers.specs.declared.timeout.DavTimeout.{DavTimeout}
use Rattle.dav_headers.specs.declared.timeout.DavTimeout.TheVariants.{Infinite, Seconds}
use Rattle.dav_headers.specs.Values.{first_text, trim_blanks, is_word, cut_at}
use Rattle.dav_headers.specs.Number.{number_in}

-- this many seconds, if the number is below 2 ^ 32
abbrev pub seconds : ℕ → Option DavTimeout
seconds number = if nat_lt number (2 ^ 32) then Some (Seconds number) else None

-- `Second-` in any ASCII case, and a number
abbrev pub seconds_in : List ℕ → Option DavTimeout
seconds_in text =
    option_and_then (λ parts. if is_word parts.0 (codes "second") then option_and_then seconds (number_in parts.1) else None) (cut_at 45 text)

-- one timeout: `Infinite` in any ASCII case, or seconds
abbrev pub wish_in : List ℕ → Option DavTimeout
wish_in text = if is_word text (codes "infinite") then Some Infinite else seconds_in text

-- the timeout in a list element, without the blanks at its ends
abbrev pub place_in : List ℕ → Option DavTimeout
place_in text = wish_in (trim_blanks text)

-- the list elements, which commas separate
abbrev pub places : List ℕ → List (List ℕ)
places text = slice_split (λ b. b == 44) text

-- the first timeout, if every list element is one
abbrev pub timeout_in : List ℕ → Option DavTimeout
timeout_in text =
    if list_all (λ place. is_some (place_in place)) (places text) then option_and_then place_in (slice_get (places text) 0)
    else None

-- the value of the header, if all of it can be parsed
abbrev pub timeout_of : Entries FieldValue → Option DavTimeout
timeout_of headers = option_and_then timeout_in (first_text headers (codes "timeout"))
