-- Paths as strings: how the path of a URL (RFC 3986, sections 2.1, 2.3 and 3.3) is parsed into a key, and how a key is written. That no segment is
-- `..`, and the order of the errors, are this project's own choice.
use Rattle.std.specs.Prelude.{◌≡◌, ℕ, ◌<◌, ◌-◌, Bool, true, false, codes, bytes_eq, not, ◌&&◌, ◌||◌, ◌==◌, List, [], ◌∷◌, ◌++◌, length, take, drop, slice_index, if◌then◌else◌, Result, Ok, Err, IsTrue, All}
use Rattle.std.specs.List.{list_all, slice_split, before_first, flat_map, starts_with}
use Rattle.std.specs.Str.{is_utf8}
use Rattle.std.specs.Char.{is_ascii_hexdigit, is_ascii_alphanumeric}
use Rattle.percent_encoding.specs.Percent.{percent_decode, percent_encode_byte}
use Rattle.dav_resource.specs.declared.error.DavError.{DavError}
use Rattle.dav_resource.specs.declared.error.DavError.TheVariants.{InvalidPath, ForbiddenPath, IllegalPath}
use Rattle.dav_key.specs.Key.{Key}

-- `/`
abbrev pub is_slash : ℕ → Bool
is_slash b = b == 47

-- ---- one segment of a string, between slashes

-- the bytes begin with two hexadecimal digits
abbrev pub starts_with_two_digits : List ℕ → Bool
starts_with_two_digits [] = false
starts_with_two_digits (high ∷ []) = false
starts_with_two_digits (high ∷ low ∷ rest) = is_ascii_hexdigit high && is_ascii_hexdigit low

-- every `%` is followed by two hexadecimal digits
abbrev pub has_whole_escapes : List ℕ → Bool
has_whole_escapes [] = true
has_whole_escapes (b ∷ bs) = (not (b == 37) || starts_with_two_digits bs) && has_whole_escapes bs

-- neither NUL nor `/`
abbrev pub is_plain_byte : ℕ → Bool
is_plain_byte b = not (b == 0) && not (b == 47)

-- a byte that stands for itself in a part: neither NUL, `/` nor `%`
abbrev pub is_literal_byte : ℕ → Bool
is_literal_byte b = is_plain_byte b && not (b == 37)

-- the decoded bytes of a part may occur in a segment: UTF-8 without NUL and `/`
abbrev pub is_segment_text : List ℕ → Bool
is_segment_text bytes = is_utf8 bytes && list_all is_plain_byte bytes

-- the part is well-formed: every `%` is a whole escape, and the decoded bytes may occur in a segment
abbrev pub is_readable : List ℕ → Bool
is_readable part = has_whole_escapes part && is_segment_text (percent_decode part)

-- ---- a string

-- the empty string and `.`
abbrev pub is_dropped : List ℕ → Bool
is_dropped [] = true
is_dropped (b ∷ []) = b == 46
is_dropped (b ∷ c ∷ bs) = false

-- `..`
abbrev pub is_parent : List ℕ → Bool
is_parent [] = false
is_parent (b ∷ []) = false
is_parent (b ∷ c ∷ []) = b == 46 && c == 46
is_parent (b ∷ c ∷ d ∷ bs) = false

-- the string may be a segment: it is neither empty, `.` nor `..`, and has neither NUL nor `/`
abbrev pub is_segment : List ℕ → Bool
is_segment text = not (is_dropped text) && not (is_parent text) && list_all is_plain_byte text

-- the key after one more decoded segment, as `cd` does; `ForbiddenPath` if `..` leaves the root
abbrev pub enter : Key → List ℕ → Result Key DavError
enter key segment =
    if is_dropped segment then Ok key
    else (if not (is_parent segment) then Ok (key ++ segment ∷ [])
    else (if length key == 0 then Err ForbiddenPath else Ok (take (length key - 1) key)))

-- the result of the next step, or the error of the step before it
abbrev pub on_ok : {A B : Type 0} → Result A DavError → (A → Result B DavError) → Result B DavError
on_ok (Ok a) f = f a
on_ok (Err e) f = Err e

-- the decoded bytes of a part
abbrev pub read_part : List ℕ → Result (List ℕ) DavError
read_part part = if is_readable part then Ok (percent_decode part) else Err InvalidPath

-- the key after one more part between slashes
abbrev pub enter_part : Key → List ℕ → Result Key DavError
enter_part key part = on_ok (read_part part) (enter key)

-- the key after all these parts, from left to right
abbrev pub enter_parts : Key → Key → Result Key DavError
enter_parts key [] = Ok key
enter_parts key (part ∷ parts) = on_ok (enter_part key part) (λ next. enter_parts next parts)

-- the key of a string that begins with `/`
abbrev pub read_key : List ℕ → Result Key DavError
read_key text =
    if slice_index text 0 == 47 then enter_parts [] (slice_split is_slash text) else Err InvalidPath

-- ---- parsing a path

-- a path: its prefix, and its key without the prefix
pub record PathValue : Type 0 where
  pub star : Bool
  pub slash : Bool
  pub prefix : Key
  pub key : Key

-- the string before its first `?` or `#`
abbrev pub path_part : List ℕ → List ℕ
path_part text = before_first (λ b. b == 35) (before_first (λ b. b == 63) text)

-- the last byte is `/`
abbrev pub ends_in_slash : List ℕ → Bool
ends_in_slash text = slice_index text (length text - 1) == 47

-- an empty prefix has no segments, any other is parsed as a path is
abbrev pub read_prefix : List ℕ → Result Key DavError
read_prefix [] = Ok []
read_prefix (b ∷ bs) = read_key (b ∷ bs)

-- the path with this key, below this prefix; `IllegalPath` if the key does not begin with the prefix
abbrev pub below_prefix : Bool → Key → Key → Result PathValue DavError
below_prefix slash key prefix =
    if starts_with bytes_eq key prefix
    then Ok (record { star = false; slash = slash || length (drop (length prefix) key) == 0; prefix = prefix; key = drop (length prefix) key })
    else Err IllegalPath

-- the path `*`, which names no resource but the server (RFC 9110, section 7.1)
abbrev pub star_path : PathValue
star_path = record { star = true; slash = true; prefix = []; key = [] }

-- the path of this string below this prefix; the errors of the string come first, then those of the prefix, then `IllegalPath`
abbrev pub read_path : List ℕ → List ℕ → Result PathValue DavError
read_path text prefix =
    if bytes_eq text (codes "*") then Ok star_path
    else on_ok (read_key (path_part text)) (λ key. on_ok (read_prefix prefix) (below_prefix (ends_in_slash (path_part text)) key))

-- the path of this string below a prefix that is already parsed
abbrev pub read_path_below : List ℕ → Key → Result PathValue DavError
read_path_below text prefix =
    if bytes_eq text (codes "*") then Ok star_path
    else on_ok (read_key (path_part text)) (λ key. below_prefix (ends_in_slash (path_part text)) key prefix)

-- ---- writing a path

-- the unreserved characters: letters, digits, `-`, `.`, `_` and `~` (RFC 3986, section 2.3)
abbrev pub is_unreserved : ℕ → Bool
is_unreserved b = is_ascii_alphanumeric b || b == 45 || b == 46 || b == 95 || b == 126

-- percent-encoding: every byte that is not kept becomes `%` and two upper-case hexadecimal digits
abbrev pub escape_but : (ℕ → Bool) → List ℕ → List ℕ
escape_but keeps bytes = flat_map (λ b. if keeps b then b ∷ [] else percent_encode_byte b) bytes

-- `/` and the percent-encoded segment, for each segment
abbrev pub key_text_but : (ℕ → Bool) → Key → List ℕ
key_text_but keeps key = flat_map (λ segment. 47 ∷ escape_but keeps segment) key

-- the trailing slash, which the root always has
abbrev pub last_slash : Bool → Key → List ℕ
last_slash slash key = if slash || length key == 0 then 47 ∷ [] else []

-- the path as a string in which these bytes of its segments are kept, without its prefix
abbrev pub url_text_but : (ℕ → Bool) → PathValue → List ℕ
url_text_but keeps path = if path.star then codes "*" else key_text_but keeps path.key ++ last_slash path.slash path.key

-- the same where only the unreserved characters are kept
abbrev pub escape : List ℕ → List ℕ
escape bytes = escape_but is_unreserved bytes

abbrev pub key_text : Key → List ℕ
key_text key = key_text_but is_unreserved key

abbrev pub url_text : PathValue → List ℕ
url_text path = url_text_but is_unreserved path

-- ---- keys

-- the string may occur in a segment: it passes `is_segment_text`, and each of its numbers is a byte
pub record IsSegmentText (segment : List ℕ) : Type 0 where
  pub text : IsTrue (is_segment_text segment)
  pub bytes : All (λ b. b < 256) segment

-- a segment: such a string that is neither empty, `.` nor `..`
pub record IsSegment (segment : List ℕ) : Type 0 where
  pub written : IsSegmentText segment
  pub kept : is_dropped segment ≡ false
  pub child : is_parent segment ≡ false

-- every element of the key is a segment
abbrev pub IsKey : Key → Type 0
IsKey [] = Unit {0}
IsKey (segment ∷ key) = IsSegment segment × IsKey key

-- the invariant of a path: prefix and key are keys, and a path with `star` set is `star_path`
pub record IsPathValue (path : PathValue) : Type 0 where
  pub prefix : IsKey path.prefix
  pub key : IsKey path.key
  pub star : path.star ≡ true → path ≡ star_path
