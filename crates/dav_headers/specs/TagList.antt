-- The headers If-Match and If-None-Match (RFC 7232, sections 3.1 and 3.2): `*`, or entity tags separated by commas.
use Rattle.std.specs.Prelude.{ℕ, Bool, false, ◌||◌, ◌==◌, List, [], ◌∷◌, length, slice_index, Option, Some, None, option_and_then, unwrap_or, if◌then◌else◌, codes, bytes_eq, flat_map}
use Rattle.std.specs.Option.{option_map_or}
use Rattle.std.specs.List.{list_any}
use Rattle.http_header.specs.HeaderMap.{Entries, get_all}
use Rattle.http_header.specs.FieldValue.{FieldValue}
use Rattle.dav_resource.specs.declared.etag.ETag.{ETag}
use Rattle.dav_resource.specs.declared.etag.ETagList.{ETagList}
use Rattle.dav_resource.specs.declared.etag.ETagList.TheVariants.{Star, Tags}
use Rattle.dav_headers.specs.Values.{is_blank, drop_blanks, readable_text}
use Rattle.dav_headers.specs.Repeated.{all_of}
use Rattle.dav_headers.specs.Tag.{first_tag}

-- ---- one value

-- the bytes without the blanks and commas at the front
abbrev pub drop_separators : List ℕ → List ℕ
drop_separators [] = []
drop_separators (b ∷ bs) = if is_blank b || b == 44 then drop_separators bs else b ∷ bs

-- the tag, if a comma or the end follows it, and the bytes from the next list element that is not empty
abbrev pub listed : ETag × List ℕ → Option (ETag × List ℕ)
listed found =
    let rest = drop_blanks found.1 in
    if length rest == 0 || slice_index rest 0 == 44 then Some (found.0, drop_separators rest) else None

-- the tag that the bytes begin with, as an element of a list
abbrev pub first_listed : List ℕ → Option (ETag × List ℕ)
first_listed bytes = option_and_then listed (first_tag bytes)

-- the tags of a string, which may be none
abbrev pub tags_of : List ℕ → Option (List ETag)
tags_of text = all_of first_listed (drop_separators text)

-- ---- all values

-- the value is `*`, except for blanks at its ends
abbrev pub is_star : FieldValue → Bool
is_star value = option_map_or (λ text. bytes_eq text (codes "*")) (readable_text value.bytes) false

-- the tags of a value; a value that cannot be parsed has none
abbrev pub value_tags : FieldValue → List ETag
value_tags value = unwrap_or (option_and_then tags_of (readable_text value.bytes)) []

-- the tags, if there are any
abbrev pub some_tags : List ETag → Option ETagList
some_tags [] = None
some_tags (tag ∷ tags) = Some (Tags (tag ∷ tags))

-- `*` if one of the values is `*`, otherwise the tags of all
abbrev pub tag_list_of : List FieldValue → Option ETagList
tag_list_of values = if list_any is_star values then Some Star else some_tags (flat_map value_tags values)

abbrev pub if_match_of : Entries FieldValue → Option ETagList
if_match_of headers = tag_list_of (get_all headers (codes "if-match"))

abbrev pub if_none_match_of : Entries FieldValue → Option ETagList
if_none_match_of headers = tag_list_of (get_all headers (codes "if-none-match"))
