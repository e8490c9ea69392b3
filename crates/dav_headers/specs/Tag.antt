-- Entity tags in strings (RFC 7232, section 2.3).
use Rattle.std.specs.Prelude.{ℕ, ◌==◌, nat_eq, Bool, true, false, List, drop, slice_index, Option, None, option_map, if◌then◌else◌, codes}
use Rattle.std.specs.List.{starts_with}
use Rattle.dav_resource.specs.declared.etag.ETag.{ETag}
use Rattle.dav_headers.specs.Values.{cut_at}

-- the quoted string at the front, without its quotes, and what follows it
abbrev pub quoted : List ℕ → Option (List ℕ × List ℕ)
quoted bytes = if slice_index bytes 0 == 34 then cut_at 34 (drop 1 bytes) else None

-- the tag with this string, and what follows it
abbrev pub tag_of : Bool → List ℕ × List ℕ → ETag × List ℕ
tag_of weak found = (record { weak = weak; tag = found.0 }, found.1)

-- the entity tag that the bytes begin with, and what follows it; `W/` marks a weak tag
abbrev pub first_tag : List ℕ → Option (ETag × List ℕ)
first_tag bytes =
    if starts_with nat_eq bytes (codes "W/") then option_map (tag_of true) (quoted (drop 2 bytes))
    else option_map (tag_of false) (quoted bytes)
