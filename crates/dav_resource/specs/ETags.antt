-- Entity tags (RFC 7232, section 2.3).
use Rattle.std.specs.Prelude.{ℕ, Bool, false, not, ◌&&◌, List, bytes_eq}
use Rattle.dav_resource.specs.declared.etag.ETag.{ETag}

-- strong comparison: neither tag is weak, and the strings are equal
abbrev pub strongly_equal : ETag → ETag → Bool
strongly_equal a b = not a.weak && not b.weak && bytes_eq a.tag b.tag

-- the strong entity tag with this string
abbrev pub strong_tag : List ℕ → ETag
strong_tag text = record { weak = false; tag = text }
