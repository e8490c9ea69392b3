-- A list of languages, the value of DAV:getcontentlanguage (RFC 4918, section 15.3; RFC 9110, section 8.5; RFC 3066, section 2.1).
use Rattle.std.specs.Prelude.{ℕ, Bool, false, ◌&&◌, ◌==◌, List, [], ◌∷◌, length, nat_le}
use Rattle.std.specs.Char.{is_ascii_alphabetic, is_ascii_alphanumeric}
use Rattle.std.specs.List.{list_all, slice_split}
use Rattle.dav_headers.specs.Values.{trim_blanks}

-- a subtag may have this many bytes
abbrev pub is_subtag_length : ℕ → Bool
is_subtag_length count = nat_le 1 count && nat_le count 8

-- 1 to 8 bytes that pass the test
abbrev pub is_subtag : (ℕ → Bool) → List ℕ → Bool
is_subtag test part = is_subtag_length (length part) && list_all test part

-- a first part of letters, and then parts of letters and digits
abbrev pub are_subtags : List (List ℕ) → Bool
are_subtags [] = false
are_subtags (primary ∷ others) = is_subtag is_ascii_alphabetic primary && list_all (is_subtag is_ascii_alphanumeric) others

-- subtags with a hyphen between each two
abbrev pub is_language_tag : List ℕ → Bool
is_language_tag text = are_subtags (slice_split (λ b. b == 45) text)

-- a tag, with blanks allowed at both ends
abbrev pub is_place : List ℕ → Bool
is_place text = is_language_tag (trim_blanks text)

-- commas separate the parts, and each part is such a tag
abbrev pub is_language_list : List ℕ → Bool
is_language_list text = list_all is_place (slice_split (λ b. b == 44) text)
