-- What is read of a header: its first value, if it is readable (RFC 9110, section 5.5). What is readable is this project's own choice.
use Rattle.std.specs.Prelude.{ℕ, Bool, ◌||◌, ◌==◌, List, [], ◌∷◌, reverse, map, Option, Some, None, option_and_then, option_map, if◌then◌else◌, bytes_eq}
use Rattle.std.specs.Char.{to_ascii_lowercase}
use Rattle.http_header.specs.HeaderMap.{Entries, get}
use Rattle.http_header.specs.FieldValue.{FieldValue, is_visible_text}

-- a blank: space or tab
abbrev pub is_blank : ℕ → Bool
is_blank b = b == 32 || b == 9

-- the bytes without the blanks at the front
abbrev pub drop_blanks : List ℕ → List ℕ
drop_blanks [] = []
drop_blanks (b ∷ bs) = if is_blank b then drop_blanks bs else b ∷ bs

-- the bytes without the blanks at both ends
abbrev pub trim_blanks : List ℕ → List ℕ
trim_blanks bs = reverse (drop_blanks (reverse (drop_blanks bs)))

-- the value without the blanks at its ends, if it is readable: only tabs and bytes 0x20 to 0x7E
abbrev pub readable_text : List ℕ → Option (List ℕ)
readable_text bytes = if is_visible_text bytes then Some (trim_blanks bytes) else None

-- the first value of a header as a string, if it is readable
abbrev pub first_text : Entries FieldValue → List ℕ → Option (List ℕ)
first_text headers name = option_and_then (λ value. readable_text value.bytes) (get headers name)

-- the strings are equal, in any ASCII case
abbrev pub is_word : List ℕ → List ℕ → Bool
is_word text word = bytes_eq (map to_ascii_lowercase text) (map to_ascii_lowercase word)

-- what precedes the first byte `end`, and what follows it, if it occurs
abbrev pub cut_at : ℕ → List ℕ → Option (List ℕ × List ℕ)
cut_at end [] = None
cut_at end (b ∷ bs) = if b == end then Some ([], bs) else option_map (λ parts. (b ∷ parts.0, parts.1)) (cut_at end bs)
