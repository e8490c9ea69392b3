-- The tokens of the header If (RFC 4918, section 10.4.2): which bytes are which token.
use Rattle.std.specs.Prelude.{ℕ, Bool, not, ◌||◌, ◌==◌, List, drop, slice_index, Option, Some, None, option_map, option_and_then, if◌then◌else◌, codes, take_while}
use Rattle.std.specs.List.{prefix_len}
use Rattle.dav_resource.specs.declared.etag.ETag.{ETag}
use Rattle.dav_headers.specs.Values.{is_blank, drop_blanks, cut_at, is_word}
use Rattle.dav_headers.specs.Repeated.{all_of}
use Rattle.dav_headers.specs.Tag.{first_tag}
use Rattle.dav_headers.specs.declared.if_token.IfToken.{IfToken}
use Rattle.dav_headers.specs.declared.if_token.IfToken.TheVariants.{Open, Close, Not, Angle, Bracket, Word}

-- a word byte: no blank, and none of `( ) < > [ ]`
abbrev pub is_word_byte : ℕ → Bool
is_word_byte b = not (is_blank b || b == 40 || b == 41 || b == 60 || b == 62 || b == 91 || b == 93)

-- after a `<`: the string before the first `>`, and what follows it
abbrev pub first_angle : List ℕ → Option (IfToken × List ℕ)
first_angle bytes = option_map (λ found. (Angle found.0, found.1)) (cut_at 62 bytes)

-- after a `[`: an entity tag and `]`, and what follows
abbrev pub closed_tag : ETag × List ℕ → Option (IfToken × List ℕ)
closed_tag found = if slice_index found.1 0 == 93 then Some (Bracket found.0, drop 1 found.1) else None

abbrev pub first_bracket : List ℕ → Option (IfToken × List ℕ)
first_bracket bytes = option_and_then closed_tag (first_tag bytes)

-- `Not` in any ASCII case, or another word
abbrev pub word_token : List ℕ → IfToken
word_token text = if is_word text (codes "not") then Not else Word text

-- the longest run of word bytes, which must not be empty, and what follows it
abbrev pub first_word : List ℕ → Option (IfToken × List ℕ)
first_word bytes =
    if prefix_len is_word_byte bytes == 0 then None
    else Some (word_token (take_while is_word_byte bytes), drop (prefix_len is_word_byte bytes) bytes)

-- the token that the bytes begin with, chosen by the first byte, and what follows it
abbrev pub token_at : List ℕ → Option (IfToken × List ℕ)
token_at bytes =
    if slice_index bytes 0 == 40 then Some (Open, drop 1 bytes)
    else (if slice_index bytes 0 == 41 then Some (Close, drop 1 bytes)
    else (if slice_index bytes 0 == 60 then first_angle (drop 1 bytes)
    else (if slice_index bytes 0 == 91 then first_bracket (drop 1 bytes) else first_word bytes)))

-- the same, and what follows is without the blanks at its front
abbrev pub first_token : List ℕ → Option (IfToken × List ℕ)
first_token bytes = option_map (λ found. (found.0, drop_blanks found.1)) (token_at bytes)

-- the tokens of a string, with any blanks before, between and after them
abbrev pub tokens_of : List ℕ → Option (List IfToken)
tokens_of text = all_of first_token (drop_blanks text)
