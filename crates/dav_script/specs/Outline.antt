-- The lines of an outline: their indentation, and the names, namespaces and quoted texts in them; this project's own choice.
use Rattle.std.specs.Prelude.{◌≡◌, ℕ, ◌≤◌, ◌/◌, ◌%◌, ◌==◌, ◌&&◌, ◌||◌, not, nat_eq, nat_lt, Bool, List, [], ◌∷◌, length, drop, Option, Some, None, option_map, option_and_then, if◌then◌else◌, codes}
use Rattle.std.specs.List.{prefix_len, before_first, after_first, list_all, starts_with}
use Rattle.dav_resource.specs.Tree.{has_colon}
use Rattle.dav_headers.specs.Values.{cut_at}

-- ---- levels

abbrev pub is_space : ℕ → Bool
is_space byte = byte == 32

abbrev pub spaces : List ℕ → ℕ
spaces line = prefix_len is_space line

-- a line's level, with two spaces of indentation for each, and the rest of the line
abbrev pub split_level : List ℕ → Option (ℕ × List ℕ)
split_level line = if spaces line % 2 == 0 then Some (spaces line / 2, drop (spaces line) line) else None

-- a line's level
abbrev pub level_of : List ℕ → Option ℕ
level_of line = option_map (λ found. found.0) (split_level line)

-- after lines that leave this number of elements open, a line at this level is the root, or belongs to one of them
abbrev pub HasPlace : ℕ → ℕ → Type 0
HasPlace level unclosed = (level ≤ unclosed) × (level ≡ 0 → unclosed ≡ 0)

-- ---- names

-- greater than 32, so neither a space nor a control character before it, and none of `" = \ { }`
abbrev pub is_name_byte : ℕ → Bool
is_name_byte byte = nat_lt 32 byte && not (byte == 34 || byte == 61 || byte == 92 || byte == 123 || byte == 125)

abbrev pub is_name : List ℕ → Bool
is_name text = nat_lt 0 (length text) && list_all is_name_byte text

-- a name, or two names separated by the first `:`
abbrev pub is_qualified_name : List ℕ → Bool
is_qualified_name text =
    if has_colon text then is_name (before_first (λ b. b == 58) text) && is_name (after_first (λ b. b == 58) text)
    else is_name text

-- ---- namespaces

-- the namespace of ` {namespace}`, up to the first `}`, if the text begins with it, and the rest of the text; none at all if the `}` is missing
abbrev pub split_namespace : List ℕ → Option (Option (List ℕ) × List ℕ)
split_namespace text =
    if starts_with nat_eq text (codes " {") then option_map (λ found. (Some found.0, found.1)) (cut_at 125 (drop 2 text))
    else Some (None, text)

-- ---- quoted strings

-- the character that a `\` and this character stand for
abbrev pub escaped_letter : ℕ → Option ℕ
escaped_letter letter = if letter == 110 then Some 10 else (if letter == 34 || letter == 92 then Some letter else None)

abbrev pub put_first : ℕ → List ℕ × List ℕ → List ℕ × List ℕ
put_first letter found = (letter ∷ found.0, found.1)

-- a quoted text, read from after its opening quote, and what follows the closing quote
abbrev pub quoted : List ℕ → Option (List ℕ × List ℕ)
quoted [] = None
quoted (b ∷ []) = if b == 34 then Some ([], []) else None
quoted (b ∷ c ∷ bs) =
    if b == 34 then Some ([], c ∷ bs)
    else (if b == 92 then option_and_then (λ letter. option_map (put_first letter) (quoted bs)) (escaped_letter c)
    else option_map (put_first b) (quoted (c ∷ bs)))
