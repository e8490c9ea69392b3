-- The bytes of a script's escaped text, with the escapes `\n`, `\\`, `\"`, and `\x` with two hexadecimal digits; this project's own choice.
use Rattle.std.specs.Prelude.{◌≡◌, ℕ, ◌+◌, ◌*◌, ◌==◌, ◌&&◌, ◌||◌, List, [], ◌∷◌, Option, Some, None, if◌then◌else◌}
use Rattle.std.specs.Char.{is_ascii_hexdigit, digit_value}

-- the byte that two hexadecimal digits stand for, and the text after them
abbrev pub hex_byte : List ℕ → Option (ℕ × List ℕ)
hex_byte [] = None
hex_byte (high ∷ []) = None
hex_byte (high ∷ low ∷ rest) = if is_ascii_hexdigit high && is_ascii_hexdigit low then Some (16 * digit_value high + digit_value low, rest) else None

-- the byte that an escape stands for, from after its `\`, and the text after the escape
abbrev pub escaped_byte : List ℕ → Option (ℕ × List ℕ)
escaped_byte [] = None
escaped_byte (letter ∷ rest) =
    if letter == 110 then Some (10, rest)
    else (if letter == 92 || letter == 34 then Some (letter, rest)
    else (if letter == 120 then hex_byte rest else None))

-- the first byte that a text stands for, and the text after it
abbrev pub first_byte : List ℕ → Option (ℕ × List ℕ)
first_byte [] = None
first_byte (letter ∷ rest) = if letter == 92 then escaped_byte rest else Some (letter, rest)

-- the text stands for the bytes
pub data StandsFor : List ℕ → List ℕ → Type 0 where
  nothing : StandsFor [] []
  byte_then : {text rest bytes : List ℕ} {byte : ℕ} → first_byte text ≡ Some (byte, rest) → StandsFor rest bytes → StandsFor text (byte ∷ bytes)

-- somewhere in the text, what comes next stands for no byte
pub data IsFaulty : List ℕ → Type 0 where
  here : {text : List ℕ} {letter : ℕ} {rest : List ℕ} → text ≡ letter ∷ rest → first_byte text ≡ None → IsFaulty text
  later : {text rest : List ℕ} {byte : ℕ} → first_byte text ≡ Some (byte, rest) → IsFaulty rest → IsFaulty text
