-- Steps along a text: its first byte, blanks, and words.
use Rattle.std.proofs.Common.{◌≡◌, ◌<◌, ◌≤◌, ℕ, Bool, true, false, if◌then◌else◌, List, [], ◌∷◌, length, drop, get_or, refl, arith}
use Rattle.std.proofs.lemmas.Bool.Decides.{nat_tests}
use Rattle.std.specs.List.{prefix_len}
use Rattle.dav_headers.specs.Values.{is_blank, drop_blanks}
use Rattle.std.proofs.lemmas.List.Sums.{list_all-from_AllPass, prefix_len-le-length, prefix_len_stops}
use Rattle.http_header.specs.Token.{is_visible_or_blank}
use Rattle.http_header.specs.FieldValue.{IsVisibleAscii, is_visible_text}
use Rattle.std.specs.Str.{IsCharBoundary}
use Rattle.dav_headers.specs.IfToken.{is_word_byte}

-- ---- the first byte

pub some_first : (bs : List ℕ) → 0 < get_or bs 0 0 → 0 < length bs
some_first [] is = absurd (omega arith)
some_first (b ∷ bs) is = omega arith

pub uncons : (bs : List ℕ) → 0 < length bs → bs ≡ get_or bs 0 0 ∷ drop 1 bs
uncons [] some = absurd (omega arith)
uncons (b ∷ bs) some = refl

-- ---- blanks

pub length-drop_blanks : (bs : List ℕ) → length (drop_blanks bs) ≤ length bs
length-drop_blanks [] = omega arith
length-drop_blanks (b ∷ bs) = shorter (is_blank b) (length-drop_blanks bs)
  where
    shorter : (blank : Bool) → length (drop_blanks bs) ≤ length bs → length (if blank then drop_blanks bs else b ∷ bs) ≤ length (b ∷ bs)
    shorter true le = omega arith
    shorter false le = omega arith

-- ---- readable values

pub visible : (bytes : List ℕ) → IsVisibleAscii bytes → is_visible_text bytes ≡ true
visible bytes is = list_all-from_AllPass is_visible_or_blank bytes (λ k lt. is k lt)

-- ---- words

-- a byte past ASCII may stand in a word
ascii_stops : (b : ℕ) → is_word_byte b ≡ false → b < 128
ascii_stops b e = grind (arith, nat_tests)

pub IsCharBoundary-word : (bs : List ℕ) → IsCharBoundary bs (prefix_len is_word_byte bs)
IsCharBoundary-word bs =
    (prefix_len-le-length is_word_byte bs, λ inside past. absurd (let stop = ascii_stops (get_or bs (prefix_len is_word_byte bs) 0) (prefix_len_stops is_word_byte bs 0 inside) in omega arith))
