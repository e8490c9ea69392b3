-- Lines of an outline: where they may be cut, and quoted texts letter by letter.
use Rattle.std.proofs.Common.{◌≡◌, ◌≢◌, ◌<◌, ◌≤◌, ◌==◌, ◌||◌, ℕ, suc, zero, Bool, true, false, not, if◌then◌else◌, List, [], ◌∷◌, ◌++◌, length, get_or, Option, Some, None, option_map, refl, sym, ap, ◌∙◌, arith, add-one, MatchOption, length-append, append_assoc, append-nil}
use Rattle.std.proofs.lemmas.Bool.Decides.{nat_tests}
use Rattle.std.proofs.lemmas.Str.{IsCharBoundary-start, IsCharBoundary-after_ascii, char_from_byte, inside_one, encode_ascii}
use Rattle.std.proofs.lemmas.List.Sums.{prefix_len-le-length, prefix_len_passes, prefix_len_stops}
use Rattle.std.specs.List.{position_or_len}
use Rattle.std.specs.Prelude.{option_and_then, encode_utf8}
use Rattle.std.specs.Str.{IsUtf8, IsCharBoundary}
use Rattle.dav_script.specs.Outline.{is_space, spaces, escaped_letter, put_first, quoted}

-- ---- where a line may be cut

space_is : (b : ℕ) → is_space b ≡ true → b < 128
space_is b e = grind (arith, nat_tests)

no_space : (b : ℕ) → not (is_space b) ≡ false → b < 128
no_space b e = grind (arith, nat_tests)

behind : (line : List ℕ) (n : ℕ) → n ≡ spaces line → IsUtf8 line → IsCharBoundary line n
behind line zero e utf8 = IsCharBoundary-start line utf8
behind line (suc n) e utf8 =
    let le : spaces line ≤ length line = prefix_len-le-length is_space line in
    let passes : is_space (get_or line n 0) ≡ true = prefix_len_passes is_space line n 0 (omega arith) in
    rw (← add-one) (IsCharBoundary-after_ascii line n utf8 (omega arith) (space_is (get_or line n 0) passes))

pub IsCharBoundary-spaces : (line : List ℕ) → IsUtf8 line → IsCharBoundary line (spaces line)
IsCharBoundary-spaces line utf8 = behind line (spaces line) refl utf8

pub IsCharBoundary-space : (line : List ℕ) → IsCharBoundary line (position_or_len is_space line)
IsCharBoundary-space line =
    (prefix_len-le-length (λ b. not (is_space b)) line, λ inside past. absurd (let stop = no_space (get_or line (position_or_len is_space line) 0) (prefix_len_stops (λ b. not (is_space b)) line 0 inside) in omega arith))

-- ---- quoted texts

-- what was read of a quoted text, and what is found behind it
abbrev pub put_before : List ℕ → Option (List ℕ × List ℕ) → Option (List ℕ × List ℕ)
put_before text found = option_map (λ f. (text ++ f.0, f.1)) found

put_before-nil : (found : Option (List ℕ × List ℕ)) → put_before [] found ≡ found
put_before-nil None = refl
put_before-nil (Some f) = refl

put_before-cons : (b : ℕ) (text : List ℕ) (found : Option (List ℕ × List ℕ)) → option_map (put_first b) (put_before text found) ≡ put_before (b ∷ text) found
put_before-cons b text None = refl
put_before-cons b text (Some f) = refl

put_before-append : (xs ys : List ℕ) (found : Option (List ℕ × List ℕ)) → put_before xs (put_before ys found) ≡ put_before (xs ++ ys) found
put_before-append xs ys None = refl
put_before-append xs ys (Some f) = rw append_assoc refl

-- a byte that is neither a quote nor a `\`
record IsPlain (b : ℕ) : Type 0 where
  pub no_quote : b ≢ 34
  pub no_escape : b ≢ 92

quoted-plain : (b : ℕ) (bs : List ℕ) → IsPlain b → quoted (b ∷ bs) ≡ option_map (put_first b) (quoted bs)
quoted-plain b [] plain = let e : (b == 34) ≡ false = grind (arith, nat_tests, plain.no_quote) in rw e refl
quoted-plain b (c ∷ bs) plain =
    let e : (b == 34) ≡ false = grind (arith, nat_tests, plain.no_quote) in
    let f : (b == 92) ≡ false = grind (arith, nat_tests, plain.no_escape) in
    rw (e, f) refl

quoted-all_plain : (text bs : List ℕ) → ((k : ℕ) → k < length text → IsPlain (get_or text k 0)) → quoted (text ++ bs) ≡ put_before text (quoted bs)
quoted-all_plain [] bs plain = sym (put_before-nil (quoted bs))
quoted-all_plain (b ∷ text) bs plain =
    quoted-plain b (text ++ bs) (plain 0 (omega arith))
    ∙ ap (option_map (put_first b)) (quoted-all_plain text bs (λ k lt. plain (suc k) (omega arith)))
    ∙ put_before-cons b text (quoted bs)

-- a letter that is neither a quote nor a `\`
pub quoted-letter : (c : ℕ) (bs : List ℕ) → c ≢ 34 → c ≢ 92 → quoted (encode_utf8 c ++ bs) ≡ put_before (encode_utf8 c) (quoted bs)
quoted-letter c bs no_quote no_escape =
    quoted-all_plain (encode_utf8 c) bs
    (λ k lt. record {
      no_quote = λ e. no_quote (inside_one c [] (encode_utf8 c) k (sym (append-nil (encode_utf8 c))) lt (omega arith) ∙ e);
      no_escape = λ e. no_escape (inside_one c [] (encode_utf8 c) k (sym (append-nil (encode_utf8 c))) lt (omega arith) ∙ e);
    })

-- the letters of an escape are ASCII
record IsEscape (letter meant : ℕ) : Type 0 where
  pub letter_ascii : letter < 128
  pub meant_ascii : meant < 128

is_escape : (l m : ℕ) (a b : Bool) → (l == 110) ≡ a → (l == 34 || l == 92) ≡ b → (if a then Some 10 else (if b then Some l else None)) ≡ Some m → IsEscape l m
is_escape l m true b p q e =
    let meant : 10 ≡ m = cc in
    record { letter_ascii = grind (arith, nat_tests); meant_ascii = omega arith }
is_escape l m false true p q e =
    let meant : l ≡ m = cc in
    let ascii : l < 128 = grind (arith, nat_tests) in
    record { letter_ascii = ascii; meant_ascii = omega arith }
is_escape l m false false p q e = absurd cc

escape : (l m : ℕ) → escaped_letter l ≡ Some m → IsEscape l m
escape l m e = is_escape l m (l == 110) (l == 34 || l == 92) refl refl e

-- no letter's bytes begin as an escape does that the letter is not
no_escape : (b : ℕ) (bs rest : List ℕ) (l : ℕ) (found : Option ℕ) → b ∷ bs ≡ encode_utf8 l ++ rest → escaped_letter l ≡ None → escaped_letter b ≡ found → found ≡ None
no_escape b bs rest l None e none is = refl
no_escape b bs rest l (Some m) e none is =
    let ascii = (escape b m is).letter_ascii in
    let same : l ≡ b = char_from_byte (b ∷ bs) rest l e ascii (omega arith) in
    absurd (let f : None ≡ Some m = sym none ∙ ap escaped_letter same ∙ is in cc)

quoted-no_escape : (tail rest : List ℕ) (l : ℕ) → tail ≡ encode_utf8 l ++ rest → escaped_letter l ≡ None → quoted (92 ∷ tail) ≡ None
quoted-no_escape [] rest l e none = refl
quoted-no_escape (b ∷ bs) rest l e none = rw (no_escape b bs rest l (escaped_letter b) e none refl) refl

quoted-escape : (tail rest : List ℕ) (l m : ℕ) → tail ≡ encode_utf8 l ++ rest → escaped_letter l ≡ Some m → quoted (92 ∷ tail) ≡ put_before (encode_utf8 m) (quoted rest)
quoted-escape tail rest l m e is =
    let found = escape l m is in
    let whole : tail ≡ l ∷ rest = e ∙ ap (λ front. front ++ rest) (encode_ascii l found.letter_ascii) in
    rw (whole, is, encode_ascii m found.meant_ascii) refl

-- ---- a quoted text that is read up to some place

-- behind the value so far stands what is left to read
pub record IsReadTo (text value rest : List ℕ) : Type 0 where
  pub read : quoted text ≡ put_before value (quoted rest)
  pub within : length rest ≤ length text

pub read_nothing : (text value rest : List ℕ) → value ≡ [] → rest ≡ text → IsReadTo text value rest
read_nothing text value rest v r =
    record { read = rw (v, r) (sym (put_before-nil (quoted text))); within = rw r (omega arith) }

shorter : (front rest whole : List ℕ) → whole ≡ front ++ rest → length rest ≤ length whole
shorter front rest whole e = rw e (omega (arith, length-append front rest))

further : (text value rest more value' rest' : List ℕ) → IsReadTo text value rest → quoted rest ≡ put_before more (quoted rest') → value' ≡ value ++ more → length rest' ≤ length rest → IsReadTo text value' rest'
further text value rest more value' rest' to e v le =
    record {
      read = to.read ∙ ap (put_before value) e ∙ put_before-append value more (quoted rest') ∙ ap (λ w. put_before w (quoted rest')) (sym v);
      within = let within = to.within in omega arith;
    }

pub read_letter : (text value rest value' rest' : List ℕ) (c : ℕ) → IsReadTo text value rest → rest ≡ encode_utf8 c ++ rest' → c ≢ 34 → c ≢ 92 → value' ≡ value ++ encode_utf8 c → IsReadTo text value' rest'
read_letter text value rest value' rest' c to e no_quote no_escape v =
    further text value rest (encode_utf8 c) value' rest' to (ap quoted e ∙ quoted-letter c rest' no_quote no_escape) v (shorter (encode_utf8 c) rest' rest e)

escape_at : (rest tail : List ℕ) → rest ≡ encode_utf8 92 ++ tail → rest ≡ 92 ∷ tail
escape_at rest tail e = e ∙ ap (λ front. front ++ tail) (encode_ascii 92 (omega arith))

pub read_escape : (X : Type 0) (text value rest tail value' rest' : List ℕ) (next : Option ℕ) (m : ℕ) → IsReadTo text value rest → rest ≡ encode_utf8 92 ++ tail → MatchOption next ((length tail ≡ 0) × X) (λ l. tail ≡ encode_utf8 l ++ rest')
    → option_and_then escaped_letter next ≡ Some m → value' ≡ value ++ encode_utf8 m → IsReadTo text value' rest'
read_escape X text value rest tail value' rest' None m to e is letter v = absurd cc
read_escape X text value rest tail value' rest' (Some l) m to e is letter v =
    let at = escape_at rest tail e in
    let le = shorter (encode_utf8 l) rest' tail is in
    further text value rest (encode_utf8 m) value' rest' to (ap quoted at ∙ quoted-escape tail rest' l m is letter) v (rw at (omega arith))

pub read_no_escape : (X : Type 0) (text value rest tail rest' : List ℕ) (next : Option ℕ) → IsReadTo text value rest → rest ≡ encode_utf8 92 ++ tail → MatchOption next ((length tail ≡ 0) × X) (λ l. tail ≡ encode_utf8 l ++ rest')
    → option_and_then escaped_letter next ≡ None → quoted text ≡ None
read_no_escape X text value rest [] rest' None to e is none = to.read ∙ ap (λ r. put_before value (quoted r)) (escape_at rest [] e)
read_no_escape X text value rest (b ∷ bs) rest' None to e is none = let h = is.0 in absurd (omega arith)
read_no_escape X text value rest tail rest' (Some l) to e is none =
    to.read ∙ ap (λ r. put_before value (quoted r)) (escape_at rest tail e) ∙ ap (put_before value) (quoted-no_escape tail rest' l is none)
