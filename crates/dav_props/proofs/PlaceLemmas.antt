-- A place of a list of languages, byte by byte.
use Rattle.std.proofs.Common.{◌≡◌, ◌∙◌, ℕ, zero, suc, ◌+◌, ◌<◌, Bool, true, false, ◌&&◌, eqb, List, [], ◌∷◌, ◌++◌, replicate, refl, sym, ap, arith, zero-add, add-one}
use Rattle.std.proofs.lemmas.Bool.{and_right}
use Rattle.std.proofs.lemmas.Bool.Decides.{nat_tests}
use Rattle.std.specs.Char.{is_ascii_alphabetic, is_ascii_alphanumeric}
use Rattle.dav_headers.specs.Values.{is_blank}
use Rattle.dav_props.specs.Language.{is_subtag_length, is_language_tag, is_place}
use Rattle.dav_props.proofs.BlankLemmas.{trim_end, blank_before, trim_end-cons, trim_end-blank, trim_blanks-cons, trim_blanks-blank}
use Rattle.dav_props.proofs.PartLemmas.{and-true}
use Rattle.dav_props.proofs.LanguageTagLemmas.{is_tag_after, is_tag_after-long, is_tag_after-next, is_tag_after-never, is_tag_after-end, is_tag_after-hyphen, is_language_tag-after, is_tag_after-replicate}

-- the rest of a place, of whose last subtag so many bytes stand before it
abbrev pub is_place_after : (ℕ → Bool) → ℕ → List ℕ → Bool
is_place_after test count text = is_tag_after test count (trim_end text)

-- nothing stands there
abbrev pub is_empty : List ℕ → Bool
is_empty [] = true
is_empty (x ∷ xs) = false

-- ---- one byte on

pub is_place_after-end : (test : ℕ → Bool) (count : ℕ) → is_place_after test count [] ≡ is_subtag_length count
is_place_after-end test count = is_tag_after-end test count

pub is_place_after-long : (test : ℕ → Bool) (count : ℕ) (text : List ℕ) → 8 < count → is_place_after test count text ≡ false
is_place_after-long test count text long = is_tag_after-long test count (trim_end text) long

pub is_place_after-next : (test : ℕ → Bool) (count b : ℕ) (text : List ℕ) → is_blank b ≡ false → eqb b 45 ≡ false → test b ≡ true → is_place_after test count (b ∷ text) ≡ is_place_after test (count + 1) text
is_place_after-next test count b text inked apart e =
    ap (is_tag_after test count) (trim_end-cons b text inked) ∙ is_tag_after-next test count b (trim_end text) apart e

pub is_place_after-never : (test : ℕ → Bool) (count b : ℕ) (text : List ℕ) → is_blank b ≡ false → eqb b 45 ≡ false → test b ≡ false → is_place_after test count (b ∷ text) ≡ false
is_place_after-never test count b text inked apart e =
    ap (is_tag_after test count) (trim_end-cons b text inked) ∙ is_tag_after-never test count b (trim_end text) apart e

pub is_place_after-hyphen : (test : ℕ → Bool) (count : ℕ) (text : List ℕ) → is_place_after test count (45 ∷ text) ≡ (is_subtag_length count && is_place_after is_ascii_alphanumeric 0 text)
is_place_after-hyphen test count text =
    ap (is_tag_after test count) (trim_end-cons 45 text refl) ∙ is_tag_after-hyphen test count (trim_end text)

blank_behind : (test : ℕ → Bool) (count b : ℕ) (text : List ℕ) → eqb b 45 ≡ false → test b ≡ false → is_tag_after test count (blank_before b text) ≡ (is_subtag_length count && is_empty text)
blank_behind test count b [] apart e = is_tag_after-end test count ∙ sym (and-true (is_subtag_length count))
blank_behind test count b (x ∷ xs) apart e = is_tag_after-never test count b (x ∷ xs) apart e ∙ sym (and_right (is_subtag_length count) false refl)

blank-apart : (b : ℕ) → is_blank b ≡ true → eqb b 45 ≡ false
blank-apart b e = grind (arith, nat_tests)

pub is_place_after-blank : (test : ℕ → Bool) (count b : ℕ) (text : List ℕ) → is_blank b ≡ true → test b ≡ false → is_place_after test count (b ∷ text) ≡ (is_subtag_length count && is_empty (trim_end text))
is_place_after-blank test count b text blank e =
    ap (is_tag_after test count) (trim_end-blank b text blank) ∙ blank_behind test count b (trim_end text) (blank-apart b blank) e

-- ---- what stands at the front

trim_end-replicate : (count : ℕ) (text : List ℕ) → trim_end (replicate count 97 ++ text) ≡ replicate count 97 ++ trim_end text
trim_end-replicate zero text = refl
trim_end-replicate (suc count) text = trim_end-cons 97 (replicate count 97 ++ text) refl ∙ ap (λ xs. 97 ∷ xs) (trim_end-replicate count text)

-- a place that begins with no blank is that
is_place-inked : (b : ℕ) (text : List ℕ) → is_blank b ≡ false → is_place (b ∷ text) ≡ is_place_after is_ascii_alphabetic 0 (b ∷ text)
is_place-inked b text inked = ap is_language_tag (trim_blanks-cons b text inked) ∙ is_language_tag-after (trim_end (b ∷ text))

is_place_after-replicate : (test : ℕ → Bool) (before count : ℕ) (text : List ℕ) → test 97 ≡ true → is_place_after test before (replicate count 97 ++ text) ≡ is_place_after test (before + count) text
is_place_after-replicate test before count text e =
    ap (is_tag_after test before) (trim_end-replicate count text) ∙ is_tag_after-replicate test before count (trim_end text) e

-- behind some letters
pub is_place-letters : (count : ℕ) (text : List ℕ) → is_place (replicate (suc count) 97 ++ text) ≡ is_place_after is_ascii_alphabetic (suc count) text
is_place-letters count text =
    is_place-inked 97 (replicate count 97 ++ text) refl ∙ is_place_after-replicate is_ascii_alphabetic 0 (suc count) text refl ∙ ap (λ n. is_place_after is_ascii_alphabetic n text) (zero-add (suc count))

pub is_place-letters_next : (count : ℕ) (text : List ℕ) → is_place (replicate (count + 1) 97 ++ text) ≡ is_place_after is_ascii_alphabetic (count + 1) text
is_place-letters_next count text = rw add-one (is_place-letters count text)

-- behind letters or none, where no blank follows
pub is_place-primary : (count b : ℕ) (text : List ℕ) → is_blank b ≡ false → is_place (replicate count 97 ++ b ∷ text) ≡ is_place_after is_ascii_alphabetic count (b ∷ text)
is_place-primary zero b text inked = is_place-inked b text inked
is_place-primary (suc count) b text inked = is_place-letters count (b ∷ text)

-- behind a hyphen, and letters or none
pub is_place-subtag : (count : ℕ) (text : List ℕ) → is_place (97 ∷ (45 ∷ (replicate count 97 ++ text))) ≡ is_place_after is_ascii_alphanumeric count text
is_place-subtag count text =
    is_place-letters 0 (45 ∷ (replicate count 97 ++ text)) ∙ is_place_after-hyphen is_ascii_alphabetic 1 (replicate count 97 ++ text)
    ∙ is_place_after-replicate is_ascii_alphanumeric 0 count text refl ∙ ap (λ n. is_place_after is_ascii_alphanumeric n text) (zero-add count)

-- behind a tag and a blank
pub is_place-behind : (text : List ℕ) → is_place (97 ∷ (32 ∷ text)) ≡ is_empty (trim_end text)
is_place-behind text = is_place-letters 0 (32 ∷ text) ∙ is_place_after-blank is_ascii_alphabetic 1 32 text refl refl

-- once blank, a place stays so
is_empty-blank_before : (b : ℕ) (text : List ℕ) → is_empty (blank_before b text) ≡ is_empty text
is_empty-blank_before b [] = refl
is_empty-blank_before b (x ∷ xs) = refl

pub is_place-behind_blank : (b : ℕ) (text : List ℕ) → is_blank b ≡ true → is_place (97 ∷ (32 ∷ (b ∷ text))) ≡ is_place (97 ∷ (32 ∷ text))
is_place-behind_blank b text blank =
    is_place-behind (b ∷ text) ∙ ap is_empty (trim_end-blank b text blank) ∙ is_empty-blank_before b (trim_end text) ∙ sym (is_place-behind text)

pub is_place-behind_inked : (b : ℕ) (text : List ℕ) → is_blank b ≡ false → is_place (97 ∷ (32 ∷ (b ∷ text))) ≡ false
is_place-behind_inked b text inked = is_place-behind (b ∷ text) ∙ ap is_empty (trim_end-cons b text inked)

pub is_place-blank : (b : ℕ) (text : List ℕ) → is_blank b ≡ true → is_place (b ∷ text) ≡ is_place text
is_place-blank b text blank = ap is_language_tag (trim_blanks-blank b text blank)

-- behind a hyphen that follows nothing
pub is_place-unreadable : (text : List ℕ) → is_place (45 ∷ text) ≡ false
is_place-unreadable text = is_place-inked 45 text refl ∙ is_place_after-hyphen is_ascii_alphabetic 0 text
