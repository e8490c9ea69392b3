-- A language tag, byte by byte.
use Rattle.std.proofs.Common.{◌≡◌, ◌∙◌, ℕ, zero, suc, ◌+◌, ◌<◌, Bool, true, false, ◌&&◌, eqb, List, [], ◌∷◌, ◌++◌, length, replicate, refl, sym, ap, arith, zero-add, add-zero}
use Rattle.std.proofs.lemmas.Bool.{and_right}
use Rattle.std.proofs.lemmas.Bool.Decides.{nat_tests}
use Rattle.std.specs.Char.{is_ascii_alphabetic, is_ascii_alphanumeric}
use Rattle.std.specs.List.{list_all, slice_split}
use Rattle.dav_props.specs.Language.{is_subtag_length, is_subtag, are_subtags, is_language_tag}
use Rattle.dav_props.proofs.PartLemmas.{and-true, with_first, with_first-same, with_first-never, with_first-cut, with_first-cons, list_all-parts}

abbrev is_hyphen : ℕ → Bool
is_hyphen b = eqb b 45

-- a subtag of which so many bytes stand before the text
abbrev pub is_subtag_after : (ℕ → Bool) → ℕ → List ℕ → Bool
is_subtag_after test count part = is_subtag_length (count + length part) && list_all test part

-- a tag, of whose subtag so many bytes stand before the text
abbrev pub is_tag_after : (ℕ → Bool) → ℕ → List ℕ → Bool
is_tag_after test count text = with_first (is_subtag_after test count) (is_subtag is_ascii_alphanumeric) (slice_split is_hyphen text)

is_subtag-after_none : (test : ℕ → Bool) (part : List ℕ) → is_subtag test part ≡ is_subtag_after test 0 part
is_subtag-after_none test part = ap (λ n. is_subtag_length n && list_all test part) (sym (zero-add (length part)))

is_subtag_after-next : (test : ℕ → Bool) (count b : ℕ) (part : List ℕ) → test b ≡ true → is_subtag_after test count (b ∷ part) ≡ is_subtag_after test (count + 1) part
is_subtag_after-next test count b part e =
    let same : count + length (b ∷ part) ≡ (count + 1) + length part = omega arith in
    ap (λ n. is_subtag_length n && (test b && list_all test part)) same ∙ ap (λ t. is_subtag_length ((count + 1) + length part) && (t && list_all test part)) e

is_subtag_after-never : (test : ℕ → Bool) (count b : ℕ) (part : List ℕ) → test b ≡ false → is_subtag_after test count (b ∷ part) ≡ false
is_subtag_after-never test count b part e =
    and_right (is_subtag_length (count + length (b ∷ part))) _ (ap (λ t. t && list_all test part) e)

is_subtag_length-long : (count n : ℕ) → 8 < count → is_subtag_length (count + n) ≡ false
is_subtag_length-long count n long = grind (arith, nat_tests)

pub is_tag_after-long : (test : ℕ → Bool) (count : ℕ) (text : List ℕ) → 8 < count → is_tag_after test count text ≡ false
is_tag_after-long test count text long =
    with_first-never (is_subtag_after test count) _ (λ part. ap (λ t. t && list_all test part) (is_subtag_length-long count (length part) long)) (slice_split is_hyphen text)

pub is_tag_after-next : (test : ℕ → Bool) (count b : ℕ) (text : List ℕ) → eqb b 45 ≡ false → test b ≡ true → is_tag_after test count (b ∷ text) ≡ is_tag_after test (count + 1) text
is_tag_after-next test count b text apart e =
    with_first-cons is_hyphen (is_subtag_after test count) _ b text apart ∙ with_first-same (λ part. is_subtag_after test count (b ∷ part)) (is_subtag_after test (count + 1)) _ (λ part. is_subtag_after-next test count b part e) (slice_split is_hyphen text)

pub is_tag_after-never : (test : ℕ → Bool) (count b : ℕ) (text : List ℕ) → eqb b 45 ≡ false → test b ≡ false → is_tag_after test count (b ∷ text) ≡ false
is_tag_after-never test count b text apart e =
    with_first-cons is_hyphen (is_subtag_after test count) _ b text apart ∙ with_first-never (λ part. is_subtag_after test count (b ∷ part)) _ (λ part. is_subtag_after-never test count b part e) (slice_split is_hyphen text)

is_subtag_after-none : (test : ℕ → Bool) (count : ℕ) → is_subtag_after test count [] ≡ is_subtag_length count
is_subtag_after-none test count = and-true (is_subtag_length (count + 0)) ∙ ap is_subtag_length (add-zero count)

pub is_tag_after-end : (test : ℕ → Bool) (count : ℕ) → is_tag_after test count [] ≡ is_subtag_length count
is_tag_after-end test count = and-true (is_subtag_after test count []) ∙ is_subtag_after-none test count

pub is_tag_after-hyphen : (test : ℕ → Bool) (count : ℕ) (text : List ℕ) → is_tag_after test count (45 ∷ text) ≡ (is_subtag_length count && is_tag_after is_ascii_alphanumeric 0 text)
is_tag_after-hyphen test count text =
    let later = is_subtag is_ascii_alphanumeric in
    with_first-cut is_hyphen (is_subtag_after test count) later 45 text refl
    ∙ ap (λ t. t && list_all later (slice_split is_hyphen text)) (is_subtag_after-none test count)
    ∙ ap (λ t. is_subtag_length count && t) (list_all-parts is_hyphen later text ∙ with_first-same later (is_subtag_after is_ascii_alphanumeric 0) later (is_subtag-after_none is_ascii_alphanumeric) (slice_split is_hyphen text))

are_subtags-first : (parts : List (List ℕ)) → are_subtags parts ≡ with_first (is_subtag is_ascii_alphabetic) (is_subtag is_ascii_alphanumeric) parts
are_subtags-first [] = refl
are_subtags-first (part ∷ parts) = refl

pub is_language_tag-after : (text : List ℕ) → is_language_tag text ≡ is_tag_after is_ascii_alphabetic 0 text
is_language_tag-after text =
    are_subtags-first (slice_split is_hyphen text) ∙ with_first-same (is_subtag is_ascii_alphabetic) (is_subtag_after is_ascii_alphabetic 0) _ (is_subtag-after_none is_ascii_alphabetic) (slice_split is_hyphen text)

pub is_tag_after-replicate : (test : ℕ → Bool) (before count : ℕ) (text : List ℕ) → test 97 ≡ true → is_tag_after test before (replicate count 97 ++ text) ≡ is_tag_after test (before + count) text
is_tag_after-replicate test before zero text e = ap (λ n. is_tag_after test n text) (sym (add-zero before))
is_tag_after-replicate test before (suc count) text e =
    let same : (before + 1) + count ≡ before + suc count = omega arith in
    is_tag_after-next test before 97 (replicate count 97 ++ text) refl e ∙ is_tag_after-replicate test (before + 1) count text e ∙ ap (λ n. is_tag_after test n text) same
