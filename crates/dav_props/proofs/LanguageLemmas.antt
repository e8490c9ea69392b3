-- A list of languages, read byte by byte.
use Rattle.std.proofs.Common.{◌≡◌, ◌∙◌, ℕ, zero, suc, ◌+◌, ◌≤◌, Bool, true, false, ◌&&◌, eqb, List, [], ◌∷◌, ◌++◌, replicate, refl, sym, ap, arith}
use Rattle.std.proofs.lemmas.Bool.Decides.{nat_tests}
use Rattle.std.specs.Char.{is_ascii_alphabetic, is_ascii_alphanumeric}
use Rattle.std.specs.List.{list_any, slice_split}
use Rattle.dav_props.specs.declared.language.LanguageList.{LanguageList}
use Rattle.dav_props.specs.declared.language.LanguageList.TheVariants.{Primary, Subtag, Behind, Unreadable}
use Rattle.dav_headers.specs.Values.{is_blank}
use Rattle.dav_props.specs.Language.{is_subtag_length, is_place, is_language_list}
use Rattle.dav_props.specs.LanguageList.{example, accepts}
use Rattle.dav_props.proofs.BlankLemmas.{trim_end}
use Rattle.dav_props.proofs.PartLemmas.{and-true, with_first, with_first-same, with_first-never, with_first-cut, with_first-cons, with_first-append, list_all-parts}
use Rattle.dav_props.proofs.PlaceLemmas.{is_place_after, is_empty, is_place_after-long, is_place_after-next, is_place_after-never, is_place_after-hyphen, is_place_after-blank, is_place_after-end, is_place-letters_next, is_place-behind_blank, is_place-behind_inked, is_place-blank, is_place-letters, is_place-primary, is_place-subtag, is_place-behind, is_place-unreadable}

abbrev is_comma : ℕ → Bool
is_comma b = eqb b 44

list_any-replicate : (count : ℕ) → list_any is_comma (replicate count 97) ≡ false
list_any-replicate zero = refl
list_any-replicate (suc count) = list_any-replicate count

no_comma : (list : LanguageList) → list_any is_comma (example list) ≡ false
no_comma (Primary count) = list_any-replicate count
no_comma (Subtag count) = list_any-replicate count
no_comma Behind = refl
no_comma Unreadable = refl

-- a place that ends here, and the places behind it
abbrev is_list_after : LanguageList → List ℕ → Bool
is_list_after list text = with_first (λ place. is_place (example list ++ place)) is_place (slice_split is_comma text)

accepts-after : (list : LanguageList) (text : List ℕ) → accepts list text ≡ is_list_after list text
unfolding accepts
accepts-after list text =
    list_all-parts is_comma is_place (example list ++ text) ∙ with_first-append is_comma is_place is_place (example list) text (no_comma list)

-- ---- steps

-- where a byte changes nothing for the place, it changes nothing for the list
pub accepts-next : (list next : LanguageList) (b : ℕ) → eqb b 44 ≡ false → ((place : List ℕ) → is_place (example list ++ b ∷ place) ≡ is_place (example next ++ place)) → (rest : List ℕ) → accepts next rest ≡ accepts list (b ∷ rest)
accepts-next list next b apart same rest =
    let P : List ℕ → Bool = λ place. is_place (example list ++ place) in
    sym (accepts-after list (b ∷ rest) ∙ with_first-cons is_comma P is_place b rest apart ∙ with_first-same (λ place. P (b ∷ place)) (λ place. is_place (example next ++ place)) is_place same (slice_split is_comma rest) ∙ sym (accepts-after next rest))

pub accepts-unreadable : (rest : List ℕ) → accepts Unreadable rest ≡ false
accepts-unreadable rest =
    accepts-after Unreadable rest ∙ with_first-never (λ place. is_place (example Unreadable ++ place)) is_place is_place-unreadable (slice_split is_comma rest)

accepts-end : (list : LanguageList) → accepts list [] ≡ is_place (example list ++ [])
accepts-end list = accepts-after list [] ∙ and-true (is_place (example list ++ []))

pub accepts-comma : (list : LanguageList) (rest : List ℕ) → accepts list (44 ∷ rest) ≡ (accepts list [] && is_language_list rest)
accepts-comma list rest =
    accepts-after list (44 ∷ rest) ∙ with_first-cut is_comma (λ place. is_place (example list ++ place)) is_place 44 rest refl ∙ ap (λ t. t && is_language_list rest) (sym (accepts-end list))

pub accepts-new : (rest : List ℕ) → accepts (Primary 0) rest ≡ is_language_list rest
unfolding accepts
accepts-new rest = refl

-- ---- the end of a list

pub accepts-primary_end : (count : ℕ) → accepts (Primary count) [] ≡ is_subtag_length count
accepts-primary_end zero = accepts-end (Primary 0)
accepts-primary_end (suc count) =
    accepts-end (Primary (suc count)) ∙ is_place-letters count [] ∙ is_place_after-end is_ascii_alphabetic (suc count)

pub accepts-subtag_end : (count : ℕ) → accepts (Subtag count) [] ≡ is_subtag_length count
accepts-subtag_end count = accepts-end (Subtag count) ∙ is_place-subtag count [] ∙ is_place_after-end is_ascii_alphanumeric count

pub accepts-behind_end : accepts Behind [] ≡ true
accepts-behind_end = accepts-end Behind ∙ is_place-behind []

-- ---- a byte that no list has there

refuses : (list : LanguageList) (b : ℕ) → eqb b 44 ≡ false → ((place : List ℕ) → is_place (example list ++ b ∷ place) ≡ false) → (rest : List ℕ) → accepts Unreadable rest ≡ accepts list (b ∷ rest)
refuses list b apart never rest =
    accepts-next list Unreadable b apart (λ place. never place ∙ sym (is_place-unreadable place)) rest

pub unreadable-any : (b : ℕ) → eqb b 44 ≡ false → (rest : List ℕ) → accepts Unreadable rest ≡ accepts Unreadable (b ∷ rest)
unreadable-any b apart rest = refuses Unreadable b apart (λ place. is_place-unreadable (b ∷ place)) rest

pub behind-inked : (b : ℕ) → eqb b 44 ≡ false → is_blank b ≡ false → (rest : List ℕ) → accepts Unreadable rest ≡ accepts Behind (b ∷ rest)
behind-inked b apart inked rest = refuses Behind b apart (λ place. is_place-behind_inked b place inked) rest

-- ---- a letter or a digit

record IsPlain (b : ℕ) : Type 0 where
  pub no_comma : eqb b 44 ≡ false
  pub no_hyphen : eqb b 45 ≡ false
  pub no_blank : is_blank b ≡ false

plain : (b : ℕ) → is_ascii_alphanumeric b ≡ true → IsPlain b
plain b e = record { no_comma = grind (arith, nat_tests); no_hyphen = grind (arith, nat_tests); no_blank = grind (arith, nat_tests) }

either-letter : (b : ℕ) → is_ascii_alphabetic b ≡ true → is_ascii_alphanumeric b ≡ true
either-letter b e = grind (arith, nat_tests)

not-letter : (b : ℕ) → is_ascii_alphanumeric b ≡ false → is_ascii_alphabetic b ≡ false
not-letter b e = grind (arith, nat_tests)

pub primary-letter : (count b : ℕ) → is_ascii_alphabetic b ≡ true → (rest : List ℕ) → accepts (Primary (count + 1)) rest ≡ accepts (Primary count) (b ∷ rest)
primary-letter count b e rest =
    let p = plain b (either-letter b e) in
    accepts-next (Primary count) (Primary (count + 1)) b p.no_comma
    (λ place. is_place-primary count b place p.no_blank ∙ is_place_after-next is_ascii_alphabetic count b place p.no_blank p.no_hyphen e ∙ sym (is_place-letters_next count place)) rest

pub subtag-letter : (count b : ℕ) → is_ascii_alphanumeric b ≡ true → (rest : List ℕ) → accepts (Subtag (count + 1)) rest ≡ accepts (Subtag count) (b ∷ rest)
subtag-letter count b e rest =
    let p = plain b e in
    accepts-next (Subtag count) (Subtag (count + 1)) b p.no_comma
    (λ place. is_place-subtag count (b ∷ place) ∙ is_place_after-next is_ascii_alphanumeric count b place p.no_blank p.no_hyphen e ∙ sym (is_place-subtag (count + 1) place)) rest

pub primary-digit : (count b : ℕ) → is_ascii_alphanumeric b ≡ true → is_ascii_alphabetic b ≡ false → (rest : List ℕ) → accepts Unreadable rest ≡ accepts (Primary count) (b ∷ rest)
primary-digit count b e digit rest =
    let p = plain b e in
    refuses (Primary count) b p.no_comma
    (λ place. is_place-primary count b place p.no_blank ∙ is_place_after-never is_ascii_alphabetic count b place p.no_blank p.no_hyphen digit) rest

pub primary-full : (count b : ℕ) → 8 ≤ count → is_ascii_alphanumeric b ≡ true → (rest : List ℕ) → accepts Unreadable rest ≡ accepts (Primary count) (b ∷ rest)
primary-full count b full e rest = by_letter (is_ascii_alphabetic b) refl
  where
    by_letter : (letter : Bool) → is_ascii_alphabetic b ≡ letter → accepts Unreadable rest ≡ accepts (Primary count) (b ∷ rest)
    by_letter true is =
        let p = plain b e in
        refuses (Primary count) b p.no_comma
        (λ place. is_place-primary count b place p.no_blank ∙ is_place_after-next is_ascii_alphabetic count b place p.no_blank p.no_hyphen is ∙ is_place_after-long is_ascii_alphabetic (count + 1) place (omega arith)) rest
    by_letter false is = primary-digit count b e is rest

pub subtag-full : (count b : ℕ) → 8 ≤ count → is_ascii_alphanumeric b ≡ true → (rest : List ℕ) → accepts Unreadable rest ≡ accepts (Subtag count) (b ∷ rest)
subtag-full count b full e rest =
    let p = plain b e in
    refuses (Subtag count) b p.no_comma
    (λ place. is_place-subtag count (b ∷ place) ∙ is_place_after-next is_ascii_alphanumeric count b place p.no_blank p.no_hyphen e ∙ is_place_after-long is_ascii_alphanumeric (count + 1) place (omega arith)) rest

pub behind-letter : (b : ℕ) → is_ascii_alphanumeric b ≡ true → (rest : List ℕ) → accepts Unreadable rest ≡ accepts Behind (b ∷ rest)
behind-letter b e rest = let p = plain b e in behind-inked b p.no_comma p.no_blank rest

pub unreadable-letter : (b : ℕ) → is_ascii_alphanumeric b ≡ true → (rest : List ℕ) → accepts Unreadable rest ≡ accepts Unreadable (b ∷ rest)
unreadable-letter b e rest = let p = plain b e in unreadable-any b p.no_comma rest

-- ---- a hyphen

pub primary-hyphen : (count : ℕ) → is_subtag_length count ≡ true → (rest : List ℕ) → accepts (Subtag 0) rest ≡ accepts (Primary count) (45 ∷ rest)
primary-hyphen count e rest =
    accepts-next (Primary count) (Subtag 0) 45 refl
    (λ place. is_place-primary count 45 place refl ∙ is_place_after-hyphen is_ascii_alphabetic count place ∙ ap (λ t. t && is_place_after is_ascii_alphanumeric 0 place) e ∙ sym (is_place-subtag 0 place)) rest

pub primary-no_hyphen : (count : ℕ) → is_subtag_length count ≡ false → (rest : List ℕ) → accepts Unreadable rest ≡ accepts (Primary count) (45 ∷ rest)
primary-no_hyphen count e rest =
    refuses (Primary count) 45 refl
    (λ place. is_place-primary count 45 place refl ∙ is_place_after-hyphen is_ascii_alphabetic count place ∙ ap (λ t. t && is_place_after is_ascii_alphanumeric 0 place) e) rest

pub subtag-hyphen : (count : ℕ) → is_subtag_length count ≡ true → (rest : List ℕ) → accepts (Subtag 0) rest ≡ accepts (Subtag count) (45 ∷ rest)
subtag-hyphen count e rest =
    accepts-next (Subtag count) (Subtag 0) 45 refl
    (λ place. is_place-subtag count (45 ∷ place) ∙ is_place_after-hyphen is_ascii_alphanumeric count place ∙ ap (λ t. t && is_place_after is_ascii_alphanumeric 0 place) e ∙ sym (is_place-subtag 0 place)) rest

pub subtag-no_hyphen : (count : ℕ) → is_subtag_length count ≡ false → (rest : List ℕ) → accepts Unreadable rest ≡ accepts (Subtag count) (45 ∷ rest)
subtag-no_hyphen count e rest =
    refuses (Subtag count) 45 refl
    (λ place. is_place-subtag count (45 ∷ place) ∙ is_place_after-hyphen is_ascii_alphanumeric count place ∙ ap (λ t. t && is_place_after is_ascii_alphanumeric 0 place) e) rest

-- ---- a blank

record IsBlank (b : ℕ) : Type 0 where
  pub no_comma : eqb b 44 ≡ false
  pub no_letter : is_ascii_alphabetic b ≡ false
  pub no_digit : is_ascii_alphanumeric b ≡ false

blank : (b : ℕ) → is_blank b ≡ true → IsBlank b
blank b e = record { no_comma = grind (arith, nat_tests); no_letter = grind (arith, nat_tests); no_digit = grind (arith, nat_tests) }

pub new-blank : (b : ℕ) → is_blank b ≡ true → (rest : List ℕ) → accepts (Primary 0) rest ≡ accepts (Primary 0) (b ∷ rest)
new-blank b e rest =
    let p = blank b e in
    accepts-next (Primary 0) (Primary 0) b p.no_comma (λ place. is_place-blank b place e) rest

primary_blank : (count b : ℕ) → is_blank b ≡ true → (place : List ℕ) → is_place (replicate (suc count) 97 ++ b ∷ place) ≡ (is_subtag_length (suc count) && is_empty (trim_end place))
primary_blank count b e place =
    let p = blank b e in
    is_place-letters count (b ∷ place) ∙ is_place_after-blank is_ascii_alphabetic (suc count) b place e p.no_letter

subtag_blank : (count b : ℕ) → is_blank b ≡ true → (place : List ℕ) → is_place (97 ∷ (45 ∷ (replicate count 97 ++ b ∷ place))) ≡ (is_subtag_length count && is_empty (trim_end place))
subtag_blank count b e place =
    let p = blank b e in
    is_place-subtag count (b ∷ place) ∙ is_place_after-blank is_ascii_alphanumeric count b place e p.no_digit

behind_place : (whole : Bool) (place : List ℕ) → whole ≡ true → (whole && is_empty (trim_end place)) ≡ is_place (97 ∷ (32 ∷ place))
behind_place whole place e = ap (λ t. t && is_empty (trim_end place)) e ∙ sym (is_place-behind place)

pub whole-blank : (list : LanguageList) (b : ℕ) → is_blank b ≡ true → accepts list [] ≡ true → (rest : List ℕ) → accepts Behind rest ≡ accepts list (b ∷ rest)
whole-blank (Primary zero) b e whole rest = absurd (let none = accepts-primary_end 0 in cc)
whole-blank (Primary (suc count)) b e whole rest =
    let p = blank b e in
    let length_is = sym (accepts-primary_end (suc count)) ∙ whole in
    accepts-next (Primary (suc count)) Behind b p.no_comma (λ place. primary_blank count b e place ∙ behind_place _ place length_is) rest
whole-blank (Subtag count) b e whole rest =
    let p = blank b e in
    let length_is = sym (accepts-subtag_end count) ∙ whole in
    accepts-next (Subtag count) Behind b p.no_comma (λ place. subtag_blank count b e place ∙ behind_place _ place length_is) rest
whole-blank Behind b e whole rest =
    let p = blank b e in
    accepts-next Behind Behind b p.no_comma (λ place. is_place-behind_blank b place e) rest
whole-blank Unreadable b e whole rest = absurd (let none = accepts-unreadable [] in cc)

pub part-blank : (list : LanguageList) (b : ℕ) → is_blank b ≡ true → accepts list [] ≡ false → (list ≡ Primary 0 → ⊥) → (rest : List ℕ) → accepts Unreadable rest ≡ accepts list (b ∷ rest)
part-blank (Primary zero) b e unfinished some rest = absurd (some refl)
part-blank (Primary (suc count)) b e unfinished some rest =
    let p = blank b e in
    let length_is = sym (accepts-primary_end (suc count)) ∙ unfinished in
    refuses (Primary (suc count)) b p.no_comma (λ place. primary_blank count b e place ∙ ap (λ t. t && is_empty (trim_end place)) length_is) rest
part-blank (Subtag count) b e unfinished some rest =
    let p = blank b e in
    let length_is = sym (accepts-subtag_end count) ∙ unfinished in
    refuses (Subtag count) b p.no_comma (λ place. subtag_blank count b e place ∙ ap (λ t. t && is_empty (trim_end place)) length_is) rest
part-blank Behind b e unfinished some rest = absurd (let whole = accepts-behind_end in cc)
part-blank Unreadable b e unfinished some rest = let p = blank b e in unreadable-any b p.no_comma rest

-- ---- a comma

pub whole-comma : (list : LanguageList) → accepts list [] ≡ true → (rest : List ℕ) → is_language_list rest ≡ accepts list (44 ∷ rest)
whole-comma list e rest = sym (accepts-comma list rest ∙ ap (λ t. t && is_language_list rest) e)

pub part-comma : (list : LanguageList) → accepts list [] ≡ false → (rest : List ℕ) → accepts Unreadable rest ≡ accepts list (44 ∷ rest)
part-comma list e rest =
    accepts-unreadable rest ∙ sym (accepts-comma list rest ∙ ap (λ t. t && is_language_list rest) e)

-- ---- any other byte

pub any-other : (list : LanguageList) (b : ℕ) → is_ascii_alphanumeric b ≡ false → eqb b 44 ≡ false → eqb b 45 ≡ false → is_blank b ≡ false → (rest : List ℕ) → accepts Unreadable rest ≡ accepts list (b ∷ rest)
any-other (Primary count) b e apart hyphen inked rest =
    refuses (Primary count) b apart (λ place. is_place-primary count b place inked ∙ is_place_after-never is_ascii_alphabetic count b place inked hyphen (not-letter b e)) rest
any-other (Subtag count) b e apart hyphen inked rest =
    refuses (Subtag count) b apart (λ place. is_place-subtag count (b ∷ place) ∙ is_place_after-never is_ascii_alphanumeric count b place inked hyphen e) rest
any-other Behind b e apart hyphen inked rest = behind-inked b apart inked rest
any-other Unreadable b e apart hyphen inked rest = unreadable-any b apart rest
