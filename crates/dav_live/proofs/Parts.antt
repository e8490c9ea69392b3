-- The test for a part of a text finds it where it stands.
use Rattle.std.proofs.Common.{◌≡◌, ℕ, Bool, true, inl, inr, List, [], ◌∷◌, ◌++◌, length, drop, refl, sym, ap, ◌∙◌, nat_eq, None}
use Rattle.std.specs.List.{starts_with}
use Rattle.std.specs.Bool.{MatchBool}
use Rattle.std.specs.Str.Iter.{HasSubslice}
use Rattle.std.specs.Str.Pattern.{HasMatch, FindsText}
use Rattle.std.proofs.lemmas.Bool.{cases_Bool, or_cases, or_left, or_right, both_ways}
use Rattle.std.proofs.lemmas.Bool.Decides.{Decides-eqb}
use Rattle.std.proofs.lemmas.Slice.Eq.{starts_is}
use Rattle.std.proofs.lemmas.Str.Pattern.{contains_text}
use Rattle.dav_live.specs.Viewing.{has_part}

begins : (part text : List ℕ) → starts_with nat_eq text part ≡ true → text ≡ part ++ drop (length part) text
begins part text h = (starts_is Decides-eqb text part (starts_with nat_eq text part) refl).0 h

begins_from : (part text rest : List ℕ) → text ≡ part ++ rest → starts_with nat_eq text part ≡ true
begins_from part text rest e = (starts_is Decides-eqb text part (starts_with nat_eq text part) refl).1 rest e

part_stands : (part text : List ℕ) → has_part part text ≡ true → HasSubslice text part
part_stands part [] h = ([], drop (length part) [], begins part [] h)
part_stands part (b ∷ text) h =
    elim (or_cases (starts_with nat_eq (b ∷ text) part) (has_part part text) h) [
      | inl here ↦ ([], drop (length part) (b ∷ text), begins part (b ∷ text) here)
      | inr later ↦ let found = part_stands part text later in (b ∷ found.0, found.1, ap (λ bs. b ∷ bs) found.2)
    ]

part_from : (part text before after : List ℕ) → text ≡ before ++ (part ++ after) → has_part part text ≡ true
part_from part [] [] after e = begins_from part [] after e
part_from part [] (x ∷ before) after e = cc
part_from part (b ∷ text) [] after e = or_left (starts_with nat_eq (b ∷ text) part) (has_part part text) (begins_from part (b ∷ text) after e)
part_from part (b ∷ text) (x ∷ before) after e =
    or_right (starts_with nat_eq (b ∷ text) part) (has_part part text) (part_from part text before after (cc))

-- what `contains` answers
pub contains_is : (r : Bool) (part text : List ℕ) → MatchBool r (HasMatch (FindsText part) text) (FindsText part text None) → r ≡ has_part part text
contains_is r part text says =
    let stands = contains_text r part text says in
    elim (cases_Bool r) [
      | inl yes_found ↦ let found = stands.0 yes_found in yes_found ∙ sym (part_from part text found.0 found.1 found.2)
      | inr not_found ↦ elim (cases_Bool (has_part part text)) [
        | inl there ↦ absurd (both_ways r not_found (stands.1 (part_stands part text there)))
        | inr gone ↦ not_found ∙ sym gone
      ]
    ]
