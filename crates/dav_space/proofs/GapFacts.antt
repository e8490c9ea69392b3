-- What holds of the gaps between ranges.
use Rattle.std.proofs.Common.{◌≡◌, ℕ, ◌+◌, ◌<◌, ◌≤◌, ◌⊎◌, inl, inr, true, false, max, List, [], ◌∷◌, ◌++◌, All, leb, ltb, length, get_or, refl, sym, ◌∙◌, arith}
use Rattle.std.specs.List.Sorted.{IsPermutation, IsNonDecreasingBy}
use Rattle.std.proofs.lemmas.Bool.{cond_both, or_cases, or_parts, and_cases, false_from_ne_true, leb-false, leb-true, ltb-false, ltb-true}
use Rattle.std.proofs.lemmas.List.Elements.{All-head, All-tail}
use Rattle.std.proofs.lemmas.List.Sorted.{IsNonDecreasingBy-drop, All-permutation, list_any-IsPermutation}
use Rattle.dav_space.specs.declared.range.Range.{Range}
use Rattle.dav_space.specs.declared.range.TheConstants.{LIMIT}
use Rattle.dav_space.specs.Gaps.{range_of, gap, gaps_of}
use Rattle.dav_space.specs.Ranges.{is_clear, is_covered, is_inside, are_rising, last_end, ReachLimit}
use Rattle.dav_space.proofs.Facts.{Rises, IsClear, test_from_Rises, IsClear-from_test, test_from_IsClear, IsClear-parts, inside_from_test, clear_of_later}

-- no range begins before the place or before an earlier one
abbrev pub Ascends : ℕ → List Range → Type 0
Ascends from [] = Unit {0}
Ascends from (r ∷ rs) = (from ≤ r.at) × Ascends r.at rs

pub Ascends-from_sorted : (from : ℕ) (rs : List Range) → ((d : Range) → 0 < length rs → from ≤ (get_or rs 0 d).at) → IsNonDecreasingBy (λ r. r.at) rs → Ascends from rs
Ascends-from_sorted from [] first sorted = tt
Ascends-from_sorted from (r ∷ rs) first sorted =
    (first r (omega arith), Ascends-from_sorted r.at rs (λ d lt. sorted 0 1 d (omega arith) (omega arith)) (IsNonDecreasingBy-drop (λ r. r.at) 1 (r ∷ rs) sorted))

-- what is covered lies behind the place where the ranges begin
covered_behind : (from : ℕ) (rs : List Range) (at n : ℕ) → Ascends from rs → is_covered rs at n ≡ true → from ≤ at
covered_behind from [] at n up h = cc
covered_behind from (r ∷ rs) at n up h =
    elim (or_cases (is_inside at n r) (is_covered rs at n) h) [
      | inl here ↦ let inside = inside_from_test at n r here in omega arith
      | inr later ↦ let behind = covered_behind r.at rs at n up.1 later in omega arith
    ]

-- a gap before what rises
Rises-gap : (from at end : ℕ) (rest : List Range) → from ≤ at → ((f : ℕ) → (f ≤ at) ⊎ (f ≤ end) → Rises f rest) → Rises from (gap at end ++ rest)
Rises-gap from at end rest le step =
    cond_both
    (ltb at end)
    (range_of at end ∷ [])
    []
    (λ g. Rises from (g ++ rest))
    (λ some. (le, omega (arith, ltb-true at end some), step end (inr (omega arith))))
    (λ _. step from (inl le))

-- the ranges end below the limit
abbrev pub AreLow : List Range → Type 0
AreLow = All (λ r. r.end ≤ LIMIT)

Rises-gaps : (from at : ℕ) (rs : List Range) → from ≤ at → at ≤ LIMIT → AreLow rs → Rises from (gaps_of at rs)
Rises-gaps from at [] le small low = (le, small, tt)
Rises-gaps from at (r ∷ rs) le small low =
    let here : r.end ≤ LIMIT = All-head (λ r. r.end ≤ LIMIT) r rs low in
    let rest = All-tail (λ r. r.end ≤ LIMIT) r rs low in
    cond_both
    (leb r.at r.end)
    (gap at r.at ++ gaps_of (max at r.end) rs)
    (gaps_of at rs)
    (Rises from)
    (λ t. Rises-gap from at r.at (gaps_of (max at r.end) rs) le (λ f h. Rises-gaps f (max at r.end) rs (below f at r h (leb-true r.at r.end t)) (omega arith) rest))
    (λ _. Rises-gaps from at rs le small rest)
  where
    below : (f at : ℕ) (r : Range) → (f ≤ at) ⊎ (f ≤ r.at) → r.at ≤ r.end → f ≤ max at r.end
    below f at r (inl le) h = omega arith
    below f at r (inr le) h = omega arith

-- the last gap ends at the limit
last_end-gap : (from at end : ℕ) (rest : List Range) → ((f : ℕ) → last_end f rest ≡ LIMIT) → last_end from (gap at end ++ rest) ≡ LIMIT
last_end-gap from at end rest step =
    cond_both (ltb at end) (range_of at end ∷ []) [] (λ g. last_end from (g ++ rest) ≡ LIMIT) (λ _. step end) (λ _. step from)

last_end-gaps : (from at : ℕ) (rs : List Range) → last_end from (gaps_of at rs) ≡ LIMIT
last_end-gaps from at [] = refl
last_end-gaps from at (r ∷ rs) =
    cond_both
    (leb r.at r.end)
    (gap at r.at ++ gaps_of (max at r.end) rs)
    (gaps_of at rs)
    (λ gaps. last_end from gaps ≡ LIMIT)
    (λ _. last_end-gap from at r.at (gaps_of (max at r.end) rs) (λ f. last_end-gaps f (max at r.end) rs))
    (λ _. last_end-gaps from at rs)

IsClear-gap : (at n from end : ℕ) (rest : List Range) → end ≤ at → IsClear at n rest → IsClear at n (gap from end ++ rest)
IsClear-gap at n from end rest le clear =
    cond_both (ltb from end) (range_of from end ∷ []) [] (λ g. IsClear at n (g ++ rest)) (λ _. (inl le, clear)) (λ _. clear)

-- what is covered is clear of the gaps
IsClear-gaps : (at n low from : ℕ) (rs : List Range) → from ≤ LIMIT → AreLow rs → Ascends low rs → is_covered rs at n ≡ true → IsClear at n (gaps_of from rs)
IsClear-gaps at n low from [] small ends up h = cc
IsClear-gaps at n low from (r ∷ rs) small ends up h =
    let here : r.end ≤ LIMIT = All-head (λ r. r.end ≤ LIMIT) r rs ends in
    let rest = All-tail (λ r. r.end ≤ LIMIT) r rs ends in
    let end = max from r.end in
    let end_small : end ≤ LIMIT = omega arith in
    elim (or_cases (is_inside at n r) (is_covered rs at n) h) [
      | inl covers ↦
          let inside = inside_from_test at n r covers in
          let rises = Rises-gaps end end rs (omega arith) end_small rest in
          let clear = clear_of_later end (gaps_of end rs) at n rises (omega arith) in
          cond_both
          (leb r.at r.end)
          (gap from r.at ++ gaps_of end rs)
          (gaps_of from rs)
          (IsClear at n)
          (λ _. IsClear-gap at n from r.at (gaps_of end rs) inside.0 clear)
          (λ f. absurd (omega (arith, leb-false r.at r.end f)))
      | inr later ↦
          cond_both
          (leb r.at r.end)
          (gap from r.at ++ gaps_of end rs)
          (gaps_of from rs)
          (IsClear at n)
          (λ _. IsClear-gap at n from r.at (gaps_of end rs) (covered_behind r.at rs at n up.1 later) (IsClear-gaps at n r.at end rs end_small rest up.1 later))
          (λ _. IsClear-gaps at n r.at from rs small rest up.1 later)
    ]

pub are_rising-gaps : (rs : List Range) → AreLow rs → are_rising 0 (gaps_of 0 rs) ≡ true
are_rising-gaps rs low = test_from_Rises 0 (gaps_of 0 rs) (Rises-gaps 0 0 rs (omega arith) (omega arith) low)

pub ReachLimit-gaps : (rs : List Range) → ReachLimit (gaps_of 0 rs)
ReachLimit-gaps rs = last_end-gaps 0 0 rs

-- what ranges cover is clear of the gaps between them, once they are sorted
pub clear_of_gaps : (used sorted : List Range) → IsPermutation used sorted → AreLow used → IsNonDecreasingBy (λ r. r.at) sorted → (at n : ℕ) → is_covered used at n ≡ true → is_clear (gaps_of 0 sorted) at n ≡ true
clear_of_gaps used sorted moved low up at n h =
    let low_sorted = All-permutation (λ r. r.end ≤ LIMIT) used sorted moved low in
    let covered = sym (list_any-IsPermutation (is_inside at n) used sorted moved) ∙ h in
    let ascends = Ascends-from_sorted 0 sorted (λ d lt. omega arith) up in
    test_from_IsClear at n (gaps_of 0 sorted) (IsClear-gaps at n 0 0 sorted (omega arith) low_sorted ascends covered)

-- a byte that is in no range lies before or behind it
byte_outside : (i : ℕ) (r : Range) → is_inside i 1 r ≡ false → (i < r.at) ⊎ (r.end ≤ i)
byte_outside i r h =
    elim (and_cases (leb r.at i) (leb (i + 1) r.end) h) [
      | inl before ↦ inl (leb-false r.at i before)
      | inr behind ↦ let below = leb-false (i + 1) r.end behind in inr (omega arith)
    ]

-- a byte between two places is in the gap between them
byte_in_gap : (i from end : ℕ) → from ≤ i → i < end → IsClear i 1 (gap from end) → ⊥
byte_in_gap i from end le lt =
    cond_both
    (ltb from end)
    (range_of from end ∷ [])
    []
    (λ g. IsClear i 1 g → ⊥)
    (λ _ clear. elim clear.0 [ inl behind ↦ omega arith | inr before ↦ omega arith ])
    (λ none _. omega (arith, ltb-false from end none))

-- a byte that no range has is in one of the gaps
byte_in_gaps : (i from : ℕ) (rs : List Range) → from ≤ i → i < LIMIT → is_covered rs i 1 ≡ false → IsClear i 1 (gaps_of from rs) → ⊥
byte_in_gaps i from [] le small free clear = elim clear.0 [ inl behind ↦ omega arith | inr before ↦ omega arith ]
byte_in_gaps i from (r ∷ rs) le small free clear =
    let none = or_parts (is_inside i 1 r) (is_covered rs i 1) free in
    cond_both
    (leb r.at r.end)
    (gap from r.at ++ gaps_of (max from r.end) rs)
    (gaps_of from rs)
    (λ gaps. IsClear i 1 gaps → ⊥)
    (λ _ both.
    let parts = IsClear-parts i 1 (gap from r.at) (gaps_of (max from r.end) rs) both in
    elim (byte_outside i r none.0) [
      | inl before ↦ byte_in_gap i from r.at le before parts.0
      | inr behind ↦ byte_in_gaps i (max from r.end) rs (omega arith) small none.1 parts.1
    ])
    (λ _ rest. byte_in_gaps i from rs le small none.1 rest)
    clear

-- a byte that no range has is in one of the gaps between them, once they are sorted
pub rest_of_gaps : (used sorted : List Range) → IsPermutation used sorted → (i : ℕ) → i < LIMIT → is_covered used i 1 ≡ false → is_clear (gaps_of 0 sorted) i 1 ≡ false
rest_of_gaps used sorted moved i small h =
    let free = sym (list_any-IsPermutation (is_inside i 1) used sorted moved) ∙ h in
    false_from_ne_true _ (λ clear. byte_in_gaps i 0 sorted (omega arith) small free (IsClear-from_test i 1 (gaps_of 0 sorted) clear))
