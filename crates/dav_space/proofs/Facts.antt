-- The tests on ranges, as facts on numbers.
use Rattle.std.proofs.Common.{◌≡◌, ℕ, ◌+◌, ◌≤◌, ◌⊎◌, inl, inr, true, ◌&&◌, List, [], ◌∷◌, ◌++◌, leb, refl, arith}
use Rattle.std.proofs.lemmas.Bool.{and_parts, and_from, or_cases, or_left, or_right, leb-true, le-leb}
use Rattle.dav_space.specs.declared.range.Range.{Range}
use Rattle.dav_space.specs.Ranges.{is_outside, is_inside, is_clear, are_rising}

-- no range begins before the place or before the end of an earlier one
abbrev pub Rises : ℕ → List Range → Type 0
Rises from [] = Unit {0}
Rises from (r ∷ rs) = (from ≤ r.at) × (r.at ≤ r.end) × Rises r.end rs

-- none of the n bytes from a place on is in the range
abbrev pub IsOutside : ℕ → ℕ → Range → Type 0
IsOutside at n r = (r.end ≤ at) ⊎ (at + n ≤ r.at)

-- none of them is in any of the ranges
abbrev pub IsClear : ℕ → ℕ → List Range → Type 0
IsClear at n [] = Unit {0}
IsClear at n (r ∷ rs) = IsOutside at n r × IsClear at n rs

pub Rises-from_test : (from : ℕ) (rs : List Range) → are_rising from rs ≡ true → Rises from rs
Rises-from_test from [] h = tt
Rises-from_test from (r ∷ rs) h =
    let both = and_parts (leb from r.at && leb r.at r.end) (are_rising r.end rs) h in
    let here = and_parts (leb from r.at) (leb r.at r.end) both.0 in
    (leb-true from r.at here.0, leb-true r.at r.end here.1, Rises-from_test r.end rs both.1)

pub test_from_Rises : (from : ℕ) (rs : List Range) → Rises from rs → are_rising from rs ≡ true
test_from_Rises from [] h = refl
test_from_Rises from (r ∷ rs) h =
    let here = and_from (leb from r.at) (leb r.at r.end) (le-leb from r.at h.0) (le-leb r.at r.end h.1) in
    and_from (leb from r.at && leb r.at r.end) (are_rising r.end rs) here (test_from_Rises r.end rs h.2)

pub IsOutside-from_test : (at n : ℕ) (r : Range) → is_outside at n r ≡ true → IsOutside at n r
IsOutside-from_test at n r h =
    elim (or_cases (leb r.end at) (leb (at + n) r.at) h) [
      | inl behind ↦ inl (leb-true r.end at behind)
      | inr before ↦ inr (leb-true (at + n) r.at before)
    ]

pub test_from_IsOutside : (at n : ℕ) (r : Range) → IsOutside at n r → is_outside at n r ≡ true
test_from_IsOutside at n r (inl behind) = or_left (leb r.end at) (leb (at + n) r.at) (le-leb r.end at behind)
test_from_IsOutside at n r (inr before) = or_right (leb r.end at) (leb (at + n) r.at) (le-leb (at + n) r.at before)

pub IsClear-from_test : (at n : ℕ) (rs : List Range) → is_clear rs at n ≡ true → IsClear at n rs
IsClear-from_test at n [] h = tt
IsClear-from_test at n (r ∷ rs) h =
    let both = and_parts (is_outside at n r) (is_clear rs at n) h in
    (IsOutside-from_test at n r both.0, IsClear-from_test at n rs both.1)

pub test_from_IsClear : (at n : ℕ) (rs : List Range) → IsClear at n rs → is_clear rs at n ≡ true
test_from_IsClear at n [] h = refl
test_from_IsClear at n (r ∷ rs) h =
    and_from (is_outside at n r) (is_clear rs at n) (test_from_IsOutside at n r h.0) (test_from_IsClear at n rs h.1)

-- the bytes in a range lie between its ends
pub inside_from_test : (at n : ℕ) (r : Range) → is_inside at n r ≡ true → (r.at ≤ at) × (at + n ≤ r.end)
inside_from_test at n r h =
    let both = and_parts (leb r.at at) (leb (at + n) r.end) h in
    (leb-true r.at at both.0, leb-true (at + n) r.end both.1)

-- what is clear of two lists is clear of both joined
pub IsClear-append : (at n : ℕ) (xs ys : List Range) → IsClear at n xs → IsClear at n ys → IsClear at n (xs ++ ys)
IsClear-append at n [] ys g h = h
IsClear-append at n (x ∷ xs) ys g h = (g.0, IsClear-append at n xs ys g.1 h)

pub IsClear-parts : (at n : ℕ) (xs ys : List Range) → IsClear at n (xs ++ ys) → IsClear at n xs × IsClear at n ys
IsClear-parts at n [] ys h = (tt, h)
IsClear-parts at n (x ∷ xs) ys h =
    let rest = IsClear-parts at n xs ys h.1 in
    ((h.0, rest.0), rest.1)

-- rising ranges rise from an earlier place too
pub Rises-lower : (from low : ℕ) (rs : List Range) → low ≤ from → Rises from rs → Rises low rs
Rises-lower from low [] le h = tt
Rises-lower from low (r ∷ rs) le h = (omega arith, h.1, h.2)

-- a part at the end may be exchanged for one that rises from the same places
pub Rises-exchange : (from : ℕ) (xs ys zs : List Range) → ((f : ℕ) → Rises f ys → Rises f zs) → Rises from (xs ++ ys) → Rises from (xs ++ zs)
Rises-exchange from [] ys zs step h = step from h
Rises-exchange from (x ∷ xs) ys zs step h = (h.0, h.1, Rises-exchange x.end xs ys zs step h.2)

-- what rises from the end of the first part
pub Rises-rest : (from : ℕ) (xs : List Range) (r : Range) (ys : List Range) → Rises from (xs ++ r ∷ ys) → (from ≤ r.at) × (r.at ≤ r.end) × Rises r.end ys
Rises-rest from [] r ys h = h
Rises-rest from (x ∷ xs) r ys h =
    let rest = Rises-rest x.end xs r ys h.2 in
    let a : from ≤ x.at = h.0 in
    let b : x.at ≤ x.end = h.1 in
    let c : x.end ≤ r.at = rest.0 in
    (omega arith, rest.1, rest.2)

-- what lies at a range or behind is clear of the ranges before it
pub clear_of_earlier : (from : ℕ) (xs : List Range) (r : Range) (ys : List Range) (at n : ℕ) → Rises from (xs ++ r ∷ ys) → r.at ≤ at → IsClear at n xs
clear_of_earlier from [] r ys at n h le = tt
clear_of_earlier from (x ∷ xs) r ys at n h le =
    let c : x.end ≤ r.at = (Rises-rest x.end xs r ys h.2).0 in
    (inl (omega arith), clear_of_earlier x.end xs r ys at n h.2 le)

-- what ends where ranges begin to rise is clear of them
pub clear_of_later : (from : ℕ) (rs : List Range) (at n : ℕ) → Rises from rs → at + n ≤ from → IsClear at n rs
clear_of_later from [] at n h le = tt
clear_of_later from (r ∷ rs) at n h le =
    let a : from ≤ r.at = h.0 in
    let b : r.at ≤ r.end = h.1 in
    (inr (omega arith), clear_of_later r.end rs at n h.2 (omega arith))
