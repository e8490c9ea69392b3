-- What changes of a list of ranges keep.
use Rattle.std.proofs.Common.{◌≡◌, ℕ, ◌+◌, ◌<◌, ◌≤◌, ◌⊎◌, inl, inr, true, false, List, [], ◌∷◌, ◌++◌, refl, sym, ◌∙◌, arith}
use Rattle.std.proofs.lemmas.Bool.{both_ways, false_from_ne_true}
use Rattle.dav_space.specs.declared.range.Range.{Range}
use Rattle.dav_space.specs.Ranges.{is_clear, are_rising, last_end, first, without, ReachLimit, KeepsClear, AreUnused, AreTaken}
use Rattle.dav_space.proofs.Facts.{Rises, IsClear, Rises-from_test, test_from_Rises, IsClear-from_test, test_from_IsClear, IsClear-append, IsClear-parts, Rises-lower, Rises-exchange, Rises-rest, clear_of_earlier, clear_of_later}

-- a part at the end may be exchanged for one that rises from the same places
are_rising-exchange : (xs ys zs : List Range) → ((f : ℕ) → Rises f ys → Rises f zs) → are_rising 0 (xs ++ ys) ≡ true → are_rising 0 (xs ++ zs) ≡ true
are_rising-exchange xs ys zs step h =
    test_from_Rises 0 (xs ++ zs) (Rises-exchange 0 xs ys zs step (Rises-from_test 0 (xs ++ ys) h))

-- a part at the end may be exchanged for one that keeps clear
KeepsClear-exchange : (xs ys zs : List Range) → ((at n : ℕ) → IsClear at n ys → IsClear at n zs) → KeepsClear (xs ++ ys) (xs ++ zs)
KeepsClear-exchange xs ys zs step at n h =
    let both = IsClear-parts at n xs ys (IsClear-from_test at n (xs ++ ys) h) in
    test_from_IsClear at n (xs ++ zs) (IsClear-append at n xs zs both.0 (step at n both.1))

-- a part at the end may be exchanged for one that has the same bytes
KeepsUnused-exchange : (xs ys zs : List Range) (i : ℕ) → (IsClear i 1 zs → IsClear i 1 ys) → is_clear (xs ++ ys) i 1 ≡ false → is_clear (xs ++ zs) i 1 ≡ false
KeepsUnused-exchange xs ys zs i step h =
    false_from_ne_true _ (λ clear.
    let both = IsClear-parts i 1 xs zs (IsClear-from_test i 1 (xs ++ zs) clear) in
    both_ways _ h (test_from_IsClear i 1 (xs ++ ys) (IsClear-append i 1 xs ys both.0 (step both.1))))

-- the last range ends where the last of a part at the end does
pub last_end-behind : (from : ℕ) (xs : List Range) (r : Range) (ys : List Range) → last_end from (xs ++ r ∷ ys) ≡ last_end r.end ys
last_end-behind from [] r ys = refl
last_end-behind from (x ∷ xs) r ys = last_end-behind x.end xs r ys

-- what ends at a place ends before a later one too
later : (f at n : ℕ) → f ≤ at → f ≤ at + n
later f at n h = omega arith

module _ (xs : List Range) (r : Range) (ys : List Range) where
  -- no range is inside out
  pub in_range : are_rising 0 (xs ++ r ∷ ys) ≡ true → r.at ≤ r.end
  in_range h = (Rises-rest 0 xs r ys (Rises-from_test 0 (xs ++ r ∷ ys) h)).1

  -- a part at the end may be exchanged for one that ends at the same place
  pub ReachLimit-exchange : (s : Range) (zs : List Range) → last_end r.end ys ≡ last_end s.end zs → ReachLimit (xs ++ r ∷ ys) → ReachLimit (xs ++ s ∷ zs)
  ReachLimit-exchange s zs same h =
      last_end-behind 0 xs s zs ∙ (sym same ∙ (sym (last_end-behind 0 xs r ys) ∙ h))

  -- a range may be left out
  pub are_rising-skip : are_rising 0 (xs ++ r ∷ ys) ≡ true → are_rising 0 (xs ++ ys) ≡ true
  are_rising-skip =
      let wider : (f : ℕ) → f ≤ r.at → r.at ≤ r.end → f ≤ r.end = λ f g h. omega arith in
      are_rising-exchange xs (r ∷ ys) ys (λ f h. Rises-lower r.end f ys (wider f h.0 h.1) h.2)

-- a range loses its first n bytes
module _ (xs : List Range) (r : Range) (ys : List Range) (n : ℕ) (fits : r.at + n ≤ r.end) where
  pub are_rising-take : are_rising 0 (xs ++ r ∷ ys) ≡ true → are_rising 0 (xs ++ without n r ∷ ys) ≡ true
  are_rising-take =
      are_rising-exchange xs (r ∷ ys) (without n r ∷ ys) (λ f h. (later f r.at n h.0, fits, h.2))

  clear_of_rest : (at m : ℕ) → IsClear at m (r ∷ ys) → IsClear at m (without n r ∷ ys)
  clear_of_rest at m (inl behind, rest) = (inl behind, rest)
  clear_of_rest at m (inr before, rest) = (inr (later (at + m) r.at n before), rest)

  -- those bytes are clear of what is left
  clear_of_taken : are_rising 0 (xs ++ r ∷ ys) ≡ true → is_clear (xs ++ without n r ∷ ys) r.at n ≡ true
  clear_of_taken h =
      let rises = Rises-from_test 0 (xs ++ r ∷ ys) h in
      let before = clear_of_earlier 0 xs r ys r.at n rises (omega arith) in
      let behind = clear_of_later r.end ys r.at n (Rises-rest 0 xs r ys rises).2 fits in
      test_from_IsClear r.at n (xs ++ without n r ∷ ys) (IsClear-append r.at n xs (without n r ∷ ys) before (inr (omega arith), behind))

  -- no other byte is taken
  rest_of_taken : (i : ℕ) → (i < r.at) ⊎ (r.at + n ≤ i) → IsClear i 1 (without n r ∷ ys) → IsClear i 1 (r ∷ ys)
  rest_of_taken i other (inl behind, rest) = (inl behind, rest)
  rest_of_taken i (inl before) (inr h, rest) = (inr (omega arith), rest)
  rest_of_taken i (inr after) (inr h, rest) = absurd (omega arith)

  pub AreTaken-take : are_rising 0 (xs ++ r ∷ ys) ≡ true → AreTaken r.at n (xs ++ r ∷ ys) (xs ++ without n r ∷ ys)
  AreTaken-take h = record {
    taken = clear_of_taken h;
    kept = KeepsClear-exchange xs (r ∷ ys) (without n r ∷ ys) clear_of_rest;
    rest = λ i other. KeepsUnused-exchange xs (r ∷ ys) (without n r ∷ ys) i (rest_of_taken i other);
  }

  -- what is clear of the ranges has none of those bytes
  pub AreUnused-first : AreUnused r.at n (xs ++ r ∷ ys)
  AreUnused-first a m h =
      let there = (IsClear-parts a m xs (r ∷ ys) (IsClear-from_test a m (xs ++ r ∷ ys) h)).1.0 in
      elim there [ inl behind ↦ inr (omega arith) | inr before ↦ inl before ]

  -- the range may be split behind them
  pub are_rising-split : are_rising 0 (xs ++ r ∷ ys) ≡ true → are_rising 0 (xs ++ first n r ∷ without n r ∷ ys) ≡ true
  are_rising-split =
      let rises : r.at ≤ r.at + n = omega arith in
      let same : r.at + n ≤ r.at + n = omega arith in
      are_rising-exchange xs (r ∷ ys) (first n r ∷ without n r ∷ ys) (λ f h. (h.0, rises, (same, fits, h.2)))

  clear_of_halves : (at m : ℕ) → IsClear at m (r ∷ ys) → IsClear at m (first n r ∷ without n r ∷ ys)
  clear_of_halves at m (inl behind, rest) = (inl (omega arith), (inl behind, rest))
  clear_of_halves at m (inr before, rest) = (inr before, (inr (later (at + m) r.at n before), rest))

  pub KeepsClear-split : KeepsClear (xs ++ r ∷ ys) (xs ++ first n r ∷ without n r ∷ ys)
  KeepsClear-split = KeepsClear-exchange xs (r ∷ ys) (first n r ∷ without n r ∷ ys) clear_of_halves
