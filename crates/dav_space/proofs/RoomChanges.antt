-- What a change of one room keeps.
use Rattle.std.proofs.Common.{◌≡◌, ℕ, ◌+◌, ◌<◌, ◌≤◌, true, List, [], ◌∷◌, ◌++◌, length, get_or, set, take, drop, suc, sym, ap, ◌∙◌, subst}
use Rattle.std.proofs.lemmas.List.{set_split, set-get_or, append_assoc, get_or_read}
use Rattle.dav_space.specs.declared.range.Range.{Range}
use Rattle.dav_space.specs.Ranges.{last_end, are_rising, first, without, ReachLimit, KeepsClear, AreUnused, AreTaken}
use Rattle.dav_space.proofs.Facts.{Rises}
use Rattle.dav_space.proofs.Limits.{end_below}
use Rattle.dav_space.proofs.Changes.{are_rising-take, AreTaken-take, AreUnused-first, are_rising-split, KeepsClear-split, last_end-behind, in_range}

-- what a room is that was read and changed in place
pub room_without : (rooms : List Range) (i n : ℕ) (read new d : Range) → i < length rooms → read ≡ get_or rooms i read → new ≡ without n read → new ≡ without n (get_or rooms i d)
room_without rooms i n read new d lt same e = e ∙ ap (without n) (get_or_read rooms i read lt same d)

module _ (rooms : List Range) (i : ℕ) (rest : List Range) (lt : i < length rooms) where
  -- the ranges behind the room
  behind : List Range
  behind = drop (suc i) rooms ++ rest

  -- the list with another range for the room
  exchanged : (r : Range) → set rooms i r ++ rest ≡ take i rooms ++ r ∷ behind
  unfolding behind
  exchanged r = ap (λ xs. xs ++ rest) (set_split rooms i r lt) ∙ append_assoc (take i rooms) (r ∷ drop (suc i) rooms) rest

  -- the list itself
  split : (d : Range) → rooms ++ rest ≡ take i rooms ++ get_or rooms i d ∷ behind
  split d = ap (λ xs. xs ++ rest) (sym (set-get_or rooms i d)) ∙ exchanged (get_or rooms i d)

  module _ (d : Range) where
    pub room_in_range : are_rising 0 (rooms ++ rest) ≡ true → (get_or rooms i d).at ≤ (get_or rooms i d).end
    room_in_range h = in_range (take i rooms) (get_or rooms i d) behind (rw (split d) at h)

    pub room_below : Rises 0 (rooms ++ rest) → (get_or rooms i d).end ≤ last_end 0 (rooms ++ rest)
    room_below h =
        let below = end_below 0 (take i rooms) (get_or rooms i d) behind (subst (Rises 0) (split d) h) in
        subst (λ xs. (get_or rooms i d).end ≤ last_end 0 xs) (sym (split d)) below

    module _ (n : ℕ) (fits : (get_or rooms i d).at + n ≤ (get_or rooms i d).end) where
      pub are_rising-room : are_rising 0 (rooms ++ rest) ≡ true → are_rising 0 (set rooms i (without n (get_or rooms i d)) ++ rest) ≡ true
      are_rising-room h =
          let r = get_or rooms i d in
          rw (exchanged (without n r)) (are_rising-take (take i rooms) r behind n fits (rw (split d) at h))

      pub AreTaken-room : are_rising 0 (rooms ++ rest) ≡ true → AreTaken (get_or rooms i d).at n (rooms ++ rest) (set rooms i (without n (get_or rooms i d)) ++ rest)
      AreTaken-room h =
          let r = get_or rooms i d in
          let taken = AreTaken-take (take i rooms) r behind n fits (rw (split d) at h) in
          let old = subst (λ xs. AreTaken r.at n xs (take i rooms ++ without n r ∷ behind)) (sym (split d)) taken in
          subst (λ xs. AreTaken r.at n (rooms ++ rest) xs) (sym (exchanged (without n r))) old

      pub AreUnused-room : AreUnused (get_or rooms i d).at n (rooms ++ rest)
      AreUnused-room =
          let r = get_or rooms i d in
          subst (λ xs. AreUnused r.at n xs) (sym (split d)) (AreUnused-first (take i rooms) r behind n fits)

-- what is behind the rooms decides where the last range ends
pub ReachLimit-rooms : (rooms new : List Range) (r : Range) (rest : List Range) → ReachLimit (rooms ++ r ∷ rest) → ReachLimit (new ++ r ∷ rest)
ReachLimit-rooms rooms new r rest h = last_end-behind 0 new r rest ∙ (sym (last_end-behind 0 rooms r rest) ∙ h)

-- a new room at the beginning of the current range
module _ (rooms : List Range) (r : Range) (rest : List Range) (n : ℕ) (fits : r.at + n ≤ r.end) where
  pushed : (rooms ++ first n r ∷ []) ++ (without n r ∷ rest) ≡ rooms ++ (first n r ∷ without n r ∷ rest)
  pushed = append_assoc rooms (first n r ∷ []) (without n r ∷ rest)

  pub are_rising-push : are_rising 0 (rooms ++ r ∷ rest) ≡ true → are_rising 0 ((rooms ++ first n r ∷ []) ++ (without n r ∷ rest)) ≡ true
  are_rising-push h = rw pushed (are_rising-split rooms r rest n fits h)

  pub KeepsClear-push : KeepsClear (rooms ++ r ∷ rest) ((rooms ++ first n r ∷ []) ++ (without n r ∷ rest))
  KeepsClear-push = rw pushed (KeepsClear-split rooms r rest n fits)

  pub ReachLimit-push : ReachLimit (rooms ++ r ∷ rest) → ReachLimit ((rooms ++ first n r ∷ []) ++ (without n r ∷ rest))
  ReachLimit-push h =
      last_end-behind 0 (rooms ++ first n r ∷ []) (without n r) rest ∙ (sym (last_end-behind 0 rooms r rest) ∙ h)
