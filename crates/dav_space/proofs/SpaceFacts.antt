-- What holds of each space.
use Rattle.std.proofs.Common.{◌≡◌, ℕ, ◌+◌, ◌<◌, ◌≤◌, true, List, [], ◌∷◌, ◌++◌, length, get_or, reverse, refl, sym, ap, ◌∙◌, arith}
use Rattle.std.proofs.lemmas.List.{reverse-append, reverse-reverse}
use Rattle.dav_space.specs.declared.range.Range.{Range}
use Rattle.dav_space.specs.declared.space.Space.{Space}
use Rattle.dav_space.specs.Ranges.{in_order, are_rising, ReachLimit, AreUnused}
use Rattle.dav_space.specs.Space.{unused, IsRoom}
use Rattle.dav_space.specs.declared.range.TheConstants.{LIMIT}
use Rattle.dav_space.proofs.Facts.{Rises-from_test}
use Rattle.dav_space.proofs.Limits.{end_below}
use Rattle.dav_space.proofs.Changes.{in_range, are_rising-skip, ReachLimit-exchange}
use Rattle.dav_space.proofs.RoomChanges as rooms

pub current_in_range : (s : Space) → s.current.at ≤ s.current.end
current_in_range s = in_range s.rooms.items s.current (reverse s.later.items) s.rising

pub current_below : (s : Space) → s.current.end ≤ LIMIT
current_below s =
    let below = end_below 0 s.rooms.items s.current (reverse s.later.items) (Rises-from_test 0 _ s.rising) in
    let whole = s.whole in
    omega arith

pub room_below : (s : Space) (i : ℕ) (d : Range) → i < length s.rooms.items → (get_or s.rooms.items i d).end ≤ LIMIT
room_below s i d lt =
    let below = rooms.room_below s.rooms.items i (s.current ∷ reverse s.later.items) lt d (Rises-from_test 0 _ s.rising) in
    let whole = s.whole in
    omega arith

pub room_in_range : (s : Space) (i : ℕ) (d : Range) → i < length s.rooms.items → (get_or s.rooms.items i d).at ≤ (get_or s.rooms.items i d).end
room_in_range s i d lt = rooms.room_in_range s.rooms.items i (s.current ∷ reverse s.later.items) lt d s.rising

-- the ranges after the current one, where the last of the later ones is known
module _ (rooms : List Range) (current : Range) (later popped : List Range) (next : Range) (e : later ≡ popped ++ next ∷ []) where
  popped_is : in_order rooms current later ≡ rooms ++ current ∷ (next ∷ reverse popped)
  popped_is = ap (λ rest. rooms ++ current ∷ rest) (ap reverse e ∙ reverse-append popped (next ∷ []))

  pub are_rising-popped : are_rising 0 (in_order rooms current later) ≡ true → are_rising 0 (in_order rooms next popped) ≡ true
  are_rising-popped h = are_rising-skip rooms current (next ∷ reverse popped) (rw popped_is at h)

  pub ReachLimit-popped : ReachLimit (in_order rooms current later) → ReachLimit (in_order rooms next popped)
  ReachLimit-popped h =
      ReachLimit-exchange rooms current (next ∷ reverse popped) next (reverse popped) refl (rw popped_is at h)

-- the range that stands for a room that is not there
abbrev none : Range
none = record { at = 0; end = 0 }

-- a room that was found by its place, where its number is i
module _ (s : Space) (items : List Range) (same : items ≡ s.rooms.items) (i at : ℕ) (lt : i < length items) (begins : (get_or items i none).at ≡ at) where
  pub found_in_range : at ≤ (get_or items i none).end
  found_in_range =
      let le = room_in_range s i none (rw same at lt) in
      rw (← begins, same) le

  pub found_below : (get_or items i none).end ≤ LIMIT
  found_below = let le = room_below s i none (rw same at lt) in rw (← same) at le

  module _ (n : ℕ) (fits : at + n ≤ (get_or items i none).end) where
    pub IsRoom-found : IsRoom i at n s
    IsRoom-found = record { there = rw same at lt; begins = rw same at begins; fits = rw same at fits }

    pub AreUnused-found : AreUnused at n (unused s)
    AreUnused-found =
        let inside : i < length s.rooms.items = rw same at lt in
        let place : (get_or s.rooms.items i none).at ≡ at = rw same at begins in
        let enough : (get_or s.rooms.items i none).at + n ≤ (get_or s.rooms.items i none).end = rw (place, ← same) fits in
        rw (← place) (rooms.AreUnused-room s.rooms.items i (s.current ∷ reverse s.later.items) inside none n enough)

-- the first of these ranges is the current one, and the others are the later ones
pub in_order-gaps : (gaps later : List Range) (current : Range) → reverse gaps ≡ later ++ current ∷ [] → gaps ≡ current ∷ reverse later
in_order-gaps gaps later current e =
    sym (reverse-reverse gaps) ∙ (ap reverse e ∙ reverse-append later (current ∷ []))
