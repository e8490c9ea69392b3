-- `cut_at` gives what std's `split_once` gives: what precedes the first such byte, and what follows it.
use Rattle.std.proofs.Common.{◌≡◌, ◌<◌, ◌+◌, ◌==◌, ℕ, Bool, true, false, not, cond, List, [], ◌∷◌, length, take, drop, Option, Some, None, option_map, refl, sym, arith, one-add, add-one, MatchOption}
use Rattle.std.specs.List.{position_or_len, before_first, after_first}
use Rattle.dav_headers.specs.Values.{cut_at}
use denote.Ref.{Bor}

step : (b n : ℕ) (bs : List ℕ) (here : Bool) (r : Option (List ℕ × List ℕ)) → (n < length bs → r ≡ Some (take n bs, drop (n + 1) bs)) → cond (not here) (1 + n) 0 < length (b ∷ bs)
    → cond {A = Option (List ℕ × List ℕ)} here (Some ([], bs)) (option_map (λ parts. (b ∷ parts.0, parts.1)) r) ≡ Some (take (cond (not here) (1 + n) 0) (b ∷ bs), drop (cond (not here) (1 + n) 0 + 1) (b ∷ bs))
step b n bs true r found lt = refl
step b n bs false r found lt =
    let is = found (omega arith) in
    rw (is, one-add, add-one, add-one) refl

-- if the byte occurs
pub cut_at_first : (end : ℕ) (bs : List ℕ) → position_or_len (λ b. b == end) bs < length bs → cut_at end bs ≡ Some (before_first (λ b. b == end) bs, after_first (λ b. b == end) bs)
cut_at_first end [] lt = absurd (omega arith)
cut_at_first end (b ∷ bs) lt = step b (position_or_len (λ b. b == end) bs) bs (b == end) (cut_at end bs) (cut_at_first end bs) lt

miss : (b n : ℕ) (bs : List ℕ) (here : Bool) (r : Option (List ℕ × List ℕ)) → (n ≡ length bs → r ≡ None) → cond (not here) (1 + n) 0 ≡ length (b ∷ bs)
    → cond {A = Option (List ℕ × List ℕ)} here (Some ([], bs)) (option_map (λ parts. (b ∷ parts.0, parts.1)) r) ≡ None
miss b n bs true r none e = absurd (omega arith)
miss b n bs false r none e = rw (none (omega arith)) refl

-- if it does not occur
pub cut_at_none : (end : ℕ) (bs : List ℕ) → position_or_len (λ b. b == end) bs ≡ length bs → cut_at end bs ≡ None
cut_at_none end [] e = refl
cut_at_none end (b ∷ bs) e = miss b (position_or_len (λ b. b == end) bs) bs (b == end) (cut_at end bs) (cut_at_none end bs) e

-- the contract of `split_once` for its result gives `cut_at`
pub cut_at_split : (end : ℕ) (bs : List ℕ) (r : Option (Bor (List ℕ) × Bor (List ℕ))) → MatchOption r (position_or_len (λ b. b == end) bs ≡ length bs)
    (λ x. (x.0.now ≡ before_first (λ b. b == end) bs) × (x.1.now ≡ after_first (λ b. b == end) bs) × (position_or_len (λ b. b == end) bs < length bs))
    → option_map (λ parts. (parts.0.now, parts.1.now)) r ≡ cut_at end bs
cut_at_split end bs None is = sym (cut_at_none end bs is)
cut_at_split end bs (Some x) is = rw (is.0, is.1) (sym (cut_at_first end bs is.2))
