-- Where the last range begins.
use Rattle.std.proofs.Common.{◌≡◌, ℕ, ◌+◌, ◌-◌, ◌<◌, ◌≤◌, ◌⊎◌, inl, inr, List, [], ◌∷◌, ◌++◌, Some, None, length, reverse, drop, refl, sym, ap, ◌∙◌, arith}
use Rattle.std.specs.List.{slice_get, sum_by}
use Rattle.std.proofs.lemmas.List.{append_assoc, reverse-append, take_at, length_push}
use Rattle.std.proofs.lemmas.List.Sorted.{IsPermutation-reverse, sum_by-IsPermutation}
use Rattle.std.proofs.lemmas.List.Sums.{sum_by-append, sum_by-cons}
use Rattle.std.proofs.lemmas.Option.{none-some, same_Some}
use Rattle.dav_space.specs.declared.range.Range.{Range}
use Rattle.dav_space.specs.declared.range.TheConstants.{LIMIT}
use Rattle.dav_space.specs.Ranges.{last_at, last_end, in_order, size, used_of, ReachLimit, IsBehind}
use Rattle.dav_space.proofs.Facts.{IsClear, IsClear-from_test}

last_is_behind : (from end : ℕ) (rs : List Range) (at n : ℕ) → (from ≤ at) ⊎ (at + n ≤ end) → last_end from rs ≡ LIMIT → IsClear at n rs → 0 < n → at + n ≤ LIMIT → at + n ≤ last_at end rs
last_is_behind from end [] at n (inl behind) whole clear some le = omega arith
last_is_behind from end [] at n (inr before) whole clear some le = before
last_is_behind from end (r ∷ rs) at n h whole clear some le = last_is_behind r.end r.at rs at n clear.0 whole clear.1 some le

-- nothing that is clear has a byte where the last range begins or behind it
pub IsBehind-last_at : (rs : List Range) (end : ℕ) → end ≡ last_at 0 rs → ReachLimit rs → IsBehind end rs
IsBehind-last_at rs end place whole at n clear some le =
    rw place (last_is_behind 0 0 rs at n (inl (omega arith)) whole (IsClear-from_test at n rs clear) some le)

pub last_at-behind : (at : ℕ) (xs : List Range) (r : Range) (ys : List Range) → last_at at (xs ++ r ∷ ys) ≡ last_at r.at ys
last_at-behind at [] r ys = refl
last_at-behind at (x ∷ xs) r ys = last_at-behind x.at xs r ys

-- the later ranges in ascending order, where the last of them is known
reverse-cons : (r : Range) (rs : List Range) → reverse (r ∷ rs) ≡ reverse rs ++ r ∷ []
reverse-cons r rs = reverse-append (r ∷ []) rs

pub last_at-later : (rooms : List Range) (current : Range) (later : List Range) (last : Range) → Some last ≡ slice_get later 0 → last.at ≡ last_at 0 (in_order rooms current later)
last_at-later rooms current [] last e = absurd (none-some last (sym e))
last_at-later rooms current (r ∷ rs) last e =
    let found = last_at-behind current.at (reverse rs) r [] in
    let whole = last_at-behind 0 rooms current (reverse (r ∷ rs)) in
    ap (λ x. x.at) (same_Some last r e) ∙ (sym found ∙ (ap (last_at current.at) (sym (reverse-cons r rs)) ∙ sym whole))

pub last_at-alone : (rooms : List Range) (current : Range) (later : List Range) → None ≡ slice_get later 0 → current.at ≡ last_at 0 (in_order rooms current later)
last_at-alone rooms current [] e = sym (last_at-behind 0 rooms current [])
last_at-alone rooms current (r ∷ rs) e = absurd (none-some r e)

-- the sizes of the ranges before the last
used_of-push : (rs : List Range) (last : Range) → used_of (rs ++ last ∷ []) ≡ last_at 0 (rs ++ last ∷ []) - sum_by size rs
used_of-push rs last =
    let before = take_at rs (last ∷ []) (length (rs ++ last ∷ []) - 1) (omega (arith, length_push rs last)) in
    ap (λ xs. last_at 0 (rs ++ last ∷ []) - sum_by size xs) before

-- the sizes, taken away in three steps
less_of_parts : (rooms : List Range) (current : Range) (rs : List Range) (n : ℕ) → n - sum_by size (rooms ++ current ∷ reverse rs) ≡ n - sum_by size rooms - sum_by size (current ∷ []) - sum_by size rs
less_of_parts rooms current rs n =
    let parts = sum_by-append size rooms (current ∷ reverse rs) in
    let here = sum_by-cons size current (reverse rs) in
    let same = sum_by-IsPermutation size rs (reverse rs) (IsPermutation-reverse rs) in
    omega arith

pub used_of-later : (rooms : List Range) (current : Range) (later : List Range) → 0 < length later → used_of (in_order rooms current later) ≡ last_at 0 (in_order rooms current later) - sum_by size rooms - sum_by size (current ∷ []) - sum_by size (drop 1 later)
used_of-later rooms current [] lt = absurd (omega arith)
used_of-later rooms current (r ∷ rs) lt =
    let order = ap (λ rest. rooms ++ current ∷ rest) (reverse-cons r rs) ∙ sym (append_assoc rooms (current ∷ reverse rs) (r ∷ [])) in
    rw order (used_of-push (rooms ++ current ∷ reverse rs) r ∙ less_of_parts rooms current rs _)
