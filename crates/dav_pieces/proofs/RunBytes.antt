-- The bytes of a data file from a place on.
use Rattle.std.proofs.Common.{◌≡◌, ◌∙◌, ℕ, zero, suc, ◌+◌, ◌-◌, ◌<◌, ◌≤◌, List, [], ◌∷◌, ◌++◌, length, take, drop, refl, ap, sym, arith}
use Rattle.std.specs.Prelude.{slice_index}
use Rattle.dav_pieces.specs.Pieces.{bytes_at}

pub length-bytes_at : (file : List ℕ) (at n : ℕ) → length (bytes_at file at n) ≡ n
length-bytes_at file at zero = refl
length-bytes_at file at (suc n) = ap suc (length-bytes_at file (suc at) n)

pub take-bytes_at : (file : List ℕ) (at n k : ℕ) → k ≤ n → take k (bytes_at file at n) ≡ bytes_at file at k
take-bytes_at file at n zero h = refl
take-bytes_at file at zero (suc k) h = absurd (omega arith)
take-bytes_at file at (suc n) (suc k) h = ap (λ bytes. slice_index file at ∷ bytes) (take-bytes_at file (suc at) n k (omega arith))

pub drop-bytes_at : (file : List ℕ) (at n k : ℕ) → k ≤ n → drop k (bytes_at file at n) ≡ bytes_at file (at + k) (n - k)
drop-bytes_at file at n zero h =
    let p : at ≡ at + zero = omega arith in let q : n ≡ n - zero = omega arith in
    λ i. bytes_at file (p i) (q i)
drop-bytes_at file at zero (suc k) h = absurd (omega arith)
drop-bytes_at file at (suc n) (suc k) h =
    let p : suc at + k ≡ at + suc k = omega arith in let q : n - k ≡ suc n - suc k = omega arith in
    drop-bytes_at file (suc at) n k (omega arith) ∙ (λ i. bytes_at file (p i) (q i))

-- a part of a run
pub bytes_at-within : (file : List ℕ) (at n from len : ℕ) → from + len ≤ n → bytes_at file (at + from) len ≡ take len (drop from (bytes_at file at n))
bytes_at-within file at n from len h =
    sym (ap (take len) (drop-bytes_at file at n from (omega arith)) ∙ take-bytes_at file (at + from) (n - from) len (omega arith))

-- two runs, one right after the other
pub append-bytes_at : (file : List ℕ) (at n m : ℕ) → bytes_at file at (n + m) ≡ bytes_at file at n ++ bytes_at file (at + n) m
append-bytes_at file at zero m = let p : zero + m ≡ m = omega arith in let q : at ≡ at + zero = omega arith in λ i. bytes_at file (q i) (p i)
append-bytes_at file at (suc n) m =
    let p : suc n + m ≡ suc (n + m) = omega arith in let q : suc at + n ≡ at + suc n = omega arith in
    ap (bytes_at file at) p ∙ ap (λ bs. slice_index file at ∷ bs) (append-bytes_at file (suc at) n m ∙ ap (λ k. bytes_at file (suc at) n ++ bytes_at file k m) q)

-- two data files with the same bytes in the run
pub same-bytes_at : (old new : List ℕ) (at n : ℕ) → ((i : ℕ) → at ≤ i → i < at + n → slice_index new i ≡ slice_index old i)
    → bytes_at new at n ≡ bytes_at old at n
same-bytes_at old new at zero same = refl
same-bytes_at old new at (suc n) same =
    let here = same at (omega arith) (omega arith) in let rest = same-bytes_at old new (suc at) n (λ k a l. same k (omega arith) (omega arith)) in
    λ i. here i ∷ rest i

-- a data file that has these bytes there
pub held-bytes_at : (file bytes : List ℕ) (at : ℕ) → ((i : ℕ) → i < length bytes → slice_index file (at + i) ≡ slice_index bytes i)
    → bytes_at file at (length bytes) ≡ bytes
held-bytes_at file [] at each = refl
held-bytes_at file (b ∷ bytes) at each =
    let p : at ≡ at + 0 = omega arith in
    let here = ap (slice_index file) p ∙ each 0 (omega arith) in
    let rest = held-bytes_at file bytes (suc at) (λ k l. let q : suc at + k ≡ at + suc k = omega arith in ap (slice_index file) q ∙ each (suc k) (omega arith)) in
    λ i. here i ∷ rest i

-- each byte of the run
pub slice_index-bytes_at : (file : List ℕ) (at n i : ℕ) → i < n → slice_index (bytes_at file at n) i ≡ slice_index file (at + i)
slice_index-bytes_at file at zero i h = absurd (omega arith)
slice_index-bytes_at file at (suc n) zero h = let p : at ≡ at + zero = omega arith in ap (slice_index file) p
slice_index-bytes_at file at (suc n) (suc i) h =
    let p : suc at + i ≡ at + suc i = omega arith in
    slice_index-bytes_at file (suc at) n i (omega arith) ∙ ap (slice_index file) p
