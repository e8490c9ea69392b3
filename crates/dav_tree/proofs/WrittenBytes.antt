-- Bytes that are written over others.
use Rattle.std.proofs.Common.{◌≡◌, ◌∙◌, ℕ, zero, suc, ◌+◌, ◌-◌, ◌≤◌, List, [], ◌∷◌, ◌++◌, length, take, drop, refl, ap, arith}
use Rattle.std.proofs.Math.ListN.{replicate}
use Rattle.std.proofs.lemmas.List.{take-replicate, drop-replicate}
use Rattle.dav_store.specs.Calls.{written_at}

take-append : (n : ℕ) (xs ys : List ℕ) → take n (xs ++ ys) ≡ take n xs ++ take (n - length xs) ys
take-append zero xs ys = let e : zero ≡ zero - length xs = omega arith in ap (λ k. take k ys) e
take-append (suc n) [] ys = let e : suc n ≡ suc n - zero = omega arith in ap (λ k. take k ys) e
take-append (suc n) (x ∷ xs) ys =
    let e : n - length xs ≡ suc n - suc (length xs) = omega arith in
    ap (λ zs. x ∷ zs) (take-append n xs ys) ∙ ap (λ k. x ∷ take n xs ++ take k ys) e

drop-append : (n : ℕ) (xs ys : List ℕ) → drop n (xs ++ ys) ≡ drop n xs ++ drop (n - length xs) ys
drop-append zero xs ys = let e : zero ≡ zero - length xs = omega arith in ap (λ k. xs ++ drop k ys) e
drop-append (suc n) [] ys = let e : suc n ≡ suc n - zero = omega arith in ap (λ k. drop k ys) e
drop-append (suc n) (x ∷ xs) ys =
    let e : n - length xs ≡ suc n - suc (length xs) = omega arith in
    drop-append n xs ys ∙ ap (λ k. drop n xs ++ drop k ys) e

less : (p e n : ℕ) → p ≤ e → p - n ≤ e - n
less p e n h = omega arith

none_left : (n : ℕ) → replicate {A = ℕ} (n - n) 0 ≡ []
none_left n = let z : n - n ≡ zero = omega arith in ap (λ (k : ℕ). replicate {A = ℕ} k 0) z

append_none : (xs : List ℕ) → xs ++ [] ≡ xs
append_none [] = refl
append_none (x ∷ xs) = ap (λ ys. x ∷ ys) (append_none xs)

-- the first bytes of a file that was lengthened
take-lengthened : (bytes : List ℕ) (p e : ℕ) → p ≤ e → take p (bytes ++ replicate (e - length bytes) 0) ≡ take p bytes ++ replicate (p - length bytes) 0
take-lengthened bytes p e h = take-append p bytes _ ∙ ap (λ zs. take p bytes ++ zs) (take-replicate (p - length bytes) (e - length bytes) 0 (less p e (length bytes) h))

-- and what stands behind its end
drop-lengthened : (bytes : List ℕ) (e : ℕ) → drop e (bytes ++ replicate (e - length bytes) 0) ≡ drop e bytes
drop-lengthened bytes e = drop-append e bytes _ ∙ ap (λ zs. drop e bytes ++ zs) (drop-replicate (e - length bytes) (e - length bytes) 0 ∙ none_left (e - length bytes)) ∙ append_none (drop e bytes)

-- bytes that are put over those of a file that was lengthened
pub written-lengthened : (bytes more long new : List ℕ) (place : ℕ) → (length more ≡ 0 → ⊥)
    → long ≡ bytes ++ replicate (place + length more - length bytes) 0
    → new ≡ take place long ++ more ++ drop (place + length more) long
    → new ≡ written_at bytes place more
written-lengthened bytes [] long new place some l n = absurd (some refl)
written-lengthened bytes (b ∷ more) long new place some l n =
    n ∙ (λ i. front i ++ (b ∷ more) ++ back i)
  where
    front : take place long ≡ take place bytes ++ replicate (place - length bytes) 0
    front = ap (take place) l ∙ take-lengthened bytes place (place + length (b ∷ more)) (omega arith)

    back : drop (place + length (b ∷ more)) long ≡ drop (place + length (b ∷ more)) bytes
    back = ap (drop (place + length (b ∷ more))) l ∙ drop-lengthened bytes (place + length (b ∷ more))
