-- Eight bytes that are hashed one by one, from the start of a word, are hashed as that word.
use Rattle.std.proofs.Common.{◌≡◌, ◌∙◌, ℕ, suc, zero, ◌+◌, ◌*◌, ◌%◌, ◌^◌, ◌<◌, List, [], ◌∷◌, ◌++◌, length, take, drop, refl, ap, sym, arith, append_assoc}
use Rattle.std.specs.Prelude.{slice_index}
use Rattle.std.specs.Int.Bits.{bit_xor, or_zero_l}
use Rattle.std.specs.List.{concat}
use Rattle.std.specs.Simd.{first_chunks}
use Rattle.std.proofs.lemmas.Bool.{eq-eqb, ne_eqb}
use Rattle.std.proofs.lemmas.List.{take-append-drop}
use Rattle.std.specs.declared.hash.DefaultHasher.{DefaultHasher}
use Rattle.std.specs.Hash.DefaultHasher.{wrapping_add, with_byte, round, write_word, write_byte, read_word, write}

-- s, with another tail and length
abbrev pub with_tail : DefaultHasher → ℕ → ℕ → DefaultHasher
with_tail s t n = record { v0 = s.v0; v1 = s.v1; v2 = s.v2; v3 = s.v3; tail = t; length = n }

-- s, with the word m in its first number
abbrev pub mixed : DefaultHasher → ℕ → DefaultHasher
mixed s m = record { v0 = bit_xor s.v0 m; v1 = s.v1; v2 = s.v2; v3 = s.v3; tail = s.tail; length = s.length }

-- s, as the last rounds begin with it
abbrev pub flipped : DefaultHasher → DefaultHasher
flipped s = record { v0 = s.v0; v1 = s.v1; v2 = bit_xor s.v2 255; v3 = s.v3; tail = s.tail; length = s.length }

abbrev pub joined : DefaultHasher → ℕ
joined s = bit_xor (bit_xor (bit_xor s.v0 s.v1) s.v2) s.v3

pub write_word_keeps : (s : DefaultHasher) (m : ℕ) → ((write_word s m).tail ≡ s.tail) × ((write_word s m).length ≡ s.length)
unfolding write_word round
write_word_keeps s m = (refl, refl)

byte_first : (s : DefaultHasher) (b : ℕ) → b < 2 ^ 8 → s.length % 8 ≡ 0 → s.tail ≡ 0 → write_byte s b ≡ with_tail s b (wrapping_add s.length 1)
unfolding write_byte
byte_first s b small aligned none =
    let more : wrapping_add s.length 1 % 8 ≡ 0 → ⊥ = omega arith in
    let low : (b * 1) % 2 ^ 64 ≡ b = omega arith in
    rw (none, aligned, ne_eqb (wrapping_add s.length 1 % 8) 0 more) (ap (λ t. with_tail s t (wrapping_add s.length 1)) (or_zero_l _ ∙ low))

module _ (s : DefaultHasher) (t n k b : ℕ) (aligned : n % 8 ≡ 0) where
  byte_inside : k < 7 → write_byte (with_tail s t (wrapping_add n k)) b ≡ with_tail s (with_byte t k b) (wrapping_add n (suc k))
  unfolding write_byte
  byte_inside p =
      let place : wrapping_add n k % 8 ≡ k = omega arith in
      let next : wrapping_add (wrapping_add n k) 1 ≡ wrapping_add n (suc k) = omega arith in
      let more : wrapping_add n (suc k) % 8 ≡ 0 → ⊥ = omega arith in
      rw (place, next, ne_eqb (wrapping_add n (suc k) % 8) 0 more)

byte_last : (s : DefaultHasher) (t n b : ℕ) → n % 8 ≡ 0 → write_byte (with_tail s t (wrapping_add n 7)) b ≡ with_tail (write_word s (with_byte t 7 b)) 0 (wrapping_add n 8)
unfolding write_byte write_word round
byte_last s t n b aligned =
    let place : wrapping_add n 7 % 8 ≡ 7 = omega arith in
    let next : wrapping_add (wrapping_add n 7) 1 ≡ wrapping_add n 8 = omega arith in
    let whole : wrapping_add n 8 % 8 ≡ 0 = omega arith in
    rw (place, next, eq-eqb (wrapping_add n 8 % 8) 0 whole)

eight_bytes : (s : DefaultHasher) (a b c d e f g h : ℕ) → a < 2 ^ 8 → s.length % 8 ≡ 0 → s.tail ≡ 0
    → write s (a ∷ b ∷ c ∷ d ∷ e ∷ f ∷ g ∷ h ∷ []) ≡ with_tail (write_word s (read_word (a ∷ b ∷ c ∷ d ∷ e ∷ f ∷ g ∷ h ∷ []) 0)) 0 (wrapping_add s.length 8)
unfolding write read_word
eight_bytes s a b c d e f g h small aligned none =
    let n = s.length in
    let s1 = byte_first s a small aligned none in
    let s2 = ap (λ x. write_byte x b) s1 ∙ byte_inside s _ n 1 b aligned (omega arith) in
    let s3 = ap (λ x. write_byte x c) s2 ∙ byte_inside s _ n 2 c aligned (omega arith) in
    let s4 = ap (λ x. write_byte x d) s3 ∙ byte_inside s _ n 3 d aligned (omega arith) in
    let s5 = ap (λ x. write_byte x e) s4 ∙ byte_inside s _ n 4 e aligned (omega arith) in
    let s6 = ap (λ x. write_byte x f) s5 ∙ byte_inside s _ n 5 f aligned (omega arith) in
    let s7 = ap (λ x. write_byte x g) s6 ∙ byte_inside s _ n 6 g aligned (omega arith) in
    ap (λ x. write_byte x h) s7 ∙ byte_last s _ n h aligned

pub word_bytes : (s : DefaultHasher) (w : List ℕ) → length w ≡ 8 → slice_index w 0 < 2 ^ 8 → s.length % 8 ≡ 0 → s.tail ≡ 0
    → write s w ≡ with_tail (write_word s (read_word w 0)) 0 (wrapping_add s.length 8)
word_bytes s [] l = absurd (omega arith)
word_bytes s (a ∷ []) l = absurd (omega arith)
word_bytes s (a ∷ b ∷ []) l = absurd (omega arith)
word_bytes s (a ∷ b ∷ c ∷ []) l = absurd (omega arith)
word_bytes s (a ∷ b ∷ c ∷ d ∷ []) l = absurd (omega arith)
word_bytes s (a ∷ b ∷ c ∷ d ∷ e ∷ []) l = absurd (omega arith)
word_bytes s (a ∷ b ∷ c ∷ d ∷ e ∷ f ∷ []) l = absurd (omega arith)
word_bytes s (a ∷ b ∷ c ∷ d ∷ e ∷ f ∷ g ∷ []) l = absurd (omega arith)
word_bytes s (a ∷ b ∷ c ∷ d ∷ e ∷ f ∷ g ∷ h ∷ []) l = eight_bytes s a b c d e f g h
word_bytes s (a ∷ b ∷ c ∷ d ∷ e ∷ f ∷ g ∷ h ∷ i ∷ more) l = absurd (omega arith)

drop-drop : (m n : ℕ) (xs : List ℕ) → drop m (drop n xs) ≡ drop (n + m) xs
drop-drop m zero xs = let e : m ≡ 0 + m = omega arith in ap (λ k. drop k xs) e
drop-drop zero (suc n) [] = let none : List ℕ = [] in let e : suc n ≡ suc n + 0 = omega arith in ap (λ k. drop k none) e
drop-drop (suc m) (suc n) [] = let none : List ℕ = [] in let e : suc (n + suc m) ≡ suc n + suc m = omega arith in ap (λ k. drop k none) e
drop-drop m (suc n) (x ∷ xs) = let e : suc (n + m) ≡ suc n + m = omega arith in drop-drop m n xs ∙ ap (λ k. drop k (x ∷ xs)) e

-- the first chunks of eight bytes, and the bytes after them
pub chunks-rest : (k : ℕ) (xs : List ℕ) → concat (first_chunks 8 k xs) ++ drop (k * 8) xs ≡ xs
chunks-rest zero xs = let e : zero * 8 ≡ 0 = omega arith in ap (λ n. drop n xs) e
chunks-rest (suc k) xs =
    let e : suc k * 8 ≡ 8 + k * 8 = omega arith in
    append_assoc (take 8 xs) (concat (first_chunks 8 k (drop 8 xs))) (drop (suc k * 8) xs)
    ∙ ap (λ n. take 8 xs ++ (concat (first_chunks 8 k (drop 8 xs)) ++ drop n xs)) e
    ∙ ap (λ ys. take 8 xs ++ (concat (first_chunks 8 k (drop 8 xs)) ++ ys)) (sym (drop-drop (k * 8) 8 xs))
    ∙ ap (λ ys. take 8 xs ++ ys) (chunks-rest k (drop 8 xs)) ∙ take-append-drop 8 xs
