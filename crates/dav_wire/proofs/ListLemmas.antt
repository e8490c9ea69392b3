-- Lists, read one value after the other.
use Rattle.std.proofs.Common.{◌≡◌, ◌∙◌, ℕ, zero, suc, ◌-◌, ◌<◌, ◌≤◌, refl, ap, sym, List, [], ◌∷◌, ◌++◌, length, Some, None, Option, arith, append-nil, append_assoc}
use Rattle.dav_wire.specs.Codec.{Codec, and_then}
use Rattle.dav_wire.specs.Parts.{parse_times}
use Rattle.dav_wire.specs.Combine.{never}
use Rattle.dav_wire.specs.Numbers.{byte, number}
use Rattle.dav_wire.specs.Values.{list, variant_at, one_of}

-- ---- parses

-- these values in front of those parsed
abbrev pub put_front : {A : Type 0} → List A → Option (List A × List ℕ) → Option (List A × List ℕ)
put_front xs o = and_then o (λ ys left. Some (xs ++ ys, left))

pub put_front-more : {A : Type 0} (xs : List A) (x : A) (o : Option (List A × List ℕ)) → put_front xs (and_then o (λ ys left. Some (x ∷ ys, left))) ≡ put_front (xs ++ x ∷ []) o
put_front-more xs x None = refl
put_front-more xs x (Some p) = ap (λ ys. Some (ys, p.1)) (sym (append_assoc xs (x ∷ []) p.0))

pub put_front-none : {A : Type 0} (o : Option (List A × List ℕ)) → put_front [] o ≡ o
put_front-none None = refl
put_front-none (Some p) = refl

pub times_step : {A : Type 0} (a : Codec A) (n : ℕ) (bytes : List ℕ) → 0 < n → parse_times a n bytes ≡ and_then (a.parse bytes) (λ x rest. and_then (parse_times a (n - 1) rest) (λ xs left. Some (x ∷ xs, left)))
times_step a zero bytes h = absurd (omega arith)
times_step a (suc n) bytes h = let e : suc n - 1 ≡ n = omega arith in rw e refl

-- ---- lists

-- what is read so far: `left` values are still in `bytes`
pub record ListSoFar {A : Type 0} (a : Codec A) (old : List ℕ) (done : List A) (left : ℕ) (bytes : List ℕ) : Type 0 where
  pub so_far : (list a).parse old ≡ put_front done (parse_times a left bytes)

pub list_begin : {A : Type 0} (a : Codec A) (old : List ℕ) (n : ℕ) (bytes : List ℕ) → number.parse old ≡ Some (n, bytes) → ListSoFar a old [] n bytes
list_begin a old n bytes e = record { so_far = rw e (sym (put_front-none (parse_times a n bytes))) }

pub list_begin-fails : {A : Type 0} (a : Codec A) (old : List ℕ) → number.parse old ≡ None → (list a).parse old ≡ None
list_begin-fails a old none = rw none refl

pub list_more : {A : Type 0} (a : Codec A) (old : List ℕ) (done : List A) (left : ℕ) (bytes rest : List ℕ) (x : A) → ListSoFar a old done left bytes → 0 < left → a.parse bytes ≡ Some (x, rest) → ListSoFar a old (done ++ x ∷ []) (left - 1) rest
list_more {A = A} a old done left bytes rest x h more e =
    record {
      so_far =
          h.so_far ∙ ap (put_front done) (times_step a left bytes more)
          ∙ ap (λ (o : Option (A × List ℕ)). put_front done (and_then o (λ y after. and_then (parse_times a (left - 1) after) (λ ys end. Some (y ∷ ys, end))))) e
          ∙ put_front-more done x (parse_times a (left - 1) rest);
    }

pub list_fail : {A : Type 0} (a : Codec A) (old : List ℕ) (done : List A) (left : ℕ) (bytes : List ℕ) → ListSoFar a old done left bytes → 0 < left → a.parse bytes ≡ None → (list a).parse old ≡ None
list_fail a old done left bytes h more none = rw (h.so_far, times_step a left bytes more, none) refl

pub list_end : {A : Type 0} (a : Codec A) (old : List ℕ) (done : List A) (left : ℕ) (bytes : List ℕ) → ListSoFar a old done left bytes → left ≡ 0 → (list a).parse old ≡ Some (done, bytes)
list_end a old done left bytes h none_left = rw (h.so_far, none_left, append-nil) refl

-- ---- variants

past_end : {A : Type 0} (variants : List (Codec A)) (n : ℕ) → length variants ≤ n → variant_at variants n ≡ never
past_end [] n h = refl
past_end (a ∷ others) zero h = absurd (omega arith)
past_end (a ∷ others) (suc n) h = past_end others n (omega arith)

-- a byte that is the position of no variant
pub unknown_variant : {A : Type 0} (position : A → ℕ) (variants : List (Codec A)) (old : List ℕ) (n : ℕ) (rest : List ℕ) → byte.parse old ≡ Some (n, rest) → length variants ≤ n → (one_of position variants).parse old ≡ None
unknown_variant position variants old n rest e h = rw (e, past_end variants n h) refl
