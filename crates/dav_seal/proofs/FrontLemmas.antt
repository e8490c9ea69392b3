-- The bytes of rows determine the rows.
use Rattle.std.proofs.Common.{◌≡◌, ◌≢◌, ℕ, ℤ, List, [], ◌∷◌, ◌++◌, length, take, drop, ◌<◌, ◌^◌, refl, sym, ap, ◌∙◌, append_assoc, w64, to_z}
use Rattle.std.specs.Prelude.{FitsSigned}
use Rattle.std.specs.Int.{cast_unsigned, from_be_bytes}
use Rattle.std.specs.List.{flat_map}
use Rattle.std.proofs.lemmas.Nat.{from_be_bytes-to_be_bytes_8}
use Rattle.std.proofs.lemmas.List.{take_at, drop_at}
use Rattle.std.proofs.lemmas.Int.{to_z-of_z}
use Rattle.std.proofs.Math.Facts.{Fits-of_z}
use Rattle.sqlite_value.specs.declared.value.Value.{Value}
use Rattle.sqlite_value.specs.declared.value.Value.TheVariants.{Null, Int, Real, Text, Blob}
use Rattle.sqlite_value.specs.Order.{Row}
use Rattle.dav_seal.specs.RowBytes.{number_bytes, with_length, cell_bytes, row_bytes, IsCell, AreCells}

-- what stands in front of equal lists, at one length
pub fronts : {A : Type 0} (n : ℕ) (a b r s : List A) → length a ≡ n → length b ≡ n → a ++ r ≡ b ++ s → (a ≡ b) × (r ≡ s)
fronts n a b r s p q e =
    (sym (take_at a r n p) ∙ ap (take n) e ∙ take_at b s n q, sym (drop_at a r n p) ∙ ap (drop n) e ∙ drop_at b s n q)

pub length-number_bytes : (n : ℕ) → length (number_bytes n) ≡ 8
unfolding number_bytes
length-number_bytes n = refl

pub number_bytes-injective : (a b : ℕ) → a < 2 ^ 64 → b < 2 ^ 64 → number_bytes a ≡ number_bytes b → a ≡ b
unfolding number_bytes
number_bytes-injective a b p q e = sym (from_be_bytes-to_be_bytes_8 a p) ∙ ap (from_be_bytes w64) e ∙ from_be_bytes-to_be_bytes_8 b q

number_fronts : (a b : ℕ) (r s : List ℕ) → a < 2 ^ 64 → b < 2 ^ 64 → number_bytes a ++ r ≡ number_bytes b ++ s → (a ≡ b) × (r ≡ s)
number_fronts a b r s p q e =
    let parts = fronts 8 (number_bytes a) (number_bytes b) r s (length-number_bytes a) (length-number_bytes b) e in
    (number_bytes-injective a b p q parts.0, parts.1)

text_fronts : (a b r s : List ℕ) → length a < 2 ^ 64 → length b < 2 ^ 64 → with_length a ++ r ≡ with_length b ++ s → (a ≡ b) × (r ≡ s)
text_fronts a b r s p q e =
    let parts = number_fronts (length a) (length b) (a ++ r) (b ++ s) p q (sym (append_assoc (number_bytes (length a)) a r) ∙ e ∙ append_assoc (number_bytes (length b)) b s) in
    fronts (length b) a b r s parts.0 refl parts.1

int_fronts : (a b : ℤ) (r s : List ℕ) → FitsSigned w64 a → FitsSigned w64 b → number_bytes (cast_unsigned w64 a) ++ r ≡ number_bytes (cast_unsigned w64 b) ++ s → (a ≡ b) × (r ≡ s)
int_fronts a b r s p q e =
    let parts = number_fronts (cast_unsigned w64 a) (cast_unsigned w64 b) r s (Fits-of_z p).fits (Fits-of_z q).fits e in
    (sym (to_z-of_z w64 a p) ∙ ap (to_z w64) parts.0 ∙ to_z-of_z w64 b q, parts.1)

-- the head and the tail of equal lists
heads : {x y : ℕ} {xs ys : List ℕ} → x ∷ xs ≡ y ∷ ys → (x ≡ y) × (xs ≡ ys)
heads e = (cc, cc)

cell_fronts : (x y : Value) (r s : List ℕ) → IsCell x → IsCell y → cell_bytes x ++ r ≡ cell_bytes y ++ s → (x ≡ y) × (r ≡ s)
unfolding cell_bytes
cell_fronts (Int a) (Int b) r s p q e = let parts = int_fronts a b r s p q (heads e).1 in (ap Int parts.0, parts.1)
cell_fronts (Text a) (Text b) r s p q e = let parts = text_fronts a b r s p q (heads e).1 in (ap Text parts.0, parts.1)
cell_fronts (Blob a) (Blob b) r s p q e = let parts = text_fronts a b r s p q (heads e).1 in (ap Blob parts.0, parts.1)
cell_fronts (Int a) (Text b) r s p q e = absurd (cc (heads e).0)
cell_fronts (Int a) (Blob b) r s p q e = absurd (cc (heads e).0)
cell_fronts (Text a) (Int b) r s p q e = absurd (cc (heads e).0)
cell_fronts (Text a) (Blob b) r s p q e = absurd (cc (heads e).0)
cell_fronts (Blob a) (Int b) r s p q e = absurd (cc (heads e).0)
cell_fronts (Blob a) (Text b) r s p q e = absurd (cc (heads e).0)
cell_fronts Null y r s p q e = absurd p
cell_fronts (Real z) y r s p q e = absurd p
cell_fronts (Int a) Null r s p q e = absurd q
cell_fronts (Int a) (Real z) r s p q e = absurd q
cell_fronts (Text a) Null r s p q e = absurd q
cell_fronts (Text a) (Real z) r s p q e = absurd q
cell_fronts (Blob a) Null r s p q e = absurd q
cell_fronts (Blob a) (Real z) r s p q e = absurd q

cell_bytes-some : (x : Value) (r : List ℕ) → cell_bytes x ++ r ≢ []
unfolding cell_bytes
cell_bytes-some Null r e = cc
cell_bytes-some (Int a) r e = cc
cell_bytes-some (Real a) r e = cc
cell_bytes-some (Text a) r e = cc
cell_bytes-some (Blob a) r e = cc

cells-injective : (xs ys : Row) → AreCells xs → AreCells ys → flat_map cell_bytes xs ≡ flat_map cell_bytes ys → xs ≡ ys
cells-injective [] [] p q e = refl
cells-injective [] (y ∷ ys) p q e = absurd (cell_bytes-some y (flat_map cell_bytes ys) (sym e))
cells-injective (x ∷ xs) [] p q e = absurd (cell_bytes-some x (flat_map cell_bytes xs) e)
cells-injective (x ∷ xs) (y ∷ ys) p q e =
    let parts = cell_fronts x y (flat_map cell_bytes xs) (flat_map cell_bytes ys) p.0 q.0 e in
    let rest = cells-injective xs ys p.1 q.1 parts.1 in
    λ i. parts.0 i ∷ rest i

pub row_bytes-injective : (table : ℕ) (xs ys : Row) → AreCells xs → AreCells ys → row_bytes table xs ≡ row_bytes table ys → xs ≡ ys
row_bytes-injective table xs ys p q e = cells-injective xs ys p q (heads e).1
