-- Headers of batches.
use Rattle.std.proofs.Common.{◌≡◌, ℕ, zero, suc, ◌+◌, ◌<◌, ◌≤◌, Bool, true, false, refl, ap, sym, subst, List, [], ◌∷◌, length, slice_index, take, drop, Some, None, Option, arith}
use Rattle.std.proofs.lemmas.Bool.{and_from, lt-ltb}
use Rattle.std.proofs.lemmas.Option.{same_Some}
use Rattle.std.proofs.lemmas.List.{get_or-drop, length-drop, drop_all, take_all}
use lib.Seq.{drop-drop}
use Rattle.byteorder.specs.Endian.{big_number}
use Rattle.dav_wire.specs.Codec.{and_then, whole, decode}
use Rattle.dav_wire.specs.Parts.{is_byte, starts_with_bytes, if_passes}
use Rattle.dav_wire.specs.Numbers.{number}
use Rattle.dav_wire.specs.Batches.{three_numbers}

-- ---- reads

abbrev AreBytes : List ℕ → Type 0
AreBytes bytes = (i : ℕ) → slice_index bytes i < 256

starts : (n : ℕ) (bytes : List ℕ) → n ≤ length bytes → AreBytes bytes → starts_with_bytes n bytes ≡ true
starts zero bytes h small = refl
starts (suc n) [] h small = absurd (omega arith)
starts (suc n) (b ∷ bytes) h small =
    and_from (is_byte b) (starts_with_bytes n bytes) (lt-ltb b 256 (small 0)) (starts n bytes (omega arith) (λ i. small (suc i)))

after : (n : ℕ) (bytes : List ℕ) → AreBytes bytes → AreBytes (drop n bytes)
after n bytes small i = subst (λ (x : ℕ). x < 256) (sym (get_or-drop n bytes i 0)) (small (n + i))

number_parsed : (bytes : List ℕ) → 8 ≤ length bytes → AreBytes bytes → number.parse bytes ≡ Some (big_number 8 bytes, drop 8 bytes)
unfolding number
number_parsed bytes h small = rw (starts 8 bytes h small) refl

pub three_parsed : (bytes : List ℕ) → length bytes ≡ 24 → ((i : ℕ) → slice_index bytes i < 256) → decode three_numbers bytes ≡ Some (big_number 8 bytes, (big_number 8 (take 16 (drop 8 bytes)), big_number 8 (take 8 (drop 16 bytes))))
three_parsed bytes h small =
    let last : drop 8 (drop 8 bytes) ≡ drop 16 bytes = drop-drop 8 8 bytes in
    let len : length (drop 8 bytes) ≡ 16 = omega (arith, length-drop 8 bytes) in
    let len' : length (drop 16 bytes) ≡ 8 = omega (arith, length-drop 16 bytes) in
    rw (
      take_all 16 (drop 8 bytes) (omega arith),
      take_all 8 (drop 16 bytes) (omega arith),
      number_parsed bytes (omega arith) small,
      number_parsed (drop 8 bytes) (omega arith) (after 8 bytes small),
      last,
      number_parsed (drop 16 bytes) (omega arith) (after 16 bytes small),
      drop_all 8 (drop 16 bytes) (omega arith),
    )
    refl

-- ---- decoded as another type, or only if a test passes

pub whole_as : {A B : Type 0} (to : A → B) (o : Option (A × List ℕ)) (x : A) → whole o ≡ Some x → whole (and_then o (λ y rest. Some (to y, rest))) ≡ Some (to x)
whole_as to None x e = cc
whole_as to (Some (y, [])) x e = ap (λ z. Some (to z)) (same_Some y x e)
whole_as to (Some (y, b ∷ bs)) x e = cc

pub whole_passes : {A : Type 0} (test : A → Bool) (o : Option (A × List ℕ)) (x : A) → whole o ≡ Some x → test x ≡ true → whole (and_then o (if_passes test)) ≡ Some x
whole_passes test None x e ok = cc
whole_passes test (Some (y, [])) x e ok = let same = same_Some y x e in rw (same, ok) refl
whole_passes test (Some (y, b ∷ bs)) x e ok = cc

pub whole_fails : {A : Type 0} (test : A → Bool) (o : Option (A × List ℕ)) (x : A) → whole o ≡ Some x → test x ≡ false → whole (and_then o (if_passes test)) ≡ None
whole_fails test None x e failed = cc
whole_fails test (Some (y, [])) x e failed = let same = same_Some y x e in rw (same, failed) refl
whole_fails test (Some (y, b ∷ bs)) x e failed = cc
