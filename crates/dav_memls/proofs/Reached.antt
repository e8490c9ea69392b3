-- A key and those above it, gone through by the length of their texts.
use Rattle.std.proofs.Common.{◌≡◌, ◌∙◌, ◌⊎◌, inl, inr, ⊎_elim, ◌==◌, ◌<◌, ℕ, zero, suc, Bool, true, false, ◌&&◌, ◌||◌, List, [], ◌∷◌, refl, sym, ap, ap₂, length, length-append, bytes_eq, nat_lt, arith}
use Rattle.std.proofs.lemmas.Bool.{and_parts, and_from}
use Rattle.std.proofs.lemmas.Bool.Decides.{nat_tests}
use Rattle.std.proofs.lemmas.Slice.Eq.{bytes_eq-Decides}
use Rattle.std.specs.Bool.{Decides}
use Rattle.dav_key.specs.Key.{Key, is_same_key, same_key_decides}
use Rattle.dav_key.specs.Flat.{flat}
use Rattle.dav_store.specs.Locks.{is_at_or_below}
use Rattle.dav_memls.specs.KeyText.{ends_at}

-- the key is the given one or above it, and its text is shorter than this
abbrev pub reached : ℕ → Key → Key → Bool
reached n key above = is_at_or_below key above && nat_lt (length (flat above)) n

turned : {X : Type 0} (a b : Bool) (x y : X) → Decides a (x ≡ y) → Decides b (y ≡ x) → a ≡ b
turned true b x y d e = sym (e.1 (sym (d.0 refl)))
turned false true x y d e = d.1 (sym (e.0 refl))
turned false false x y d e = refl

pub bytes_eq-sym : (s t : List ℕ) → bytes_eq s t ≡ bytes_eq t s
bytes_eq-sym s t = turned _ _ s t (bytes_eq-Decides s t) (bytes_eq-Decides t s)

and_false : (b : Bool) → (b && false) ≡ false
and_false true = refl
and_false false = refl

or_true : (b : Bool) → (b || true) ≡ true
or_true true = refl
or_true false = refl

spread : (a x y : Bool) → (a && (x || y)) ≡ ((a && x) || (a && y))
spread true x y = refl
spread false x y = refl

none_below : (n : ℕ) → nat_lt n zero ≡ false
none_below n = grind (arith, nat_tests)

one_more : (n m : ℕ) → nat_lt n (suc m) ≡ (nat_lt n m || n == m)
one_more n m = grind (arith, nat_tests)

pub is_lower : (n m : ℕ) → n < m → nat_lt n m ≡ true
is_lower n m lt = grind (arith, nat_tests)

-- none at first
pub reached-none : (key above : Key) → reached zero key above ≡ false
reached-none key above = ap (λ b. is_at_or_below key above && b) (none_below (length (flat above))) ∙ and_false (is_at_or_below key above)

-- one more
pub reached-more : (n : ℕ) (key above : Key) → reached (suc n) key above ≡ (reached n key above || ends_at key n above)
reached-more n key above = ap (λ b. is_at_or_below key above && b) (one_more (length (flat above)) n) ∙ spread (is_at_or_below key above) (nat_lt (length (flat above)) n) (length (flat above) == n)

-- those with a shorter text, as far as they are above
pub reached-short : (n : ℕ) (key above : Key) → length (flat above) < n → reached n key above ≡ is_at_or_below key above
reached-short n key above lt = ap (λ b. is_at_or_below key above && b) (is_lower (length (flat above)) n lt) ∙ and_true (is_at_or_below key above)
  where
    and_true : (b : Bool) → (b && true) ≡ b
    and_true true = refl
    and_true false = refl

-- a key above another is that key, or its text is shorter
above_cases : (key above : Key) → is_at_or_below key above ≡ true → (key ≡ above) ⊎ (length (flat above) < length (flat key))
above_cases [] [] e = inl refl
above_cases [] (t ∷ above) e = absurd cc
above_cases (s ∷ key) [] e = inr (omega arith)
above_cases (s ∷ key) (t ∷ above) e =
    let both = and_parts (bytes_eq t s) (is_at_or_below key above) e in
    let same : t ≡ s = (bytes_eq-Decides t s).0 both.0 in
    ⊎_elim
    (λ rest. inl (ap₂ (λ x y. x ∷ y) (sym same) rest))
    (λ lt. inr (omega (arith, lt, length-append s (flat key), length-append t (flat above), ap length same)))
    (above_cases key above both.1)

-- what is reached is the key or above it
pub reached-below : (n : ℕ) (key above : Key) → reached n key above ≡ true → is_at_or_below key above ≡ true
reached-below n key above e = (and_parts (is_at_or_below key above) _ e).0

pub at_itself : (key : Key) → is_at_or_below key key ≡ true
at_itself [] = refl
at_itself (s ∷ key) = and_from _ _ ((bytes_eq-Decides s s).1 refl) (at_itself key)

-- all of them, with the key itself
pub reached-all : (key above : Key) → (reached (length (flat key)) key above || is_same_key key above) ≡ is_at_or_below key above
reached-all key above = split (is_at_or_below key above) refl
  where
    split : (b : Bool) → is_at_or_below key above ≡ b → ((b && nat_lt (length (flat above)) (length (flat key))) || is_same_key key above) ≡ b
    split true e = ⊎_elim
        (λ same. ap (λ b. nat_lt (length (flat above)) (length (flat key)) || b) ((same_key_decides key above).1 same) ∙ or_true (nat_lt (length (flat above)) (length (flat key))))
        (λ lt. ap (λ b. b || is_same_key key above) (is_lower (length (flat above)) (length (flat key)) lt))
        (above_cases key above e)
    split false e = not_same (is_same_key key above) refl
      where
        not_same : (b : Bool) → is_same_key key above ≡ b → b ≡ false
        not_same true same = absurd (let no : true ≡ false = sym (at_itself key) ∙ ap (is_at_or_below key) ((same_key_decides key above).0 same) ∙ e in cc)
        not_same false same = refl
