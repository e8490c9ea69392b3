-- The bytes of a key's text: before each NUL stands the text of the key above that has this length.
use Rattle.std.proofs.Common.{◌≡◌, ◌≢◌, ◌∙◌, ◌⊎◌, inl, inr, ⊎_elim, ◌==◌, ◌<◌, ◌+◌, ◌-◌, ℕ, zero, suc, Bool, true, false, ◌&&◌, List, [], ◌∷◌, ◌++◌, refl, sym, ap, subst, take, get_or, length, length-append, bytes_eq, arith}
use Rattle.std.proofs.Math.Seq.{take-append-add}
use Rattle.std.proofs.lemmas.Bool.{cases_lt}
use Rattle.std.proofs.lemmas.Bool.Decides.{nat_tests}
use Rattle.std.proofs.lemmas.List.{get_or_append_left, get_or-append-add}
use Rattle.std.proofs.lemmas.Slice.Eq.{bytes_eq-Decides}
use Rattle.dav_key.specs.Key.{Key, is_same_key}
use Rattle.dav_key.specs.Flat.{flat, segments_of, IsFlatKey, IsFlatText}
use Rattle.dav_key.specs.FlatLaws.{segments_of-flat}
use Rattle.dav_store.specs.Locks.{is_at_or_below}
use Rattle.dav_memls.specs.KeyText.{ends_at, IsTextOf, IsTextAbove}
use Rattle.dav_memls.proofs.Reached.{bytes_eq-sym}

-- a segment begins at the byte, and before it stands the text of the one key above of this length
pub record BeginsSegment (key : Key) (n : ℕ) : Type 0 where
  pub nul : get_or (flat key) n 0 ≡ 0
  pub before : Key
  pub plain : IsFlatKey before
  pub text : take n (flat key) ≡ flat before
  pub only : (above : Key) → ends_at key n above ≡ is_same_key before above

-- the byte is within a segment, and no key above has this length
pub record IsInSegment (key : Key) (n : ℕ) : Type 0 where
  pub byte : get_or (flat key) n 0 ≢ 0
  pub none : (above : Key) → ends_at key n above ≡ false

-- ---- the length of a key above

and_false : (b : Bool) → (b && false) ≡ false
and_false true = refl
and_false false = refl

not_zero : (n : ℕ) → (suc n == 0) ≡ false
not_zero n = grind (arith, nat_tests)

zero_not : (n : ℕ) → (0 == suc n) ≡ false
zero_not n = grind (arith, nat_tests)

too_long : (x n : ℕ) → n < x → (suc x == suc n) ≡ false
too_long x n lt = grind (arith, nat_tests)

behind : (x y l m : ℕ) → x ≡ l + y → (suc x == suc (l + m)) ≡ (y == m)
behind x y l m e = grind (arith, nat_tests, e)

-- the root's text is empty
root_short : (key : Key) (n : ℕ) → ends_at key (suc n) [] ≡ false
root_short [] n = zero_not n
root_short (s ∷ key) n = zero_not n

-- the first segments are the same
same_length : (s t : List ℕ) (above : Key) → bytes_eq t s ≡ true → length (t ++ flat above) ≡ length s + length (flat above)
same_length s t above e = length-append t (flat above) ∙ ap (λ x. length x + length (flat above)) ((bytes_eq-Decides t s).0 e)

-- the length ends within the first segment
ends_within : (s : List ℕ) (key : Key) (n : ℕ) (t : List ℕ) (above : Key) → n < length s → ends_at (s ∷ key) (suc n) (t ∷ above) ≡ false
ends_within s key n t above lt = split (bytes_eq t s) refl
  where
    split : (b : Bool) → bytes_eq t s ≡ b → ((b && is_at_or_below key above) && (suc (length (t ++ flat above)) == suc n)) ≡ false
    split true e = ap (λ c. is_at_or_below key above && c) (too_long (length (t ++ flat above)) n (omega (arith, same_length s t above e))) ∙ and_false (is_at_or_below key above)
    split false e = refl

-- or behind it
ends_behind : (s : List ℕ) (key : Key) (m : ℕ) (t : List ℕ) (above : Key) → ends_at (s ∷ key) (suc (length s + m)) (t ∷ above) ≡ (bytes_eq s t && ends_at key m above)
ends_behind s key m t above = split (bytes_eq t s) refl ∙ ap (λ b. b && ends_at key m above) (bytes_eq-sym t s)
  where
    split : (b : Bool) → bytes_eq t s ≡ b → ((b && is_at_or_below key above) && (suc (length (t ++ flat above)) == suc (length s + m))) ≡ (b && ends_at key m above)
    split true e = ap (λ c. is_at_or_below key above && c) (behind (length (t ++ flat above)) (length (flat above)) (length s) m (same_length s t above e))
    split false e = refl

-- ---- each byte

begins_first : (s : List ℕ) (key : Key) → BeginsSegment (s ∷ key) 0
begins_first s key = record { nul = refl; before = []; plain = tt; text = refl; only = only }
  where
    only : (above : Key) → ends_at (s ∷ key) 0 above ≡ is_same_key [] above
    only [] = refl
    only (t ∷ above) = ap (λ b. is_at_or_below (s ∷ key) (t ∷ above) && b) (not_zero (length (t ++ flat above))) ∙ and_false (is_at_or_below (s ∷ key) (t ∷ above))

in_first : (s : List ℕ) (key : Key) (n : ℕ) → IsFlatKey (s ∷ key) → n < length s → IsInSegment (s ∷ key) (suc n)
in_first s key n is lt = record { byte = λ e. is.0.no_nul n 0 lt (sym (get_or_append_left s (flat key) 0 n lt) ∙ e); none = none }
  where
    none : (above : Key) → ends_at (s ∷ key) (suc n) above ≡ false
    none [] = root_short (s ∷ key) n
    none (t ∷ above) = ends_within s key n t above lt

begins_behind : (s : List ℕ) (key : Key) (m : ℕ) → IsFlatKey (s ∷ key) → BeginsSegment key m → BeginsSegment (s ∷ key) (suc (length s + m))
begins_behind s key m is begins = record {
  nul = get_or-append-add s (flat key) m 0 ∙ begins.nul;
  before = s ∷ begins.before;
  plain = (is.0, begins.plain);
  text = ap (λ xs. 0 ∷ xs) (take-append-add s (flat key) m ∙ ap (λ xs. s ++ xs) begins.text);
  only = only;
}
  where
    only : (above : Key) → ends_at (s ∷ key) (suc (length s + m)) above ≡ is_same_key (s ∷ begins.before) above
    only [] = root_short (s ∷ key) (length s + m)
    only (t ∷ above) = ends_behind s key m t above ∙ ap (λ b. bytes_eq s t && b) (begins.only above)

in_behind : (s : List ℕ) (key : Key) (m : ℕ) → IsInSegment key m → IsInSegment (s ∷ key) (suc (length s + m))
in_behind s key m in_ = record { byte = λ e. in_.byte (sym (get_or-append-add s (flat key) m 0) ∙ e); none = none }
  where
    none : (above : Key) → ends_at (s ∷ key) (suc (length s + m)) above ≡ false
    none [] = root_short (s ∷ key) (length s + m)
    none (t ∷ above) = ends_behind s key m t above ∙ ap (λ b. bytes_eq s t && b) (in_.none above) ∙ and_false (bytes_eq s t)

-- behind the first segment as without it
behind_first : (s : List ℕ) (key : Key) (n m : ℕ) → IsFlatKey (s ∷ key) → n ≡ length s + m → BeginsSegment key m ⊎ IsInSegment key m → BeginsSegment (s ∷ key) (suc n) ⊎ IsInSegment (s ∷ key) (suc n)
behind_first s key n m is e rest =
    subst (λ k. BeginsSegment (s ∷ key) (suc k) ⊎ IsInSegment (s ∷ key) (suc k)) (sym e)
    (⊎_elim (λ begins. inl (begins_behind s key m is begins)) (λ in_. inr (in_behind s key m in_)) rest)

-- at each byte of a text one of the two holds
pub at_byte : (key : Key) (n : ℕ) → IsFlatKey key → n < length (flat key) → BeginsSegment key n ⊎ IsInSegment key n
at_byte [] n is lt = absurd (omega (arith, lt))
at_byte (s ∷ key) zero is lt = inl (begins_first s key)
at_byte (s ∷ key) (suc n) is lt =
    ⊎_elim
    (λ first. inr (in_first s key n is first))
    (λ rest. behind_first s key n (n - length s) is (omega (arith, rest)) (at_byte key (n - length s) is.1 (omega (arith, lt, rest, length-append s (flat key)))))
    (cases_lt n (length s))

-- ---- a text

-- what stands before a NUL
pub text_above : (text : List ℕ) (n : ℕ) → IsFlatText text → n < length text → get_or text n 0 ≡ 0 → IsTextAbove (segments_of text) n (take n text)
text_above text n is lt nul = ⊎_elim found (λ in_. absurd (in_.byte (ap (λ t. get_or t n 0) is.same ∙ nul))) (at_byte (segments_of text) n is.plain (subst (λ t. n < length t) (sym is.same) lt))
  where
    found : BeginsSegment (segments_of text) n → IsTextAbove (segments_of text) n (take n text)
    found begins =
        let taken : take n text ≡ flat begins.before = ap (take n) (sym is.same) ∙ begins.text in
        let key : segments_of (take n text) ≡ begins.before = ap segments_of taken ∙ segments_of-flat begins.before begins.plain in
        record {
          is_flat = record { plain = subst IsFlatKey (sym key) begins.plain; same = ap flat key ∙ sym taken };
          only = λ above. begins.only above ∙ ap (λ k. is_same_key k above) (sym key);
        }

-- no key above ends at another byte
pub none_above : (text : List ℕ) (n : ℕ) → IsFlatText text → n < length text → get_or text n 0 ≢ 0 → (above : Key) → ends_at (segments_of text) n above ≡ false
none_above text n is lt byte = ⊎_elim (λ begins. absurd (byte (sym (ap (λ t. get_or t n 0) is.same) ∙ begins.nul))) (λ in_. in_.none) (at_byte (segments_of text) n is.plain (subst (λ t. n < length t) (sym is.same) lt))

-- ---- the text of a key

-- what `as_str` of a key ensures is that the text is that of the key
pub text_of : (text : List ℕ) (own key : Key) → text ≡ flat own → IsFlatKey own → own ≡ key → IsTextOf key text
text_of text own key written plain same =
    let key_is : segments_of text ≡ own = ap segments_of written ∙ segments_of-flat own plain in
    record {
      is_flat = record { plain = subst IsFlatKey (sym key_is) plain; same = ap flat key_is ∙ sym written };
      key_is = key_is ∙ same;
    }

-- its length
pub text_length : (text : List ℕ) (key : Key) → IsTextOf key text → length text ≡ length (flat key)
text_length text key of = ap length (sym of.is_flat.same ∙ ap flat of.key_is)
