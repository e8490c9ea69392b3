-- The map of a table after parts of a resource are put and removed.
use Rattle.std.proofs.Common.{◌≡◌, ◌≢◌, ◌<◌, ◌≤◌, ◌+◌, ◌-◌, ◌⊎◌, inl, inr, ⊎_elim, ℕ, zero, suc, ℤ, pos, List, [], ◌∷◌, length, false, cond, Some, None, Ordering, Less, Equal, Greater, int_cmp, refl, sym, ap, ◌∙◌, subst, arith}
use Rattle.std.specs.List.{slice_get}
use Rattle.std.proofs.lemmas.Option.{slice_get_past}
use Rattle.std.proofs.lemmas.Bool.{cases_eq, cases_lt}
use Rattle.std.specs.Ordering.{is_eq}
use Rattle.std.specs.Cmp.{tied_itself, int_cmp_total}
use Rattle.std.specs.FinMap.{get, insert, remove, get-insert, get-remove, int_cmp-IsAntisymmetric}
use Rattle.dav_rows.specs.Stored.{Numbered}
use Rattle.dav_store_rows.specs.Parts.{MOST, part_key, HasParts, KeepsOtherParts}
use Rattle.dav_store_rows.specs.Changed.{with_parts, without_parts}
use Rattle.dav_store_rows.specs.Saves.{HasAtMost}

-- ---- keys

same_pos : (a b : ℕ) → pos a ≡ pos b → a ≡ b
same_pos a b e = cc

-- a row is that of one part of one resource
pub part_key-number : (a b i j : ℕ) → i < MOST → j < MOST → part_key a i ≡ part_key b j → a ≡ b
part_key-number a b i j i_low j_low e = let same = same_pos _ _ e in omega arith

pub part_key-index : (a i j : ℕ) → part_key a i ≡ part_key a j → i ≡ j
part_key-index a i j e = let same = same_pos _ _ e in omega arith

other_key : (a b : ℤ) → a ≢ b → is_eq (int_cmp a b) ≡ false
other_key a b apart = go (int_cmp a b) refl
  where
    go : (o : Ordering) → int_cmp a b ≡ o → is_eq o ≡ false
    go Less e = refl
    go Equal e = absurd (apart (int_cmp-IsAntisymmetric a b e))
    go Greater e = refl

module _ {V : Type 0} where
  -- ---- one key

  pub get-insert_same : (m : Numbered V) (k : ℤ) (v : V) → get (insert m k v) k ≡ Some v
  get-insert_same m k v = get-insert int_cmp_total m k v k ∙ ap (λ o. cond (is_eq o) (Some v) (get m k)) (tied_itself int_cmp_total k)

  pub get-insert_other : (m : Numbered V) (k : ℤ) (v : V) (q : ℤ) → q ≢ k → get (insert m k v) q ≡ get m q
  get-insert_other m k v q apart = get-insert int_cmp_total m k v q ∙ ap (λ b. cond b (Some v) (get m q)) (other_key q k apart)

  pub get-remove_same : (m : Numbered V) (k : ℤ) → get (remove m k) k ≡ None
  get-remove_same m k = get-remove int_cmp_total m k k ∙ ap (λ o. cond (is_eq o) None (get m k)) (tied_itself int_cmp_total k)

  pub get-remove_other : (m : Numbered V) (k q : ℤ) → q ≢ k → get (remove m k) q ≡ get m q
  get-remove_other m k q apart = get-remove int_cmp_total m k q ∙ ap (λ b. cond b None (get m q)) (other_key q k apart)

  -- ---- parts that are put

  pub with_parts-other : (number index : ℕ) (parts : List V) (m : Numbered V) (q : ℤ) → ((i : ℕ) → index ≤ i → i < index + length parts → q ≢ part_key number i)
      → get (with_parts number index parts m) q ≡ get m q
  with_parts-other number index [] m q apart = refl
  with_parts-other number index (part ∷ parts) m q apart =
      with_parts-other number (index + 1) parts (insert m (part_key number index) part) q (λ i low high. apart i (omega arith) (omega arith))
      ∙ get-insert_other m (part_key number index) part q (apart index (omega arith) (omega arith))

  pub with_parts-same : (number index : ℕ) (parts : List V) (m : Numbered V) (i j : ℕ) → i ≡ index + j → j < length parts
      → get (with_parts number index parts m) (part_key number i) ≡ slice_get parts j
  with_parts-same number index [] m i j is low = absurd (omega arith)
  with_parts-same number index (part ∷ parts) m i zero is low =
      let first : i ≡ index = omega arith in
      with_parts-other number (index + 1) parts (insert m (part_key number index) part) (part_key number i)
      (λ k from to e. let same = part_key-index number i k e in omega arith)
      ∙ subst (λ k. get (insert m (part_key number index) part) (part_key number k) ≡ Some part) (sym first) (get-insert_same m (part_key number index) part)
  with_parts-same number index (part ∷ parts) m i (suc j) is low =
      with_parts-same number (index + 1) parts (insert m (part_key number index) part) i j (omega arith) (omega arith)

  -- ---- parts that are removed

  pub without_parts-other : (number index count : ℕ) (m : Numbered V) (q : ℤ) → ((i : ℕ) → index ≤ i → i < index + count → q ≢ part_key number i)
      → get (without_parts number index count m) q ≡ get m q
  without_parts-other number index zero m q apart = refl
  without_parts-other number index (suc count) m q apart =
      get-remove_other (without_parts number index count m) (part_key number (index + count)) q (apart (index + count) (omega arith) (omega arith))
      ∙ without_parts-other number index count m q (λ i low high. apart i low (omega arith))

  pub without_parts-same : (number index count : ℕ) (m : Numbered V) (i : ℕ) → index ≤ i → i < index + count → get (without_parts number index count m) (part_key number i) ≡ None
  without_parts-same number index zero m i low high = absurd (omega arith)
  without_parts-same number index (suc count) m i low high =
      ⊎_elim (λ is. last is) (λ apart. get-remove_other (without_parts number index count m) (part_key number (index + count)) (part_key number i) (λ e. apart (part_key-index number i (index + count) e))
      ∙ without_parts-same number index count m i low (let ne : i ≢ index + count = apart in omega arith)) (cases_eq i (index + count))
    where
      last : i ≡ index + count → get (without_parts number index (suc count) m) (part_key number i) ≡ None
      last is = subst (λ k. get (without_parts number index (suc count) m) (part_key number k) ≡ None) (sym is) (get-remove_same (without_parts number index count m) (part_key number (index + count)))

  -- ---- parts put, and the others up to an old count removed

  abbrev pub replaced : ℕ → List V → ℕ → Numbered V → Numbered V
  replaced number parts old m = without_parts number (length parts) (old - length parts) (with_parts number 0 parts m)

  -- what keeps a row of other resources out of reach: the counts are small
  abbrev pub IsSmall : List V → ℕ → Type 0
  IsSmall parts old = (length parts ≤ MOST) × (length parts < old → old ≤ MOST)

  pub replaced-others : (number : ℕ) (parts : List V) (old : ℕ) (m : Numbered V) → IsSmall parts old → KeepsOtherParts number m (replaced number parts old m)
  replaced-others number parts old m (few, old_few) key apart =
      without_parts-other number (length parts) (old - length parts) (with_parts number 0 parts m) key (λ i low high e. apart (i, omega (arith, old_few), e))
      ∙ with_parts-other number 0 parts m key (λ i low high e. apart (i, omega arith, e))

  replaced-rows : (number : ℕ) (parts : List V) (old : ℕ) (m : Numbered V) → IsSmall parts old → HasAtMost m number old
      → (index : ℕ) → index < MOST → get (replaced number parts old m) (part_key number index) ≡ slice_get parts index
  replaced-rows number parts old m small most index low = go (cases_lt index (length parts)) (cases_lt index old)
    where
      removed_none : (index < length parts) ⊎ (old ≤ index) → get (replaced number parts old m) (part_key number index) ≡ get (with_parts number 0 parts m) (part_key number index)
      removed_none out = without_parts-other number (length parts) (old - length parts) (with_parts number 0 parts m) (part_key number index)
          (λ i from to e. let same = part_key-index number index i e in ⊎_elim (λ below. let b = below in omega arith) (λ above. let a = above in omega arith) out)

      go : (index < length parts) ⊎ (length parts ≤ index) → (index < old) ⊎ (old ≤ index) → get (replaced number parts old m) (part_key number index) ≡ slice_get parts index
      go (inl here) _ = removed_none (inl here) ∙ with_parts-same number 0 parts m index index (omega arith) here
      go (inr past) (inl counted) =
          without_parts-same number (length parts) (old - length parts) (with_parts number 0 parts m) index past (omega arith) ∙ sym (slice_get_past parts index past)
      go (inr past) (inr beyond) =
          removed_none (inr beyond)
          ∙ with_parts-other number 0 parts m (part_key number index) (λ i from to e. let same = part_key-index number index i e in omega arith)
          ∙ most index low beyond ∙ sym (slice_get_past parts index past)

  pub replaced-parts : (number : ℕ) (parts : List V) (old : ℕ) (m : Numbered V) → IsSmall parts old → HasAtMost m number old → HasParts (replaced number parts old m) number parts
  replaced-parts number parts old m small most = record { fits = small.0; rows = λ index low. replaced-rows number parts old m small most index low }

  -- the number has at most as many parts as were put
  pub replaced-most : (number : ℕ) (parts : List V) (old : ℕ) (m : Numbered V) → IsSmall parts old → HasAtMost m number old
      → HasAtMost (replaced number parts old m) number (length parts)
  replaced-most number parts old m small most index low past = replaced-rows number parts old m small most index low ∙ slice_get_past parts index past

  -- another number has at most as many parts as before
  pub others_most : (number other count : ℕ) (m n : Numbered V) → other ≢ number → KeepsOtherParts number m n → HasAtMost m other count → HasAtMost n other count
  others_most number other count m n apart kept most index low past =
      kept (part_key other index) (λ (i, i_low, e). apart (part_key-number other number index i low i_low e)) ∙ most index low past
