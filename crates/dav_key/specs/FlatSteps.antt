-- Steps of the laws of flat texts: one segment before the text of a key.
use Rattle.std.specs.Prelude.{◌≡◌, ℕ, suc, ◌≢◌, Bool, true, false, ◌&&◌, ◌==◌, List, [], ◌∷◌, ◌++◌, bytes_eq, All, refl}
use Rattle.std.specs.List.{slice_split}
use Rattle.std.specs.declared.cmp.Ordering.{Ordering}
use Rattle.std.specs.declared.cmp.Ordering.TheVariants.{Less, Equal, Greater}
use Rattle.std.specs.Ordering.{nat_cmp, ordering_then}
use Rattle.std.specs.Cmp.Lexicographic.{slice_cmp}
use Rattle.std.proofs.Common.{sym, ap, ◌∙◌, arith}
use Rattle.std.proofs.lemmas.List.{append-nil}
use Rattle.std.proofs.lemmas.List.Splits.{slice_split_none, slice_split_at}
use Rattle.std.proofs.lemmas.Bool.{ne_eqb}
use Rattle.std.proofs.lemmas.Bool.Decides.{nat_tests}
use Rattle.dav_key.specs.Key.{Key}
use Rattle.dav_key.specs.Flat.{flat, is_nul, is_text_below, IsFlatKey}

-- ---- a segment has no NUL

is_not_nul : (b : ℕ) → b ≢ 0 → is_nul b ≡ false
is_not_nul b apart = ne_eqb b 0 apart

first_apart : (x : ℕ) (s : List ℕ) → All (λ b. b ≢ 0) (x ∷ s) → x ≢ 0
first_apart x s apart = apart 0 0 (omega arith)

others_apart : (x : ℕ) (s : List ℕ) → All (λ b. b ≢ 0) (x ∷ s) → All (λ b. b ≢ 0) s
others_apart x s apart = λ k d lt. apart (suc k) d (omega arith)

none_is_nul : (s : List ℕ) → All (λ b. b ≢ 0) s → All (λ b. is_nul b ≡ false) s
none_is_nul s apart = λ k d lt. is_not_nul _ (apart k d lt)

-- the text after a NUL is cut at its NULs into the segment and the key
pub split-flat : (s : List ℕ) (k : Key) → All (λ b. b ≢ 0) s → IsFlatKey k → slice_split is_nul (s ++ flat k) ≡ s ∷ k
split-flat s [] here is = rw append-nil (slice_split_none is_nul s (none_is_nul s here))
split-flat s (t ∷ k) here is =
    slice_split_at is_nul s 0 (t ++ flat k) (none_is_nul s here) refl ∙ ap (λ parts. s ∷ parts) (split-flat t k is.0.no_nul is.1)

-- ---- order

less : (y : ℕ) → y ≢ 0 → nat_cmp 0 y ≡ Less
less y apart = grind (arith, nat_tests)

greater : (x : ℕ) → x ≢ 0 → nat_cmp x 0 ≡ Greater
greater x apart = grind (arith, nat_tests)

then-assoc : (o p q : Ordering) → ordering_then o (ordering_then p q) ≡ ordering_then (ordering_then o p) q
then-assoc Less p q = refl
then-assoc Equal p q = refl
then-assoc Greater p q = refl

-- the first segments are compared first
pub segment_cmp : (s : List ℕ) (a : Key) (t : List ℕ) (b : Key) → All (λ x. x ≢ 0) s → All (λ x. x ≢ 0) t → slice_cmp nat_cmp (s ++ flat a) (t ++ flat b) ≡ ordering_then (slice_cmp nat_cmp s t) (slice_cmp nat_cmp (flat a) (flat b))
segment_cmp [] a [] b here there = refl
segment_cmp [] [] (y ∷ t) b here there = refl
segment_cmp [] (s ∷ a) (y ∷ t) b here there =
    ap (λ o. ordering_then o (slice_cmp nat_cmp (s ++ flat a) (t ++ flat b))) (less y (first_apart y t there))
segment_cmp (x ∷ s) a [] [] here there = refl
segment_cmp (x ∷ s) a [] (t ∷ b) here there =
    ap (λ o. ordering_then o (slice_cmp nat_cmp (s ++ flat a) (t ++ flat b))) (greater x (first_apart x s here))
segment_cmp (x ∷ s) a (y ∷ t) b here there =
    ap (λ o. ordering_then (nat_cmp x y) o) (segment_cmp s a t b (others_apart x s here) (others_apart y t there))
    ∙ then-assoc (nat_cmp x y) (slice_cmp nat_cmp s t) (slice_cmp nat_cmp (flat a) (flat b))

-- ---- at or below

and_both : (n p e q r : Bool) → (p && e) ≡ (q && r) → ((n && p) && e) ≡ ((n && q) && r)
and_both true p e q r h = h
and_both false p e q r h = refl

-- the first segments are the same, and the rest is at or below the other's rest
pub segment_below : (s : List ℕ) (a : Key) (t : List ℕ) (b : Key) → All (λ x. x ≢ 0) s → All (λ x. x ≢ 0) t → is_text_below (s ++ flat a) (t ++ flat b) ≡ (bytes_eq t s && is_text_below (flat a) (flat b))
segment_below [] a [] b here there = refl
segment_below [] [] (y ∷ t) b here there = refl
segment_below [] (s ∷ a) (y ∷ t) b here there = rw (ne_eqb y 0 (first_apart y t there))
segment_below (x ∷ s) a [] [] here there = is_not_nul x (first_apart x s here)
segment_below (x ∷ s) a [] (t ∷ b) here there = rw (ne_eqb 0 x (λ e. first_apart x s here (sym e)))
segment_below (x ∷ s) a (y ∷ t) b here there =
    and_both (y == x) _ _ _ _ (segment_below s a t b (others_apart x s here) (others_apart y t there))
