-- Keys that begin with another.
use Rattle.std.proofs.Common.{◌≡◌, ◌∙◌, ◌≤◌, ◌+◌, ℕ, suc, true, [], ◌∷◌, ◌++◌, length, take, refl, sym, ap, subst, arith, append_assoc}
use Rattle.std.proofs.lemmas.List.{append-nil, length-append}
use Rattle.std.proofs.lemmas.Slice.Eq.{slice_eq-Decides, bytes_eq-Decides}
use Rattle.std.proofs.Math.Seq.{take-append_seam}
use Rattle.dav_key.specs.Key.{Key}
use Rattle.dav_key.specs.Below.{is_at_or_below}
use Rattle.dav_key.specs.Flat.{flat}
use Rattle.dav_key.specs.FlatLaws.{flat-append}
use Rattle.dav_key.proofs.FlatLemmas.{key_begins}

-- the key is the other one, and then these segments
pub record Begins (key above : Key) : Type 0 where
  pub rest : Key
  pub is : key ≡ above ++ rest

pub begins : (key above : Key) → is_at_or_below key above ≡ true → Begins key above
begins key above below = record { rest = _; is = key_begins key above below }

pub below_of : (key above : Key) → Begins key above → is_at_or_below key above ≡ true
below_of key above b =
    let same : above ≡ take (length above) key = sym (take-append_seam above b.rest) ∙ ap (take (length above)) (sym b.is) in
    (slice_eq-Decides bytes_eq-Decides above (take (length above) key) (is_at_or_below key above) refl).1 same

pub begins-trans : (key mid above : Key) → Begins key mid → Begins mid above → Begins key above
begins-trans key mid above b c = record { rest = c.rest ++ b.rest; is = b.is ∙ ap (λ (k : Key). k ++ b.rest) c.is ∙ append_assoc above c.rest b.rest }

le_of_suc : (n m : ℕ) → suc n ≤ suc m → n ≤ m
le_of_suc n m le = omega (arith, le)

less_by : (l n m whole other : ℕ) → whole ≡ l + n → other ≡ l + m → whole ≤ other → n ≤ m
less_by l n m whole other one two le = omega (arith, one, two, le)

-- of two keys that a key begins with, the longer one begins with the other
shorter : (a r p s : Key) → a ++ r ≡ p ++ s → length (flat a) ≤ length (flat p) → Begins p a
shorter [] r p s same short = record { rest = p; is = refl }
shorter (x ∷ a) r [] s same short = absurd (omega arith)
shorter (x ∷ a) r (y ∷ p) s same short =
    let first : x ≡ y = cc in
    let others : a ++ r ≡ p ++ s = cc in
    let long : length (y ++ flat a) ≤ length (y ++ flat p) = subst (λ z. length (z ++ flat a) ≤ length (y ++ flat p)) first (le_of_suc (length (x ++ flat a)) (length (y ++ flat p)) short) in
    let one = length-append y (flat a) in
    let other = length-append y (flat p) in
    let b = shorter a r p s others (less_by (length y) (length (flat a)) (length (flat p)) (length (y ++ flat a)) (length (y ++ flat p)) one other long) in
    record { rest = b.rest; is = λ i. sym first i ∷ b.is i }

pub longer_begins : (key a p : Key) → Begins key a → Begins key p → length (flat a) ≤ length (flat p) → Begins p a
longer_begins key a p b c short = shorter a b.rest p c.rest (sym b.is ∙ c.is) short

pub flat_le : (key above : Key) → Begins key above → length (flat above) ≤ length (flat key)
flat_le key above b =
    let parts : length (flat key) ≡ length (flat above) + length (flat b.rest) = ap (λ k. length (flat k)) b.is ∙ ap length (flat-append above b.rest) ∙ length-append (flat above) (flat b.rest) in
    omega (arith, parts)

none_left : (p s : Key) → length (flat (p ++ s)) ≤ length (flat p) → s ≡ []
none_left p [] short = refl
none_left p (x ∷ s) short =
    absurd (let parts : length (flat (p ++ x ∷ s)) ≡ length (flat p) + length (flat (x ∷ s)) = ap length (flat-append p (x ∷ s)) ∙ length-append (flat p) (flat (x ∷ s)) in omega (arith, parts, short))

-- a key that is no longer than one that it begins with is that one
pub not_longer : (key p : Key) → Begins key p → length (flat key) ≤ length (flat p) → key ≡ p
not_longer key p b short =
    let none = none_left p b.rest (subst (λ k. length (flat k) ≤ length (flat p)) b.is short) in
    b.is ∙ ap (λ (rest : Key). p ++ rest) none ∙ append-nil p
