-- Keys at or below another key.
use Rattle.std.proofs.Common.{ℕ, ◌≡◌, ◌≢◌, ◌&&◌, ◌⊎◌, inl, inr, Bool, true, false, bytes_eq, List, [], ◌∷◌, ◌++◌, Option, Some, None, if◌then◌else◌, refl, sym, ap, ◌∙◌, append_assoc}
use Rattle.std.proofs.lemmas.List.{append-nil, append_cancel_left}
use Rattle.std.specs.Cmp.Lexicographic.{bytes_decides}
use Rattle.dav_key.specs.Key.{Key}
use Rattle.dav_key.specs.Below.{is_at_or_below, AreApart}
use Rattle.dav_nodes.proofs.KeyMaps.{same_above, same_last}

-- what is left of a key below another one (`stripped`), segment by segment
abbrev pub strip : Key → Key → Option Key
strip [] key = Some key
strip (segment ∷ above) [] = None
strip (segment ∷ above) (first ∷ key) = if bytes_eq segment first then strip above key else None

-- ---- at or below

-- a key that continues another one is at or below it
pub below-append : (above x : Key) → is_at_or_below (above ++ x) above ≡ true
below-append [] x = refl
below-append (s ∷ above) x = ap (λ b. b && is_at_or_below (above ++ x) above) ((bytes_decides s s).1 refl) ∙ below-append above x

-- a key that is not at or below another is none that continues it
pub not_below : (above q x : Key) → is_at_or_below q above ≡ false → q ≢ above ++ x
not_below above q x out e = absurd (let both : true ≡ false = sym (below-append above x) ∙ ap (λ k. is_at_or_below k above) (sym e) ∙ out in cc)

meets : (a b x y : Key) → a ++ x ≡ b ++ y → is_at_or_below a b ≡ false → is_at_or_below b a ≡ false → ⊥
meets [] b x y e p q = absurd cc
meets (s ∷ a) [] x y e p q = absurd cc
meets (s ∷ a) (t ∷ b) x y e p q =
    let same : s ≡ t = cc in
    let rest : a ++ x ≡ b ++ y = cc in
    meets a b x y rest (sym (ap (λ c. c && is_at_or_below a b) ((bytes_decides t s).1 (sym same))) ∙ p) (sym (ap (λ c. c && is_at_or_below b a) ((bytes_decides s t).1 same)) ∙ q)

-- no key is at or below both
pub apart_below : (a b x y : Key) → AreApart a b → a ++ x ≢ b ++ y
apart_below a b x y apart e = meets a b x y e apart.one_other apart.other_one

-- ---- what follows a key

pub strip-append : (above x : Key) → strip above (above ++ x) ≡ Some x
strip-append [] x = refl
strip-append (s ∷ above) x = ap (λ b. if b then strip above (above ++ x) else None) ((bytes_decides s s).1 refl) ∙ strip-append above x

picked : (b : Bool) (o : Option Key) (x : Key) → (if b then o else None) ≡ Some x → (b ≡ true) × (o ≡ Some x)
picked true o x e = (refl, e)
picked false o x e = absurd cc

pub strip_is : (above key x : Key) → strip above key ≡ Some x → key ≡ above ++ x
strip_is [] key x e = cc
strip_is (s ∷ above) [] x e = absurd cc
strip_is (s ∷ above) (f ∷ key) x e =
    let q = picked (bytes_eq s f) (strip above key) x e in
    let same : s ≡ f = (bytes_decides s f).0 q.0 in
    let rest : key ≡ above ++ x = strip_is above key x q.1 in
    λ i. sym same i ∷ rest i

pub strip_none : (above key x : Key) → strip above key ≡ None → key ≢ above ++ x
strip_none above key x none e = absurd (let both : None ≡ Some x = sym none ∙ ap (strip above) e ∙ strip-append above x in cc)

-- a key continues another one, or is not at or below it
pub below_or_not : (above key : Key) → ((x : Key) × (key ≡ above ++ x)) ⊎ (is_at_or_below key above ≡ false)
below_or_not [] key = inl (key, refl)
below_or_not (s ∷ above) [] = inr refl
below_or_not (s ∷ above) (f ∷ key) = first (bytes_eq s f) refl (below_or_not above key)
  where
    first : (b : Bool) → bytes_eq s f ≡ b → ((x : Key) × (key ≡ above ++ x)) ⊎ (is_at_or_below key above ≡ false) → ((x : Key) × (f ∷ key ≡ (s ∷ above) ++ x)) ⊎ (is_at_or_below (f ∷ key) (s ∷ above) ≡ false)
    first false e rest = inr (ap (λ b. b && is_at_or_below key above) e)
    first true e rest = elim rest [
      | inl more ↦ inl (more.0, λ i. sym ((bytes_decides s f).0 e) i ∷ more.1 i)
      | inr out ↦ inr (ap (λ b. b && is_at_or_below key above) e ∙ out)
    ]

-- a key that is not at or below another is not so with one segment less
pub not_below_above : (above key : Key) (s : List ℕ) → is_at_or_below (key ++ s ∷ []) above ≡ false → is_at_or_below key above ≡ false
not_below_above above key s out = elim (below_or_not above key) [
  | inl more ↦ absurd (not_below above (key ++ s ∷ []) (more.0 ++ s ∷ []) out (ap (λ k. k ++ s ∷ []) more.1 ∙ append_assoc above more.0 (s ∷ [])))
  | inr not ↦ not
]

-- ---- a continuation is empty, or has a last segment

pub split_or_none : (x : Key) → (x ≡ []) ⊎ ((y : Key) × (s : List ℕ) × (x ≡ y ++ s ∷ []))
split_or_none [] = inl refl
split_or_none (t ∷ x) = inr (elim (split_or_none x) [
  | inl none ↦ ([], t, ap (λ k. t ∷ k) none)
  | inr last ↦ (t ∷ last.0, last.1, ap (λ k. t ∷ k) last.2)
])

-- what a key with a last segment continues is that key, or what is above it continues it too
pub member_below : (above key x : Key) (s : List ℕ) → key ++ s ∷ [] ≡ above ++ x → (key ++ s ∷ [] ≡ above) ⊎ ((y : Key) × (x ≡ y ++ s ∷ []) × (key ≡ above ++ y))
member_below above key x s e = elim (split_or_none x) [
  | inl none ↦ inl (e ∙ ap (λ k. above ++ k) none ∙ append-nil above)
  | inr last ↦
      let whole : key ++ s ∷ [] ≡ (above ++ last.0) ++ last.1 ∷ [] = e ∙ ap (λ k. above ++ k) last.2 ∙ sym (append_assoc above last.0 (last.1 ∷ [])) in
      inr (last.0, last.2 ∙ ap (λ t. last.0 ++ t ∷ []) (sym (same_last key (above ++ last.0) s last.1 whole)), same_above key (above ++ last.0) s last.1 whole)
]

pub same_below : (above x y : Key) → above ++ x ≡ above ++ y → x ≡ y
same_below above x y e = append_cancel_left above x y e
