-- Laws of flat texts: on keys whose segments have no NUL, texts compare, join and begin as the keys do.
use Rattle.std.specs.Prelude.{◌≡◌, ℕ, ◌&&◌, List, [], ◌∷◌, ◌++◌, bytes_eq, refl}
use Rattle.std.specs.List.{starts_with}
use Rattle.std.specs.Ordering.{nat_cmp, ordering_then}
use Rattle.std.specs.Cmp.Lexicographic.{slice_cmp}
use Rattle.std.proofs.Common.{sym, ap, ◌∙◌, append_assoc}
use Rattle.std.proofs.lemmas.List.{append-nil}
use Rattle.dav_key.specs.Key.{Key, key_cmp}
use Rattle.dav_key.specs.FlatSteps.{split-flat, segment_cmp, segment_below}
use Rattle.dav_key.specs.Flat.{flat, segments_of, is_text_below, IsFlatKey}

-- the text of two keys, one after the other, is their texts, one after the other

pub flat-append : (k w : Key) → flat (k ++ w) ≡ flat k ++ flat w
flat-append [] w = refl
flat-append (s ∷ k) w = ap (λ t. 0 ∷ s ++ t) (flat-append k w) ∙ sym (append_assoc (0 ∷ s) (flat k) (flat w))

-- a member's text is the text, a NUL and the name

pub flat-push : (k : Key) (s : List ℕ) → flat (k ++ s ∷ []) ≡ flat k ++ 0 ∷ s
flat-push k s = flat-append k (s ∷ []) ∙ ap (λ t. flat k ++ t) (append-nil (0 ∷ s))

-- the segments of a key's text are the key

pub segments_of-flat : (k : Key) → IsFlatKey k → segments_of (flat k) ≡ k
segments_of-flat [] is = refl
segments_of-flat (s ∷ k) is = split-flat s k is.0.no_nul is.1

-- keys with the same text are the same

pub flat-injective : (a b : Key) → IsFlatKey a → IsFlatKey b → flat a ≡ flat b → a ≡ b
flat-injective a b is_a is_b e = sym (segments_of-flat a is_a) ∙ (ap segments_of e ∙ segments_of-flat b is_b)

-- texts compare as keys do: lexicographic by bytes is lexicographic by segments

pub flat_cmp : (a b : Key) → IsFlatKey a → IsFlatKey b → slice_cmp nat_cmp (flat a) (flat b) ≡ key_cmp a b
flat_cmp [] [] is_a is_b = refl
flat_cmp [] (t ∷ b) is_a is_b = refl
flat_cmp (s ∷ a) [] is_a is_b = refl
flat_cmp (s ∷ a) (t ∷ b) is_a is_b =
    segment_cmp s a t b is_a.0.no_nul is_b.0.no_nul ∙ ap (λ o. ordering_then (slice_cmp nat_cmp s t) o) (flat_cmp a b is_a.1 is_b.1)

-- a text is at or below another exactly where the key is

pub flat_below : (a b : Key) → IsFlatKey a → IsFlatKey b → is_text_below (flat a) (flat b) ≡ starts_with bytes_eq a b
flat_below [] [] is_a is_b = refl
flat_below [] (t ∷ b) is_a is_b = refl
flat_below (s ∷ a) [] is_a is_b = refl
flat_below (s ∷ a) (t ∷ b) is_a is_b =
    segment_below s a t b is_a.0.no_nul is_b.0.no_nul ∙ ap (λ below. bytes_eq t s && below) (flat_below a b is_a.1 is_b.1)
