-- Parts of flat texts.
use Rattle.std.proofs.Common.{Bor, ◌≡◌, ◌≢◌, ℕ, zero, suc, ◌<◌, ◌≤◌, ◌-◌, ◌+◌, List, [], ◌∷◌, ◌++◌, Bool, true, Result, Ok, Err, length, take, drop, get_or, Option, Some, None, ◌⊎◌, inl, inr, refl, sym, ap, ◌∙◌, subst, arith}
use Rattle.std.specs.Prelude.{All, bytes_eq}
use Rattle.std.specs.List.{starts_with}
use Rattle.std.specs.Option.{MatchOption, IfSome, unwrap_or}
use Rattle.std.specs.Result.{OnOk, OnErr}
use Rattle.std.specs.Str.{IsCharBoundary}
use Rattle.std.proofs.lemmas.List.{append-nil, length-append}
use Rattle.std.proofs.lemmas.Str.{IsCharBoundary-end, IsCharBoundary-before_ascii}
use Rattle.std.proofs.Math.Seq.{take-append_seam, drop-append_seam}
use Rattle.std.proofs.lemmas.Bool.{cases_lt}
use Rattle.std.proofs.lemmas.List.{take-append-drop}
use Rattle.std.proofs.lemmas.List.Prefix.{front_reads}
use Rattle.std.proofs.lemmas.Slice.Eq.{slice_eq-Decides, bytes_eq-Decides}
use Rattle.dav_key.specs.Key.{Key, parent}
use Rattle.dav_key.specs.Flat.{flat, segments_of, length_above, IsFlatSegment, IsFlatKey, IsFlatText}
use Rattle.dav_key.specs.FlatLaws.{flat-append, flat-push, segments_of-flat, flat-injective}

-- ---- keys of such segments

pub IsFlatKey-append : (a b : Key) → IsFlatKey a → IsFlatKey b → IsFlatKey (a ++ b)
IsFlatKey-append [] b first last = last
IsFlatKey-append (s ∷ a) b first last = (first.0, IsFlatKey-append a b first.1 last)

pub IsFlatKey-push : (key : Key) (s : List ℕ) → IsFlatKey key → IsFlatSegment s → IsFlatKey (key ++ s ∷ [])
IsFlatKey-push key s is here = IsFlatKey-append key (s ∷ []) is (here, tt)

pub IsFlatKey-take : (n : ℕ) (key : Key) → IsFlatKey key → IsFlatKey (take n key)
IsFlatKey-take zero key is = tt
IsFlatKey-take (suc n) [] is = tt
IsFlatKey-take (suc n) (s ∷ key) is = (is.0, IsFlatKey-take n key is.1)

pub IsFlatKey-drop : (n : ℕ) (key : Key) → IsFlatKey key → IsFlatKey (drop n key)
IsFlatKey-drop zero key is = is
IsFlatKey-drop (suc n) [] is = tt
IsFlatKey-drop (suc n) (s ∷ key) is = IsFlatKey-drop n key is.1

pub IsFlatKey-last : (a : Key) (s : List ℕ) → IsFlatKey (a ++ s ∷ []) → IsFlatSegment s
IsFlatKey-last [] s is = is.0
IsFlatKey-last (t ∷ a) s is = IsFlatKey-last a s is.1

pub IsFlatKey-parent : (key : Key) → IsFlatKey key → IsFlatKey (parent key)
IsFlatKey-parent key is = IsFlatKey-take (length key - 1) key is

-- ---- the last segment

pub parent-push : (key : Key) (s : List ℕ) → parent (key ++ s ∷ []) ≡ key
parent-push key s =
    let e : length (key ++ s ∷ []) - 1 ≡ length key = omega (arith, length-append key (s ∷ [])) in
    ap (λ n. take n (key ++ s ∷ [])) e ∙ take-append_seam key (s ∷ [])

split_last : (s : List ℕ) (key : Key) → (a : Key) × (t : List ℕ) × (s ∷ key ≡ a ++ t ∷ [])
split_last s [] = ([], s, refl)
split_last s (t ∷ key) = let rest = split_last t key in (s ∷ rest.0, rest.1, ap (λ k. s ∷ k) rest.2)

-- a key is the root, or its parent and a last segment
pub key_cases : (key : Key) → (key ≡ []) ⊎ ((s : List ℕ) × (key ≡ parent key ++ s ∷ []))
key_cases [] = inl refl
key_cases (s ∷ key) =
    let last = split_last s key in
    let above : parent (s ∷ key) ≡ last.0 = ap parent last.2 ∙ parent-push last.0 last.1 in
    inr (last.1, last.2 ∙ ap (λ k. k ++ last.1 ∷ []) (sym above))

-- ---- texts that are those of keys

pub segments_of-text : (text : List ℕ) (key : Key) → IsFlatKey key → text ≡ flat key → segments_of text ≡ key
segments_of-text text key is e = ap segments_of e ∙ segments_of-flat key is

pub IsFlatText-text : (text : List ℕ) (key : Key) → IsFlatKey key → text ≡ flat key → IsFlatText text
IsFlatText-text text key is e =
    let same = segments_of-text text key is e in
    record { plain = subst IsFlatKey (sym same) is; same = ap flat same ∙ sym e }

pub length_above-push : (key : Key) (s : List ℕ) → length_above (key ++ s ∷ []) ≡ length (flat key)
length_above-push key s = ap (λ k. length (flat k)) (parent-push key s)

-- a text is empty, or that of the parent, a NUL, and the last segment
pub record HasParts (text s : List ℕ) : Type 0 where
  pub key : segments_of text ≡ parent (segments_of text) ++ s ∷ []
  pub text_is : text ≡ flat (parent (segments_of text)) ++ 0 ∷ s
  pub no_nul : All (λ b. b ≢ 0) s

pub text_cases : (text : List ℕ) → IsFlatText text → ((segments_of text ≡ []) × (text ≡ [])) ⊎ ((s : List ℕ) × HasParts text s)
text_cases text is =
    elim (key_cases (segments_of text)) [
      | inl root ↦ inl (root, sym is.same ∙ ap flat root)
      | inr last ↦
          let above = parent (segments_of text) in
          let plain : IsFlatKey (above ++ last.0 ∷ []) = subst IsFlatKey last.1 is.plain in
          inr (
            last.0,
            record {
              key = last.1;
              text_is = sym is.same ∙ (ap flat last.1 ∙ flat-push above last.0);
              no_nul = (IsFlatKey-last above last.0 plain).no_nul;
            },
          )
    ]

-- where the last segment begins
nul_at_seam : (xs s : List ℕ) → get_or (xs ++ 0 ∷ s) (length xs) 0 ≡ 0
nul_at_seam [] s = refl
nul_at_seam (x ∷ xs) s = nul_at_seam xs s

after_seam : (xs s : List ℕ) (i : ℕ) → get_or (xs ++ 0 ∷ s) (length xs + suc i) 0 ≡ get_or s i 0
after_seam [] s i = let e : 0 + suc i ≡ suc i = omega arith in ap (λ n. get_or (0 ∷ s) n 0) e
after_seam (x ∷ xs) s i =
    let e : suc (length xs) + suc i ≡ suc (length xs + suc i) = omega arith in
    ap (λ n. get_or (x ∷ xs ++ 0 ∷ s) n 0) e ∙ after_seam xs s i

seam_in_text : (xs s : List ℕ) → length xs < length (xs ++ 0 ∷ s)
seam_in_text xs s = omega (arith, length-append xs (0 ∷ s))

boundary_at_seam : (xs s : List ℕ) → IsCharBoundary (xs ++ 0 ∷ s) (length xs)
boundary_at_seam xs s =
    let small : get_or (xs ++ 0 ∷ s) (length xs) 0 < 128 = rw (nul_at_seam xs s) (omega arith) in
    IsCharBoundary-before_ascii (xs ++ 0 ∷ s) (length xs) (seam_in_text xs s) small

pub IsCharBoundary-above : (text : List ℕ) → IsFlatText text → IsCharBoundary text (length_above (segments_of text))
IsCharBoundary-above text is =
    elim (text_cases text is) [
      | inl root ↦
          let none : length_above (segments_of text) ≡ length text = ap length_above root.0 ∙ sym (ap length root.1) in
          rw none (IsCharBoundary-end text)
      | inr last ↦
          let above = flat (parent (segments_of text)) in
          subst (λ t. IsCharBoundary t (length above)) (sym last.1.text_is) (boundary_at_seam above last.0)
    ]

pub take-above : (text : List ℕ) → IsFlatText text → take (length_above (segments_of text)) text ≡ flat (parent (segments_of text))
take-above text is =
    elim (text_cases text is) [
      | inl root ↦ ap (λ k. take (length_above k) text) root.0 ∙ sym (ap (λ k. flat (parent k)) root.0)
      | inr last ↦
          let above = flat (parent (segments_of text)) in
          ap (λ t. take (length above) t) last.1.text_is ∙ take-append_seam above (0 ∷ last.0)
    ]

drop-above : (text s : List ℕ) → HasParts text s → drop (length_above (segments_of text)) text ≡ 0 ∷ s
drop-above text s has =
    let above = flat (parent (segments_of text)) in
    ap (λ t. drop (length above) t) has.text_is ∙ drop-append_seam above (0 ∷ s)

-- what follows the parent's text is a NUL and the last segment, or nothing at the root
pub name_after_above : (text rest : List ℕ) (r : Option (Bor (List ℕ))) → IsFlatText text → rest ≡ drop (length_above (segments_of text)) text → MatchOption r ((name : List ℕ) → rest ≢ 0 ∷ name) (λ name. rest ≡ 0 ∷ name.now) → MatchOption r (segments_of text ≡ []) (λ name. segments_of text ≡ parent (segments_of text) ++ name.now ∷ [])
name_after_above text rest None is e h =
    elim (text_cases text is) [
      | inl root ↦ root.0
      | inr last ↦ absurd (h last.0 (e ∙ drop-above text last.0 last.1))
    ]
name_after_above text rest (Some name) is e h =
    elim (text_cases text is) [
      | inl root ↦ let none : drop (length_above (segments_of text)) text ≡ [] = rw (root.0, root.1) refl in absurd (cc)
      | inr last ↦ let found = e ∙ drop-above text last.0 last.1 in let same : last.0 ≡ name.now = cc in subst (λ s. segments_of text ≡ parent (segments_of text) ++ s ∷ []) same last.1.key
    ]

last_is_segment : (key above : Key) (s : List ℕ) → IsFlatKey key → key ≡ above ++ s ∷ [] → IsFlatSegment s
last_is_segment key above s is e = IsFlatKey-last above s (subst IsFlatKey e is)

pub name_is_segment : (key : Key) (r : Option (Bor (List ℕ))) → IsFlatKey key → MatchOption r (key ≡ []) (λ name. key ≡ parent key ++ name.now ∷ []) → IfSome r (λ name. IsFlatSegment name.now)
name_is_segment key None is h = tt
name_is_segment key (Some name) is h = last_is_segment key (parent key) name.now is h

in_text : (text s : List ℕ) → HasParts text s → length_above (segments_of text) < length text
in_text text s has =
    let above = flat (parent (segments_of text)) in
    subst (λ t. length above < length t) (sym has.text_is) (seam_in_text above s)

nul_above : (text s : List ℕ) → HasParts text s → get_or text (length_above (segments_of text)) 0 ≡ 0
nul_above text s has =
    let above = flat (parent (segments_of text)) in
    ap (λ t. get_or t (length above) 0) has.text_is ∙ nul_at_seam above s

no_nul_after : (text s : List ℕ) → HasParts text s → (i : ℕ) → length_above (segments_of text) + suc i < length text → get_or text (length_above (segments_of text) + suc i) 0 ≢ 0
no_nul_after text s has i lt e =
    let above = flat (parent (segments_of text)) in
    let fits : i < length s = omega (arith, length-append above (0 ∷ s), ap length has.text_is) in
    has.no_nul i 0 fits (sym (ap (λ t. get_or t (length above + suc i) 0) has.text_is ∙ after_seam above s i) ∙ e)

only_nul : (text s : List ℕ) → HasParts text s → (k : ℕ) → k < length text → get_or text k 0 ≡ 0 → ((i : ℕ) → k < i → i < length text → get_or text i 0 ≢ 0) → k ≡ length_above (segments_of text)
only_nul text s has k lt here later =
    let n = length_above (segments_of text) in
    elim (cases_lt k n) [
      | inl before ↦ absurd (later n before (in_text text s has) (nul_above text s has))
      | inr from ↦
          elim (cases_lt n k) [
            | inl after ↦
                let e : n + suc (k - suc n) ≡ k = omega arith in
                let fits : n + suc (k - suc n) < length text = omega arith in
                absurd (no_nul_after text s has (k - suc n) fits (ap (λ i. get_or text i 0) e ∙ here))
            | inr upto ↦ omega arith
          ]
    ]

-- the last NUL is where the parent's text ends
pub last_nul : (text : List ℕ) (r : Option ℕ) → IsFlatText text → MatchOption r ((i : ℕ) → i < length text → get_or text i 0 ≢ 0) (λ k. (k < length text) × (get_or text k 0 ≡ 0) × ((i : ℕ) → k < i → i < length text → get_or text i 0 ≢ 0)) → unwrap_or r 0 ≡ length_above (segments_of text)
last_nul text None is h =
    elim (text_cases text is) [
      | inl root ↦ sym (ap length_above root.0)
      | inr last ↦ absurd (h (length_above (segments_of text)) (in_text text last.0 last.1) (nul_above text last.0 last.1))
    ]
last_nul text (Some k) is h =
    elim (text_cases text is) [
      | inl root ↦ let none : length text ≡ 0 = ap length root.1 in absurd (omega (arith, h.0))
      | inr last ↦ only_nul text last.0 last.1 k h.0 h.1 h.2
    ]

-- ---- what a function writes: the text of a key, and where its parent's text ends

pub record IsTextOf (text : List ℕ) (key : Key) : Type 0 where
  pub is_flat : IsFlatText text
  pub key_is : segments_of text ≡ key

pub IsTextOf-flat : (text : List ℕ) (key : Key) → IsFlatKey key → text ≡ flat key → IsTextOf text key
IsTextOf-flat text key is e = record { is_flat = IsFlatText-text text key is e; key_is = segments_of-text text key is e }

-- the text of a key, a NUL and a segment
pub IsTextOf-child : (key : Key) (s above text : List ℕ) → IsFlatKey key → IsFlatSegment s → above ≡ flat key → text ≡ above ++ 0 ∷ s → IsTextOf text (key ++ s ∷ [])
IsTextOf-child key s above text is here same e =
    IsTextOf-flat text (key ++ s ∷ []) (IsFlatKey-push key s is here) (e ∙ (ap (λ t. t ++ 0 ∷ s) same ∙ sym (flat-push key s)))

pub length_above-child : (key : Key) (s above text : List ℕ) → IsFlatKey key → IsFlatSegment s → above ≡ flat key → text ≡ above ++ 0 ∷ s → length (flat key) ≡ length_above (segments_of text)
length_above-child key s above text is here same e =
    sym (ap length_above (IsTextOf-child key s above text is here same e).key_is ∙ length_above-push key s)

-- ---- keys that begin with another

pub key_begins : (key prefix : Key) → starts_with bytes_eq key prefix ≡ true → key ≡ prefix ++ drop (length prefix) key
key_begins key prefix h =
    let n = length prefix in
    let same : prefix ≡ take n key = (slice_eq-Decides bytes_eq-Decides prefix (take n key) (starts_with bytes_eq key prefix) refl).0 h in
    sym (take-append-drop n key) ∙ ap (λ k. k ++ drop n key) (sym same)

boundary_between : (above : List ℕ) (key : Key) → IsCharBoundary (above ++ flat key) (length above)
boundary_between above [] = rw append-nil (IsCharBoundary-end above)
boundary_between above (s ∷ key) = boundary_at_seam above (s ++ flat key)

-- the text after a prefix is that of the rest of the key
pub record HasPrefix (key prefix : Key) : Type 0 where
  pub boundary : IsCharBoundary (flat key) (length (flat prefix))
  pub rest : drop (length (flat prefix)) (flat key) ≡ flat (drop (length prefix) key)

pub HasPrefix-begins : (key prefix : Key) → starts_with bytes_eq key prefix ≡ true → HasPrefix key prefix
HasPrefix-begins key prefix h =
    let rest = drop (length prefix) key in
    let parts : flat key ≡ flat prefix ++ flat rest = ap flat (key_begins key prefix h) ∙ flat-append prefix rest in
    record {
      boundary = subst (λ t. IsCharBoundary t (length (flat prefix))) (sym parts) (boundary_between (flat prefix) rest);
      rest = ap (λ t. drop (length (flat prefix)) t) parts ∙ drop-append_seam (flat prefix) (flat rest);
    }

-- ---- the first segment

nul_after : (s t : List ℕ) (key : Key) → get_or (s ++ flat (t ∷ key)) (length s) 0 ≡ 0
nul_after s t key = nul_at_seam s (t ++ flat key)

first_apart : (s : List ℕ) (key : Key) (i : ℕ) → All (λ b. b ≢ 0) s → i < length s → get_or (s ++ flat key) i 0 ≢ 0
first_apart s key i apart lt e = apart i 0 lt (sym (front_reads 0 (s ++ flat key) s (flat key) refl i lt) ∙ e)

-- the place of the first NUL, or `None` where there is none
abbrev pub FindsNul : List ℕ → Option ℕ → Type 0
FindsNul text r = MatchOption r ((i : ℕ) → i < length text → get_or text i 0 ≢ 0) (λ k. (k < length text) × (get_or text k 0 ≡ 0) × ((i : ℕ) → i < k → get_or text i 0 ≢ 0))

-- the first NUL of what follows a segment's own, or the end, is where the segment ends
pub first_nul : (s : List ℕ) (key : Key) (r : Option ℕ) → All (λ b. b ≢ 0) s → FindsNul (s ++ flat key) r → unwrap_or r (length (s ++ flat key)) ≡ length s
first_nul s [] None apart h = ap length (append-nil s)
first_nul s (t ∷ key) None apart h = absurd (h (length s) (seam_in_text s (t ++ flat key)) (nul_after s t key))
first_nul s [] (Some k) apart h =
    let fits : k < length s = rw append-nil at h.0 in
    absurd (first_apart s [] k apart fits h.1)
first_nul s (t ∷ key) (Some k) apart h =
    elim (cases_lt k (length s)) [
      | inl before ↦ absurd (first_apart s (t ∷ key) k apart before h.1)
      | inr from ↦
          elim (cases_lt (length s) k) [
            | inl after ↦ absurd (h.2 (length s) after (nul_after s t key))
            | inr upto ↦ omega arith
          ]
    ]

-- a text that begins with a NUL is that of a first segment and others
pub record HasFirst (text after s : List ℕ) (key : Key) : Type 0 where
  pub here : segments_of text ≡ s ∷ key
  pub after_is : after ≡ s ++ flat key
  pub segment : IsFlatSegment s
  pub others : IsFlatKey key

go : (text after : List ℕ) → IsFlatText text → text ≡ 0 ∷ after → (k : Key) → segments_of text ≡ k → (s : List ℕ) × (key : Key) × HasFirst text after s key
go text after is e [] same =
    let none : text ≡ [] = sym is.same ∙ ap flat same in
    absurd (cc)
go text after is e (s ∷ key) same =
    let whole : text ≡ 0 ∷ (s ++ flat key) = sym is.same ∙ ap flat same in
    let plain : IsFlatKey (s ∷ key) = subst IsFlatKey same is.plain in
    let tail : after ≡ s ++ flat key = cc in
    (s, key, record { here = same; after_is = tail; segment = plain.0; others = plain.1 })

pub first_cases : (text after : List ℕ) → IsFlatText text → text ≡ 0 ∷ after → (s : List ℕ) × (key : Key) × HasFirst text after s key
first_cases text after is e = go text after is e (segments_of text) refl

no_first : (text : List ℕ) → IsFlatText text → ((rest : List ℕ) → text ≢ 0 ∷ rest) → (key : Key) → segments_of text ≡ key → key ≡ []
no_first text is apart [] same = refl
no_first text is apart (s ∷ key) same = absurd (apart (s ++ flat key) (sym is.same ∙ ap flat same))

-- where no NUL begins the text, no segment is left
pub next_none : (text : List ℕ) (r : Option (Bor (List ℕ))) → IsFlatText text → MatchOption r ((rest : List ℕ) → text ≢ 0 ∷ rest) (λ after. text ≡ 0 ∷ after.now) → r ≡ None → segments_of text ≡ []
next_none text None is h e = no_first text is h (segments_of text) refl
next_none text (Some after) is h e = absurd (cc)

-- the text after a first segment, cut at its first NUL or its end
pub record TakesFirst (text front back : List ℕ) : Type 0 where
  pub is_flat : IsFlatText back
  pub first_is : segments_of text ≡ front ∷ segments_of back

cut_first : (text after front back s : List ℕ) (key : Key) (r : Option ℕ) (n : ℕ) → HasFirst text after s key → FindsNul after r → n ≡ unwrap_or r (length after) → front ≡ take n after → back ≡ drop n after → TakesFirst text front back
cut_first text after front back s key r n has h n_is front_is back_is =
    let ends : n ≡ length s = n_is ∙ (ap (λ t. unwrap_or r (length t)) has.after_is ∙ first_nul s key r has.segment.no_nul (subst (λ t. FindsNul t r) has.after_is h)) in
    let front_same : front ≡ s = front_is ∙ (rw (ends, has.after_is) (take-append_seam s (flat key))) in
    let back_same : back ≡ flat key = back_is ∙ (rw (ends, has.after_is) (drop-append_seam s (flat key))) in
    let rest = IsTextOf-flat back key has.others back_same in
    record { is_flat = rest.is_flat; first_is = has.here ∙ (ap (λ t. t ∷ key) (sym front_same) ∙ ap (λ k. front ∷ k) (sym rest.key_is)) }

pub next_some : (text after front back : List ℕ) (r : Option ℕ) (n : ℕ) → IsFlatText text → text ≡ 0 ∷ after → FindsNul after r → n ≡ unwrap_or r (length after) → front ≡ take n after → back ≡ drop n after → TakesFirst text front back
next_some text after front back r n is e h n_is front_is back_is =
    let first = first_cases text after is e in
    cut_first text after front back first.0 first.1 r n first.2 h n_is front_is back_is

-- ---- a text that grows or shrinks at its end

pub record Pushes {E : Type 0} (old new s : List ℕ) (r : Result (Unit {0}) E) : Type 0 where
  pub is_flat : IsFlatText new
  pub ok : OnOk r (segments_of new ≡ segments_of old ++ s ∷ [])

pub Pushes-append : {E : Type 0} (old new s : List ℕ) (r : Result (Unit {0}) E) → IsFlatText old → IsFlatSegment s → OnOk r (new ≡ old ++ 0 ∷ s) → OnErr r (new ≡ old) → Pushes old new s r
Pushes-append old new s (Ok x) is here ok err =
    let written = IsTextOf-child (segments_of old) s old new is.plain here (sym is.same) ok in
    record { is_flat = written.is_flat; ok = written.key_is }
Pushes-append old new s (Err e) is here ok err = record { is_flat = subst IsFlatText (sym err) is; ok = tt }

pub IsTextOf-parent : (old new : List ℕ) (n : ℕ) → IsFlatText old → n ≡ length_above (segments_of old) → new ≡ take n old → IsTextOf new (parent (segments_of old))
IsTextOf-parent old new n is n_is e =
    IsTextOf-flat new (parent (segments_of old)) (IsFlatKey-parent (segments_of old) is.plain) (e ∙ (ap (λ m. take m old) n_is ∙ take-above old is))

-- ---- how many segments a text has

length_flat : (key : Key) → length key ≤ length (flat key)
length_flat [] = omega arith
length_flat (s ∷ key) =
    let rest = length_flat key in
    let size : length (s ++ flat key) ≡ length s + length (flat key) = length-append s (flat key) in
    omega arith

pub segments_fit : (text : List ℕ) → IsFlatText text → length (segments_of text) ≤ length text
segments_fit text is = subst (λ t. length (segments_of text) ≤ length t) is.same (length_flat (segments_of text))

-- ---- texts that are compared

-- equal texts are those of equal keys
pub same_texts : (r : Bool) (s t : List ℕ) (a b : Key) → IsFlatKey a → IsFlatKey b → s ≡ flat a → t ≡ flat b → r ≡ bytes_eq s t → (r ≡ true → a ≡ b) × (a ≡ b → r ≡ true)
same_texts r s t a b is_a is_b s_is t_is tested =
    (λ same. flat-injective a b is_a is_b (sym s_is ∙ ((bytes_eq-Decides s t).0 (sym tested ∙ same) ∙ t_is)), λ same. tested ∙ (bytes_eq-Decides s t).1 (s_is ∙ (ap flat same ∙ sym t_is)))
