-- Entity tags are read as the grammar says.
use Rattle.std.proofs.Common.{◌≡◌, ◌≢◌, ◌∙◌, ◌<◌, ◌==◌, ℕ, true, false, List, [], ◌∷◌, ◌++◌, length, drop, get_or, Some, refl, ap, subst, arith, codes, length-append, nat_eq}
use Rattle.std.proofs.lemmas.Bool.Decides.{nat_tests}
use Rattle.std.specs.List.{starts_with}
use Rattle.dav_resource.specs.declared.etag.ETag.{ETag}
use Rattle.dav_headers.specs.Values.{cut_at}
use Rattle.dav_headers.specs.Tag.{quoted, tag_of, first_tag}
use Rattle.dav_headers.specs.TagGrammar.{Lacks, TagAt, strong, weakly}
use Rattle.dav_headers.proofs.OptionLemmas.{by_test, option_map-some}
use Rattle.dav_headers.proofs.TextLemmas.{uncons, some_first}

-- ---- a text up to a byte

pub record IsCut (end : ℕ) (bs text rest : List ℕ) : Type 0 where
  pub whole : bs ≡ text ++ end ∷ rest
  pub lacks : Lacks end text

pub cut_at-found : (end : ℕ) (bs : List ℕ) (found : List ℕ × List ℕ) → cut_at end bs ≡ Some found → IsCut end bs found.0 found.1
cut_at-found end [] found e = absurd cc
cut_at-found end (b ∷ bs) found e =
    by_test (b == end) (IsCut end (b ∷ bs) found.0 found.1)
    (λ is.
    let same : ([], bs) ≡ found = (let f = rw is at e in cc) in
    let at_end : b ≡ end = grind (arith, nat_tests) in
    subst (λ f. IsCut end (b ∷ bs) f.0 f.1) same (record { whole = ap (λ c. c ∷ bs) at_end; lacks = tt }))
    (λ no.
    let mapped = option_map-some (λ parts. (b ∷ parts.0, parts.1)) (cut_at end bs) found (rw no at e) in
    let inner = cut_at-found end bs mapped.from mapped.was in
    let other : b ≢ end = (λ same. let f : (b == end) ≡ true = grind (arith, nat_tests) in cc) in
    subst (λ f. IsCut end (b ∷ bs) f.0 f.1) mapped.is (record { whole = ap (λ cs. b ∷ cs) inner.whole; lacks = (other, inner.lacks) }))

pub cut_at-cut : (end : ℕ) (text rest : List ℕ) → Lacks end text → cut_at end (text ++ end ∷ rest) ≡ Some (text, rest)
cut_at-cut end [] rest lacks = let is : (end == end) ≡ true = grind (arith, nat_tests) in rw is refl
cut_at-cut end (b ∷ text) rest lacks =
    let other : b ≢ end = lacks.0 in
    let no : (b == end) ≡ false = grind (arith, nat_tests) in
    rw (no, cut_at-cut end text rest lacks.1) refl

-- ---- a tag

record IsQuoted (bytes text rest : List ℕ) : Type 0 where
  pub whole : bytes ≡ 34 ∷ (text ++ 34 ∷ rest)
  pub lacks : Lacks 34 text

-- the bytes go on behind their first
pub begins_with : (bytes : List ℕ) (b : ℕ) → (get_or bytes 0 0 == b) ≡ true → 0 < b → bytes ≡ b ∷ drop 1 bytes
begins_with bytes b is some =
    let first : get_or bytes 0 0 ≡ b = grind (arith, nat_tests) in
    uncons bytes (some_first bytes (omega arith)) ∙ ap (λ c. c ∷ drop 1 bytes) first

quoted-found : (bytes : List ℕ) (found : List ℕ × List ℕ) → quoted bytes ≡ Some found → IsQuoted bytes found.0 found.1
quoted-found bytes found e =
    by_test (get_or bytes 0 0 == 34) (IsQuoted bytes found.0 found.1)
    (λ is.
    let inner = cut_at-found 34 (drop 1 bytes) found (rw is at e) in
    record { whole = begins_with bytes 34 is (omega arith) ∙ ap (λ cs. 34 ∷ cs) inner.whole; lacks = inner.lacks })
    (λ no. absurd (let f = rw no at e in cc))

weak_mark : (bytes : List ℕ) → starts_with nat_eq bytes (codes "W/") ≡ true → bytes ≡ 87 ∷ 47 ∷ drop 2 bytes
weak_mark [] is = absurd cc
weak_mark (b ∷ []) is = absurd (grind (arith, nat_tests))
weak_mark (b ∷ c ∷ bs) is =
    let first : b ≡ 87 = grind (arith, nat_tests) in
    let second : c ≡ 47 = grind (arith, nat_tests) in
    λ i. first i ∷ second i ∷ bs

pub first_tag-found : (bytes : List ℕ) (found : ETag × List ℕ) → first_tag bytes ≡ Some found → TagAt bytes found.0 found.1
first_tag-found bytes found e =
    by_test (starts_with nat_eq bytes (codes "W/")) (TagAt bytes found.0 found.1)
    (λ is.
    let mapped = option_map-some (tag_of true) (quoted (drop 2 bytes)) found (rw is at e) in
    let inner = quoted-found (drop 2 bytes) mapped.from mapped.was in
    subst (λ f. TagAt bytes f.0 f.1) mapped.is (weakly bytes mapped.from.0 mapped.from.1 (weak_mark bytes is ∙ ap (λ cs. 87 ∷ 47 ∷ cs) inner.whole) inner.lacks))
    (λ no.
    let mapped = option_map-some (tag_of false) (quoted bytes) found (rw no at e) in
    let inner = quoted-found bytes mapped.from mapped.was in
    subst (λ f. TagAt bytes f.0 f.1) mapped.is (strong bytes mapped.from.0 mapped.from.1 inner.whole inner.lacks))

pub first_tag-tag : (bytes : List ℕ) (tag : ETag) (rest : List ℕ) → TagAt bytes tag rest → first_tag bytes ≡ Some (tag, rest)
first_tag-tag bytes _ rest (strong _ text _ e lacks) = rw (e, cut_at-cut 34 text rest lacks) refl
first_tag-tag bytes _ rest (weakly _ text _ e lacks) = rw (e, cut_at-cut 34 text rest lacks) refl

pub TagAt-shorter : (bytes : List ℕ) (tag : ETag) (rest : List ℕ) → TagAt bytes tag rest → length rest < length bytes
TagAt-shorter bytes _ rest (strong _ text _ e lacks) = rw e (omega (arith, length-append text (34 ∷ rest)))
TagAt-shorter bytes _ rest (weakly _ text _ e lacks) = rw e (omega (arith, length-append text (34 ∷ rest)))
