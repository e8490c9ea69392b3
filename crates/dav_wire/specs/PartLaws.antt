-- The laws of codecs made of others.
use Rattle.std.specs.Prelude.{◌≡◌, ℕ, zero, suc, Bool, true, false, ◌&&◌, ◌==◌, List, [], ◌∷◌, ◌++◌, length, Option, Some, None, refl}
use Rattle.std.specs.List.{list_all}
use Rattle.std.proofs.Common.{◌∙◌, ap, sym, subst, append_assoc}
use Rattle.std.proofs.lemmas.Bool.{and_parts, and_from, eqb-true, eq-eqb}
use Rattle.std.proofs.lemmas.Option.{cond_some, same_Some}
use Rattle.dav_wire.specs.Codec.{Codec, ReadsBack, IsExact, and_then}
use Rattle.dav_wire.specs.Parts.{encode_pair, parse_pair, is_valid_pair, encode_prefixed, parse_prefixed, is_valid_prefixed, HasHeader, parse_as, encode_some, is_valid_some, if_passes, parse_only, is_valid_only, encode_all, parse_times, is_valid_times}

-- ---- results of parsers

pub pair_parts : {A B : Type 0} (p q : A × B) → ◌≡◌ {A = Option (A × B)} (Some p) (Some q) → (p.0 ≡ q.0) × (p.1 ≡ q.1)
pair_parts p q e = let same = same_Some p q e in (ap (λ r. r.0) same, ap (λ r. r.1) same)

pub none_parsed : {A : Type 0} {P : Type 0} (x : A) (rest : List ℕ) → ◌≡◌ {A = Option (A × List ℕ)} None (Some (x, rest)) → P
none_parsed x rest e = cc

pub false_true : {P : Type 0} → false ≡ true → P
false_true e = cc

-- how a parser with two steps succeeded
pub record TwoSteps {A B : Type 0} (first : Option (A × List ℕ)) (second : A → List ℕ → Option (B × List ℕ)) (y : B) (rest : List ℕ) : Type 0 where
  pub value : A
  pub between : List ℕ
  pub parsed : first ≡ Some (value, between)
  pub then_parsed : second value between ≡ Some (y, rest)

pub two_steps :
    {A B : Type 0} (first : Option (A × List ℕ)) (second : A → List ℕ → Option (B × List ℕ)) (y : B) (rest : List ℕ)
    → and_then first second ≡ Some (y, rest) → TwoSteps first second y rest
two_steps None second y rest e = cc
two_steps (Some p) second y rest e = record { value = p.0; between = p.1; parsed = refl; then_parsed = e }

-- ---- no value, and one value without bytes

pub never-reads_back : {A : Type 0} → ReadsBack {A = A} (λ x. []) (λ bytes. None) (λ x. false)
never-reads_back x rest ok = false_true ok

pub never-exact : {A : Type 0} → IsExact {A = A} (λ x. []) (λ bytes. None) (λ x. false)
never-exact bytes x rest e = none_parsed x rest e

pub nothing-reads_back : ReadsBack {A = Unit {0}} (λ x. []) (λ bytes. Some (tt, bytes)) (λ x. true)
nothing-reads_back x rest ok = refl

pub nothing-exact : IsExact {A = Unit {0}} (λ x. []) (λ bytes. Some (tt, bytes)) (λ x. true)
nothing-exact bytes x rest e = (refl, (pair_parts (tt, bytes) (x, rest) e).1)

-- ---- two values, one after the other

pub pair-reads_back : {A B : Type 0} (a : Codec A) (b : Codec B) → ReadsBack (encode_pair a b) (parse_pair a b) (is_valid_pair a b)
pair-reads_back a b p rest ok =
    let valid = and_parts (a.is_valid p.0) (b.is_valid p.1) ok in
    rw (append_assoc, a.reads_back p.0 (b.encode p.1 ++ rest) valid.0, b.reads_back p.1 rest valid.1) refl

pub pair-exact : {A B : Type 0} (a : Codec A) (b : Codec B) → IsExact (encode_pair a b) (parse_pair a b) (is_valid_pair a b)
pair-exact {A = A} {B = B} a b bytes p rest e =
    let one = two_steps (a.parse bytes) (λ x after. and_then (b.parse after) (λ y left. Some ((x, y), left))) p rest e in
    let two = two_steps (b.parse one.between) (λ y left. Some ((one.value, y), left)) p rest one.then_parsed in
    let first = a.is_exact bytes one.value one.between one.parsed in
    let second = b.is_exact one.between two.value two.between two.parsed in
    let ends = pair_parts ((one.value, two.value), two.between) (p, rest) two.then_parsed in
    let P : A × B → List ℕ → Type 0 = λ q end. (is_valid_pair a b q ≡ true) × (bytes ≡ encode_pair a b q ++ end) in
    let found : P (one.value, two.value) two.between = (
      and_from (a.is_valid one.value) (b.is_valid two.value) first.0 second.0,
      first.1 ∙ ap (λ after. a.encode one.value ++ after) second.1
          ∙ sym (append_assoc (a.encode one.value) (b.encode two.value) two.between),
    ) in
    subst (λ end. P p end) ends.1 (subst (λ q. P q two.between) ends.0 found)

-- ---- a value after a header

pub prefixed-reads_back :
    {H A : Type 0} (h : Codec H) (header : A → H) (value : H → Codec A)
    → ReadsBack (encode_prefixed h header value) (parse_prefixed h value) (is_valid_prefixed h header value)
prefixed-reads_back h header value x rest ok =
    let valid = and_parts (h.is_valid (header x)) ((value (header x)).is_valid x) ok in
    rw (append_assoc, h.reads_back (header x) ((value (header x)).encode x ++ rest) valid.0)
    ((value (header x)).reads_back x rest valid.1)

pub prefixed-exact :
    {H A : Type 0} (h : Codec H) (header : A → H) (value : H → Codec A) → HasHeader header value
    → IsExact (encode_prefixed h header value) (parse_prefixed h value) (is_valid_prefixed h header value)
prefixed-exact {H = H} h header value has_header bytes x rest e =
    let step = two_steps (h.parse bytes) (λ n after. (value n).parse after) x rest e in
    let first = h.is_exact bytes step.value step.between step.parsed in
    let second = (value step.value).is_exact step.between x rest step.then_parsed in
    let P : H → Type 0 =
    λ n. ((h.is_valid n && (value n).is_valid x) ≡ true) × (bytes ≡ (h.encode n ++ (value n).encode x) ++ rest) in
    let found : P step.value = (
      and_from (h.is_valid step.value) ((value step.value).is_valid x) first.0 second.0,
      first.1 ∙ ap (λ after. h.encode step.value ++ after) second.1
          ∙ sym (append_assoc (h.encode step.value) ((value step.value).encode x) rest),
    ) in
    subst P (sym (has_header step.value x second.0)) found

-- ---- the same bytes as values of another type

pub as_type-reads_back :
    {A B : Type 0} (a : Codec A) (to : A → B) (from : B → A) → ((y : B) → to (from y) ≡ y)
    → ReadsBack (λ y. a.encode (from y)) (parse_as a to) (λ y. a.is_valid (from y))
as_type-reads_back a to from to_from y rest ok = rw (a.reads_back (from y) rest ok) (ap (λ z. Some (z, rest)) (to_from y))

pub as_type-exact :
    {A B : Type 0} (a : Codec A) (to : A → B) (from : B → A) → ((x : A) → from (to x) ≡ x)
    → IsExact (λ y. a.encode (from y)) (parse_as a to) (λ y. a.is_valid (from y))
as_type-exact {A = A} a to from from_to bytes y rest e =
    let step = two_steps (a.parse bytes) (λ x after. Some (to x, after)) y rest e in
    let found = a.is_exact bytes step.value step.between step.parsed in
    let ends = pair_parts (to step.value, step.between) (y, rest) step.then_parsed in
    let same : step.value ≡ from y = sym (from_to step.value) ∙ ap from ends.0 in
    let P : A → List ℕ → Type 0 = λ x end. (a.is_valid x ≡ true) × (bytes ≡ a.encode x ++ end) in
    subst (λ end. P (from y) end) ends.1 (subst (λ x. P x step.between) same found)

-- ---- one variant of an enum

variant_back :
    {A B : Type 0} (a : Codec A) (to : A → B) (o : Option A) (y : B) → ((x : A) → o ≡ Some x → to x ≡ y) → (rest : List ℕ)
    → is_valid_some a o ≡ true → parse_as a to (encode_some a o ++ rest) ≡ Some (y, rest)
variant_back a to None y from_exact rest ok = cc
variant_back a to (Some x) y from_exact rest ok = rw (a.reads_back x rest ok) (ap (λ z. Some (z, rest)) (from_exact x refl))

pub variant-reads_back :
    {A B : Type 0} (a : Codec A) (to : A → B) (from : B → Option A) → ((y : B) (x : A) → from y ≡ Some x → to x ≡ y)
    → ReadsBack (λ y. encode_some a (from y)) (parse_as a to) (λ y. is_valid_some a (from y))
variant-reads_back a to from from_exact y rest ok = variant_back a to (from y) y (from_exact y) rest ok

pub variant-exact :
    {A B : Type 0} (a : Codec A) (to : A → B) (from : B → Option A) → ((x : A) → from (to x) ≡ Some x)
    → IsExact (λ y. encode_some a (from y)) (parse_as a to) (λ y. is_valid_some a (from y))
variant-exact {A = A} a to from from_to bytes y rest e =
    let step = two_steps (a.parse bytes) (λ x after. Some (to x, after)) y rest e in
    let found = a.is_exact bytes step.value step.between step.parsed in
    let ends = pair_parts (to step.value, step.between) (y, rest) step.then_parsed in
    let same : Some step.value ≡ from y = sym (from_to step.value) ∙ ap from ends.0 in
    let P : Option A → List ℕ → Type 0 = λ o end. (is_valid_some a o ≡ true) × (bytes ≡ encode_some a o ++ end) in
    subst (λ end. P (from y) end) ends.1 (subst (λ o. P o step.between) same found)

-- ---- only the values that pass a test

pub only-reads_back : {A : Type 0} (a : Codec A) (test : A → Bool) → ReadsBack a.encode (parse_only a test) (is_valid_only a test)
only-reads_back a test x rest ok =
    let valid = and_parts (a.is_valid x) (test x) ok in
    rw (a.reads_back x rest valid.0, valid.1) refl

pub only-exact : {A : Type 0} (a : Codec A) (test : A → Bool) → IsExact a.encode (parse_only a test) (is_valid_only a test)
only-exact {A = A} a test bytes x rest e =
    let step = two_steps (a.parse bytes) (if_passes test) x rest e in
    let found = a.is_exact bytes step.value step.between step.parsed in
    let passed = cond_some (test step.value) (step.value, step.between) (x, rest) step.then_parsed in
    let P : A → List ℕ → Type 0 = λ y end. (is_valid_only a test y ≡ true) × (bytes ≡ a.encode y ++ end) in
    let here : P step.value step.between = (and_from (a.is_valid step.value) (test step.value) found.0 passed.0, found.1) in
    subst (λ p. P p.0 p.1) passed.1 here

-- ---- n values, one after the other

times-reads_back :
    {A : Type 0} (a : Codec A) (xs : List A) (rest : List ℕ) → list_all a.is_valid xs ≡ true
    → parse_times a (length xs) (encode_all a xs ++ rest) ≡ Some (xs, rest)
times-reads_back a [] rest ok = refl
times-reads_back a (x ∷ xs) rest ok =
    let valid = and_parts (a.is_valid x) (list_all a.is_valid xs) ok in
    rw (append_assoc, a.reads_back x (encode_all a xs ++ rest) valid.0, times-reads_back a xs rest valid.1) refl

pub repeated-reads_back : {A : Type 0} (a : Codec A) (n : ℕ) → ReadsBack (encode_all a) (parse_times a n) (is_valid_times a n)
repeated-reads_back a n xs rest ok =
    let valid = and_parts (length xs == n) (list_all a.is_valid xs) ok in
    subst (λ m. parse_times a m (encode_all a xs ++ rest) ≡ Some (xs, rest)) (eqb-true (length xs) n valid.0) (times-reads_back a xs rest valid.1)

-- what a parser of n values has found
abbrev IsTimes : {A : Type 0} → Codec A → ℕ → List ℕ → List A → List ℕ → Type 0
IsTimes a n bytes xs rest = (length xs ≡ n) × (list_all a.is_valid xs ≡ true) × (bytes ≡ encode_all a xs ++ rest)

times-exact :
    {A : Type 0} (a : Codec A) (n : ℕ) (bytes : List ℕ) (xs : List A) (rest : List ℕ)
    → parse_times a n bytes ≡ Some (xs, rest) → IsTimes a n bytes xs rest
times-exact {A = A} a zero bytes xs rest e =
    let ends = pair_parts ([], bytes) (xs, rest) e in
    subst (λ ys. IsTimes a 0 bytes ys rest) ends.0 (refl, refl, ends.1)
times-exact {A = A} a (suc n) bytes xs rest e =
    let one = two_steps (a.parse bytes) (λ x after. and_then (parse_times a n after) (λ ys left. Some (x ∷ ys, left))) xs rest e in
    let two = two_steps (parse_times a n one.between) (λ ys left. Some (one.value ∷ ys, left)) xs rest one.then_parsed in
    let first = a.is_exact bytes one.value one.between one.parsed in
    let others = times-exact a n one.between two.value two.between two.parsed in
    let ends = pair_parts (one.value ∷ two.value, two.between) (xs, rest) two.then_parsed in
    let found : IsTimes a (suc n) bytes (one.value ∷ two.value) two.between = (
      ap suc others.0,
      and_from (a.is_valid one.value) (list_all a.is_valid two.value) first.0 others.1,
      first.1 ∙ ap (λ after. a.encode one.value ++ after) others.2
          ∙ sym (append_assoc (a.encode one.value) (encode_all a two.value) two.between),
    ) in
    subst (λ end. IsTimes a (suc n) bytes xs end) ends.1 (subst (λ ys. IsTimes a (suc n) bytes ys two.between) ends.0 found)

pub repeated-exact : {A : Type 0} (a : Codec A) (n : ℕ) → IsExact (encode_all a) (parse_times a n) (is_valid_times a n)
repeated-exact a n bytes xs rest e =
    let found = times-exact a n bytes xs rest e in
    (and_from (length xs == n) (list_all a.is_valid xs) (eq-eqb (length xs) n found.0) found.1, found.2)
