-- The laws of lists that a byte 0 ends.
use Rattle.std.specs.Prelude.{◌≡◌, ℕ, zero, suc, ◌<◌, ◌≤◌, true, List, [], ◌∷◌, ◌++◌, length, Some, refl}
use Rattle.std.specs.List.{list_all}
use Rattle.std.proofs.Common.{◌∙◌, ap, sym, subst, arith, append_assoc}
use Rattle.std.proofs.lemmas.Bool.{and_parts, and_from}
use Rattle.std.proofs.lemmas.List.{length-append}
use Rattle.dav_wire.specs.Codec.{Codec, ReadsBack, IsExact, and_then}
use Rattle.dav_wire.specs.Parts.{encode_all, NeverZero, encode_terminated, put_first, parse_until, parse_terminated}
use Rattle.dav_wire.specs.PartLaws.{two_steps, pair_parts, none_parsed}

-- the first byte is there, and is not 0
pub record Begins (bytes : List ℕ) : Type 0 where
  pub first : ℕ
  pub others : List ℕ
  pub is : bytes ≡ suc first ∷ others

begins_from :
    {A : Type 0} (a : Codec A) → NeverZero a → (x : A) (bytes : List ℕ)
    → ((rest : List ℕ) → a.parse (bytes ++ rest) ≡ Some (x, rest)) → Begins bytes
begins_from a no_zero x [] back = none_parsed x (0 ∷ []) (sym (no_zero []) ∙ back (0 ∷ []))
begins_from a no_zero x (zero ∷ bytes) back = none_parsed x [] (sym (no_zero (bytes ++ [])) ∙ back [])
begins_from a no_zero x (suc b ∷ bytes) back = record { first = b; others = bytes; is = refl }

pub begins : {A : Type 0} (a : Codec A) → NeverZero a → (x : A) → a.is_valid x ≡ true → Begins (a.encode x)
begins a no_zero x ok = begins_from a no_zero x (a.encode x) (λ rest. a.reads_back x rest ok)

until_step :
    {A : Type 0} (a : Codec A) (n : ℕ) (bytes rest : List ℕ) → Begins bytes
    → parse_until a (suc n) (bytes ++ rest) ≡ and_then (a.parse (bytes ++ rest)) (λ x after. put_first x (parse_until a n after))
until_step a n bytes rest at =
    subst (λ bs. parse_until a (suc n) (bs ++ rest) ≡ and_then (a.parse (bs ++ rest)) (λ x after. put_first x (parse_until a n after)))
    (sym at.is) refl

has_byte : (bytes : List ℕ) → Begins bytes → 0 < length bytes
has_byte bytes at = subst (λ bs. 0 < length bs) (sym at.is) (omega arith)

-- one more value in front of those that are read back
until-more :
    {A : Type 0} (a : Codec A) (x : A) (xs : List A) (after rest : List ℕ) (n : ℕ) → a.is_valid x ≡ true → Begins (a.encode x)
    → ((m : ℕ) → length after ≤ m → parse_until a m after ≡ Some (xs, rest)) → length (a.encode x ++ after) ≤ n
    → parse_until a n (a.encode x ++ after) ≡ Some (x ∷ xs, rest)
until-more a x xs after rest zero ok at others enough =
    let more = has_byte (a.encode x) at in
    absurd (omega (arith, length-append (a.encode x) after))
until-more a x xs after rest (suc n) ok at others enough =
    let more = has_byte (a.encode x) at in
    until_step a n (a.encode x) after at
    ∙ rw (a.reads_back x after ok) (ap (put_first x) (others n (omega (arith, length-append (a.encode x) after))))

until-reads_back :
    {A : Type 0} (a : Codec A) → NeverZero a → (xs : List A) (rest : List ℕ) (n : ℕ) → list_all a.is_valid xs ≡ true
    → length (encode_terminated a xs ++ rest) ≤ n → parse_until a n (encode_terminated a xs ++ rest) ≡ Some (xs, rest)
until-reads_back a no_zero [] rest zero ok h = absurd (omega arith)
until-reads_back a no_zero [] rest (suc n) ok h = refl
until-reads_back {A = A} a no_zero (x ∷ xs) rest n ok h =
    let valid = and_parts (a.is_valid x) (list_all a.is_valid xs) ok in
    let after : List ℕ = encode_terminated a xs ++ rest in
    let regrouped : (((a.encode x ++ encode_all a xs) ++ 0 ∷ []) ++ rest) ≡ a.encode x ++ after = simp append_assoc in
    rw regrouped
    (until-more a x xs after rest n valid.0 (begins a no_zero x valid.0) (λ m le. until-reads_back a no_zero xs rest m valid.1 le)
    (subst (λ bs. length bs ≤ n) regrouped h))

abbrev pub IsUntil : {A : Type 0} → Codec A → List ℕ → List A → List ℕ → Type 0
IsUntil a bytes xs rest = (list_all a.is_valid xs ≡ true) × (bytes ≡ encode_terminated a xs ++ rest)

until-exact :
    {A : Type 0} (a : Codec A) (n : ℕ) (bytes : List ℕ) (xs : List A) (rest : List ℕ)
    → parse_until a n bytes ≡ Some (xs, rest) → IsUntil a bytes xs rest
until-exact a zero bytes xs rest e = none_parsed xs rest e
until-exact a (suc n) [] xs rest e = none_parsed xs rest e
until-exact a (suc n) (zero ∷ bytes) xs rest e =
    let ends = pair_parts ([], bytes) (xs, rest) e in
    subst (λ ys. IsUntil a (0 ∷ bytes) ys rest) ends.0 (refl, ap (λ bs. 0 ∷ bs) ends.1)
until-exact {A = A} a (suc n) (suc b ∷ bytes) xs rest e =
    let one = two_steps (a.parse (suc b ∷ bytes)) (λ x after. put_first x (parse_until a n after)) xs rest e in
    let two = two_steps (parse_until a n one.between) (λ ys left. Some (one.value ∷ ys, left)) xs rest one.then_parsed in
    let first = a.is_exact (suc b ∷ bytes) one.value one.between one.parsed in
    let others = until-exact a n one.between two.value two.between two.parsed in
    let ends = pair_parts (one.value ∷ two.value, two.between) (xs, rest) two.then_parsed in
    let front : List ℕ = a.encode one.value in
    let regrouped : (((front ++ encode_all a two.value) ++ 0 ∷ []) ++ two.between) ≡ front ++ (encode_terminated a two.value ++ two.between) =
    simp append_assoc in
    let found : IsUntil a (suc b ∷ bytes) (one.value ∷ two.value) two.between = (
      and_from (a.is_valid one.value) (list_all a.is_valid two.value) first.0 others.0,
      first.1 ∙ ap (λ after. a.encode one.value ++ after) others.1 ∙ sym regrouped,
    ) in
    subst (λ end. IsUntil a (suc b ∷ bytes) xs end) ends.1 (subst (λ ys. IsUntil a (suc b ∷ bytes) ys two.between) ends.0 found)

pub terminated-reads_back : {A : Type 0} (a : Codec A) → NeverZero a → ReadsBack (encode_terminated a) (parse_terminated a) (list_all a.is_valid)
terminated-reads_back a no_zero xs rest ok = until-reads_back a no_zero xs rest (length (encode_terminated a xs ++ rest)) ok (omega arith)

pub terminated-exact : {A : Type 0} (a : Codec A) → IsExact (encode_terminated a) (parse_terminated a) (list_all a.is_valid)
terminated-exact a bytes xs rest e = until-exact a (length bytes) bytes xs rest e
