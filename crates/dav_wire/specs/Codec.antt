-- Codecs: how values of a type are written as bytes, and parsed. The laws of a codec are part of it: each value has exactly one encoding.
use Rattle.std.specs.Prelude.{◌≡◌, ℕ, Bool, true, List, [], ◌∷◌, ◌++◌, Option, Some, None}
use Rattle.std.proofs.Common.{◌∙◌, ap, sym, append-nil}
use Rattle.std.proofs.lemmas.Option.{same_Some}

-- a valid value is read back, whatever follows its encoding
abbrev pub ReadsBack : {A : Type 0} → (A → List ℕ) → (List ℕ → Option (A × List ℕ)) → (A → Bool) → Type 0
ReadsBack {A = A} encode parse is_valid =
    (x : A) (rest : List ℕ) → is_valid x ≡ true → parse (encode x ++ rest) ≡ Some (x, rest)

-- a parsed value is valid, and the bytes parsed are its encoding
abbrev pub IsExact : {A : Type 0} → (A → List ℕ) → (List ℕ → Option (A × List ℕ)) → (A → Bool) → Type 0
IsExact {A = A} encode parse is_valid =
    (bytes : List ℕ) (x : A) (rest : List ℕ) → parse bytes ≡ Some (x, rest) → (is_valid x ≡ true) × (bytes ≡ encode x ++ rest)

pub record Codec (A : Type 0) : Type 0 where
  -- the bytes of a value
  pub encode : A → List ℕ
  -- the value at the front of some bytes, and the bytes after it
  pub parse : List ℕ → Option (A × List ℕ)
  -- whether the value can be written
  pub is_valid : A → Bool
  pub reads_back : ReadsBack encode parse is_valid
  pub is_exact : IsExact encode parse is_valid

-- the next parser continues with the value and the bytes after it
abbrev pub and_then : {A B : Type 0} → Option (A × List ℕ) → (A → List ℕ → Option (B × List ℕ)) → Option (B × List ℕ)
and_then None f = None
and_then (Some p) f = f p.0 p.1

-- ---- whole inputs

-- the value, if no bytes follow it
abbrev pub whole : {A : Type 0} → Option (A × List ℕ) → Option A
whole None = None
whole (Some (x, [])) = Some x
whole (Some (x, b ∷ bs)) = None

abbrev pub decode : {A : Type 0} → Codec A → List ℕ → Option A
decode a bytes = whole (a.parse bytes)

-- a valid value is decoded from its encoding
pub decode-encode : {A : Type 0} (a : Codec A) (x : A) → a.is_valid x ≡ true → decode a (a.encode x) ≡ Some x
decode-encode a x ok =
    ap (λ bytes. whole (a.parse bytes)) (sym (append-nil (a.encode x))) ∙ ap whole (a.reads_back x [] ok)

whole-some : {A : Type 0} (o : Option (A × List ℕ)) (x : A) → whole o ≡ Some x → o ≡ Some (x, [])
whole-some None x e = cc
whole-some (Some (y, [])) x e = ap (λ z. Some (z, [])) (same_Some y x e)
whole-some (Some (y, b ∷ bs)) x e = cc

-- what decodes to a value is the value's encoding, and the value is valid
pub decode_exact : {A : Type 0} (a : Codec A) (bytes : List ℕ) (x : A) → decode a bytes ≡ Some x → (a.is_valid x ≡ true) × (bytes ≡ a.encode x)
decode_exact a bytes x e =
    let h = a.is_exact bytes x [] (whole-some (a.parse bytes) x e) in
    (h.0, h.1 ∙ append-nil (a.encode x))

-- two valid values with the same encoding are equal
pub encode-injective : {A : Type 0} (a : Codec A) (x y : A) → a.is_valid x ≡ true → a.is_valid y ≡ true → a.encode x ≡ a.encode y → x ≡ y
encode-injective a x y x_ok y_ok e =
    same_Some x y (sym (decode-encode a x x_ok) ∙ ap (decode a) e ∙ decode-encode a y y_ok)
