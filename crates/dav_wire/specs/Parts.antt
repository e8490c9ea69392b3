-- How codecs encode, parse and test values. The codecs themselves, with their laws, are in `Combine`, `Numbers` and `Values`.
use Rattle.std.specs.Prelude.{◌≡◌, ℕ, zero, suc, Bool, true, false, ◌&&◌, ◌==◌, if◌then◌else◌, List, [], ◌∷◌, ◌++◌, length, take, drop, nat_lt, nat_le, Option, Some, None}
use Rattle.std.specs.List.{list_all, flat_map}
use Rattle.byteorder.specs.Endian.{big_number}
use Rattle.dav_wire.specs.Codec.{Codec, and_then}

-- ---- bytes

abbrev pub is_byte : ℕ → Bool
is_byte b = nat_lt b 256

-- one byte
abbrev pub parse_byte : List ℕ → Option (ℕ × List ℕ)
parse_byte [] = None
parse_byte (b ∷ bs) = if is_byte b then Some (b, bs) else None

-- the bytes begin with n bytes
abbrev pub starts_with_bytes : ℕ → List ℕ → Bool
starts_with_bytes zero bytes = true
starts_with_bytes (suc n) [] = false
starts_with_bytes (suc n) (b ∷ bytes) = is_byte b && starts_with_bytes n bytes

-- a number of n bytes, the highest first
abbrev pub parse_digits : ℕ → List ℕ → Option (ℕ × List ℕ)
parse_digits n bytes = if starts_with_bytes n bytes then Some (big_number n bytes, drop n bytes) else None

-- n bytes as they are
abbrev pub parse_items : ℕ → List ℕ → Option (List ℕ × List ℕ)
parse_items n bytes = if nat_le n (length bytes) then Some (take n bytes, drop n bytes) else None

-- ---- two values, one after the other

abbrev pub encode_pair : {A B : Type 0} → Codec A → Codec B → A × B → List ℕ
encode_pair a b p = a.encode p.0 ++ b.encode p.1

abbrev pub parse_pair : {A B : Type 0} → Codec A → Codec B → List ℕ → Option ((A × B) × List ℕ)
parse_pair a b bytes = and_then (a.parse bytes) (λ x rest. and_then (b.parse rest) (λ y left. Some ((x, y), left)))

abbrev pub is_valid_pair : {A B : Type 0} → Codec A → Codec B → A × B → Bool
is_valid_pair a b p = a.is_valid p.0 && b.is_valid p.1

-- ---- a value after a header, which says how the value is parsed

abbrev pub encode_prefixed : {H A : Type 0} → Codec H → (A → H) → (H → Codec A) → A → List ℕ
encode_prefixed h header value x = h.encode (header x) ++ (value (header x)).encode x

abbrev pub parse_prefixed : {H A : Type 0} → Codec H → (H → Codec A) → List ℕ → Option (A × List ℕ)
parse_prefixed h value bytes = and_then (h.parse bytes) (λ n rest. (value n).parse rest)

abbrev pub is_valid_prefixed : {H A : Type 0} → Codec H → (A → H) → (H → Codec A) → A → Bool
is_valid_prefixed h header value x = h.is_valid (header x) && (value (header x)).is_valid x

-- what `value n` can write has the header n
abbrev pub HasHeader : {H A : Type 0} → (A → H) → (H → Codec A) → Type 0
HasHeader {H = H} {A = A} header value = (n : H) (x : A) → (value n).is_valid x ≡ true → header x ≡ n

-- ---- the same bytes as values of another type

abbrev pub parse_as : {A B : Type 0} → Codec A → (A → B) → List ℕ → Option (B × List ℕ)
parse_as a to bytes = and_then (a.parse bytes) (λ x rest. Some (to x, rest))

-- ---- a value that may be of another variant

abbrev pub encode_some : {A : Type 0} → Codec A → Option A → List ℕ
encode_some a None = []
encode_some a (Some x) = a.encode x

abbrev pub is_valid_some : {A : Type 0} → Codec A → Option A → Bool
is_valid_some a None = false
is_valid_some a (Some x) = a.is_valid x

-- ---- only the values that pass a test

abbrev pub if_passes : {A : Type 0} → (A → Bool) → A → List ℕ → Option (A × List ℕ)
if_passes test x rest = if test x then Some (x, rest) else None

abbrev pub parse_only : {A : Type 0} → Codec A → (A → Bool) → List ℕ → Option (A × List ℕ)
parse_only a test bytes = and_then (a.parse bytes) (if_passes test)

abbrev pub is_valid_only : {A : Type 0} → Codec A → (A → Bool) → A → Bool
is_valid_only a test x = a.is_valid x && test x

-- ---- n values, one after the other

abbrev pub encode_all : {A : Type 0} → Codec A → List A → List ℕ
encode_all a xs = flat_map a.encode xs

abbrev pub parse_times : {A : Type 0} → Codec A → ℕ → List ℕ → Option (List A × List ℕ)
parse_times a zero bytes = Some ([], bytes)
parse_times a (suc n) bytes =
    and_then (a.parse bytes) (λ x rest. and_then (parse_times a n rest) (λ xs left. Some (x ∷ xs, left)))

abbrev pub is_valid_times : {A : Type 0} → Codec A → ℕ → List A → Bool
is_valid_times a n xs = (length xs == n) && list_all a.is_valid xs

-- ---- values up to a byte 0

-- no encoding begins with the byte 0
abbrev pub NeverZero : {A : Type 0} → Codec A → Type 0
NeverZero a = (rest : List ℕ) → a.parse (0 ∷ rest) ≡ None

abbrev pub encode_terminated : {A : Type 0} → Codec A → List A → List ℕ
encode_terminated a xs = encode_all a xs ++ 0 ∷ []

-- one more value in front of those parsed
abbrev pub put_first : {A : Type 0} → A → Option (List A × List ℕ) → Option (List A × List ℕ)
put_first x o = and_then o (λ xs left. Some (x ∷ xs, left))

-- values up to the byte 0, in at most n steps
abbrev pub parse_until : {A : Type 0} → Codec A → ℕ → List ℕ → Option (List A × List ℕ)
parse_until a zero bytes = None
parse_until a (suc n) [] = None
parse_until a (suc n) (zero ∷ rest) = Some ([], rest)
parse_until a (suc n) (suc b ∷ rest) = and_then (a.parse (suc b ∷ rest)) (λ x after. put_first x (parse_until a n after))

-- each value takes a byte or more, so there are no more steps than bytes
abbrev pub parse_terminated : {A : Type 0} → Codec A → List ℕ → Option (List A × List ℕ)
parse_terminated a bytes = parse_until a (length bytes) bytes
