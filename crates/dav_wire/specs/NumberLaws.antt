-- The laws of bytes, numbers and byte strings.
use Rattle.std.specs.Prelude.{◌≡◌, ℕ, zero, suc, ◌+◌, ◌*◌, ◌^◌, ◌%◌, ◌/◌, ◌<◌, ◌≤◌, true, ◌==◌, List, [], ◌∷◌, ◌++◌, length, take, drop, nat_lt, nat_le, refl}
use Rattle.std.specs.Int.{byte_at, bytes_high_first}
use Rattle.std.proofs.Common.{◌∙◌, ap, sym, subst, arith}
use Rattle.std.proofs.Math.Nat.{mod-lt, mul-le-mul_right, pow-succ'}
use Rattle.std.proofs.lemmas.Nat.{div-mul-add, mod-mul-add}
use Rattle.std.proofs.lemmas.Bool.{and_parts, and_from, eqb-true, eq-eqb, leb-true, le-leb, ltb-true, lt-ltb}
use Rattle.std.proofs.lemmas.Option.{cond_some}
use Rattle.std.proofs.lemmas.List.{take_at, drop_at, take-append-drop, length-take-le, length-append}
use Rattle.byteorder.specs.Endian.{big_number, big_from}
use Rattle.byteorder.specs.Numbers.{big_from-cons, big_number-reads_back, length-bytes_high_first}
use Rattle.dav_wire.specs.Codec.{ReadsBack, IsExact}
use Rattle.dav_wire.specs.Parts.{is_byte, parse_byte, starts_with_bytes, parse_digits, parse_items}
use Rattle.dav_wire.specs.PartLaws.{none_parsed, false_true}

-- ---- one byte

pub byte-reads_back : ReadsBack (λ x. x ∷ []) parse_byte is_byte
byte-reads_back x rest ok = rw ok refl

pub byte-exact : IsExact (λ x. x ∷ []) parse_byte is_byte
byte-exact [] x rest e = none_parsed x rest e
byte-exact (b ∷ bs) x rest e =
    let found = cond_some (is_byte b) (b, bs) (x, rest) e in
    subst (λ p. (is_byte p.0 ≡ true) × (b ∷ bs ≡ p.0 ∷ p.1)) found.1 (found.0, refl)

-- ---- numbers of n bytes

is_byte_at : (k x : ℕ) → is_byte (byte_at k x) ≡ true
is_byte_at zero x = lt-ltb (x % 256) 256 (mod-lt x (omega arith))
is_byte_at (suc k) x = lt-ltb (byte_at (suc k) x) 256 (mod-lt _ (omega arith))

written_bytes : (n x : ℕ) (rest : List ℕ) → starts_with_bytes n (bytes_high_first n x ++ rest) ≡ true
written_bytes zero x rest = refl
written_bytes (suc n) x rest =
    and_from (is_byte (byte_at n x)) (starts_with_bytes n (bytes_high_first n x ++ rest)) (is_byte_at n x) (written_bytes n x rest)

-- the number at the front is below its bound
front-lt : (n : ℕ) (bytes : List ℕ) → starts_with_bytes n bytes ≡ true → big_from 0 n bytes < 256 ^ n
front-lt zero bytes ok = omega arith
front-lt (suc n) [] ok = false_true ok
front-lt (suc n) (b ∷ bytes) ok =
    let parts = and_parts (is_byte b) (starts_with_bytes n bytes) ok in
    let below : b < 256 = ltb-true b 256 parts.0 in
    let rest = front-lt n bytes parts.1 in
    let top : b * 256 ^ n ≤ 255 * 256 ^ n = mul-le-mul_right (256 ^ n) (omega arith) in
    rw (pow-succ' 256 n, big_from-cons 0 n b bytes) (omega arith)

-- two runs of n bytes that spell the same number are equal
same_bytes :
    (n : ℕ) (xs ys : List ℕ) → starts_with_bytes n xs ≡ true → starts_with_bytes n ys ≡ true
    → big_from 0 n xs ≡ big_from 0 n ys → take n xs ≡ take n ys
same_bytes zero xs ys x_ok y_ok e = refl
same_bytes (suc n) [] ys x_ok y_ok e = false_true x_ok
same_bytes (suc n) (x ∷ xs) [] x_ok y_ok e = false_true y_ok
same_bytes (suc n) (x ∷ xs) (y ∷ ys) x_ok y_ok e =
    let x_parts = and_parts (is_byte x) (starts_with_bytes n xs) x_ok in
    let y_parts = and_parts (is_byte y) (starts_with_bytes n ys) y_ok in
    let x_lt = front-lt n xs x_parts.1 in
    let y_lt = front-lt n ys y_parts.1 in
    let same : x * 256 ^ n + big_from 0 n xs ≡ y * 256 ^ n + big_from 0 n ys =
    ap (λ (r : ℕ). x * 256 ^ n + r) (sym (big_from-cons 0 n x xs)) ∙ e ∙ ap (λ (r : ℕ). y * 256 ^ n + r) (big_from-cons 0 n y ys) in
    let firsts : x ≡ y =
    sym (div-mul-add x (256 ^ n) (big_from 0 n xs) x_lt) ∙ ap (λ (z : ℕ). z / 256 ^ n) same ∙ div-mul-add y (256 ^ n) (big_from 0 n ys) y_lt in
    let others : big_from 0 n xs ≡ big_from 0 n ys =
    sym (mod-mul-add x (256 ^ n) (big_from 0 n xs) x_lt) ∙ ap (λ (z : ℕ). z % 256 ^ n) same ∙ mod-mul-add y (256 ^ n) (big_from 0 n ys) y_lt in
    let ih = same_bytes n xs ys x_parts.1 y_parts.1 others in
    λ i. firsts i ∷ ih i

-- n bytes are the encoding of the number that they spell
front-exact : (n : ℕ) (bytes : List ℕ) → starts_with_bytes n bytes ≡ true → bytes ≡ bytes_high_first n (big_from 0 n bytes) ++ drop n bytes
front-exact n bytes ok =
    let x : ℕ = big_from 0 n bytes in
    let back : big_from 0 n (bytes_high_first n x ++ []) ≡ x = big_number-reads_back n x [] (front-lt n bytes ok) in
    let same : take n bytes ≡ take n (bytes_high_first n x ++ []) =
    same_bytes n bytes (bytes_high_first n x ++ []) ok (written_bytes n x []) (sym back) in
    let front : take n bytes ≡ bytes_high_first n x = same ∙ take_at (bytes_high_first n x) [] n (length-bytes_high_first n x) in
    sym (take-append-drop n bytes) ∙ ap (λ (xs : List ℕ). xs ++ drop n bytes) front

pub digits-reads_back : (n : ℕ) → ReadsBack (bytes_high_first n) (parse_digits n) (λ x. nat_lt x (256 ^ n))
digits-reads_back n x rest ok =
    let value = big_number-reads_back n x rest (ltb-true x (256 ^ n) ok) in
    rw (written_bytes n x rest, value, drop_at (bytes_high_first n x) rest n (length-bytes_high_first n x)) refl

pub digits-exact : (n : ℕ) → IsExact (bytes_high_first n) (parse_digits n) (λ x. nat_lt x (256 ^ n))
digits-exact n bytes x rest e =
    let found = cond_some (starts_with_bytes n bytes) (big_number n bytes, drop n bytes) (x, rest) e in
    subst (λ p. (nat_lt p.0 (256 ^ n) ≡ true) × (bytes ≡ bytes_high_first n p.0 ++ p.1)) found.1
    (lt-ltb (big_number n bytes) (256 ^ n) (front-lt n bytes found.0), front-exact n bytes found.0)

-- ---- n bytes as they are

pub items-reads_back : (n : ℕ) → ReadsBack (λ xs. xs) (parse_items n) (λ xs. length xs == n)
items-reads_back n xs rest ok =
    let len : length xs ≡ n = eqb-true (length xs) n ok in
    let enough : nat_le n (length (xs ++ rest)) ≡ true = le-leb n (length (xs ++ rest)) (rw length-append (omega arith)) in
    rw (enough, take_at xs rest n len, drop_at xs rest n len) refl

pub items-exact : (n : ℕ) → IsExact (λ xs. xs) (parse_items n) (λ xs. length xs == n)
items-exact n bytes xs rest e =
    let found = cond_some (nat_le n (length bytes)) (take n bytes, drop n bytes) (xs, rest) e in
    subst (λ p. ((length p.0 == n) ≡ true) × (bytes ≡ p.0 ++ p.1)) found.1
    (eq-eqb (length (take n bytes)) n (length-take-le n bytes (leb-true n (length bytes) found.0)), sym (take-append-drop n bytes))
