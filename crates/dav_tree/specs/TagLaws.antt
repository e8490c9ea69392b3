-- What the parts of entity tags are for: this project's own choice.
use Rattle.std.proofs.Common.{Option, ◌≡◌, ◌∙◌, ◌+◌, ◌*◌, ◌-◌, ◌/◌, ◌%◌, ◌^◌, ◌<◌, ◌≤◌, ◌==◌, ℕ, zero, suc, Bool, true, false, if◌then◌else◌, nat_lt, List, [], ◌∷◌, ◌++◌, codes, length, drop, replicate, get_or, Some, refl, sym, ap, arith, append_assoc}
use Rattle.std.proofs.lemmas.Bool.Decides.{nat_tests}
use Rattle.std.proofs.lemmas.List.{length-append, length-replicate}
use Rattle.std.proofs.Math.Nat.{pow-succ'}
use Rattle.std.specs.Fmt.{digits, digits_onto, digit_glyph}
use Rattle.dav_store.specs.Store.{StartsWith}
use Rattle.dav_tree.specs.Memory.{hexadecimal, sixteen_digits, tag_start, tag_text}

-- ---- a number from its digits

abbrev digit_of : ℕ → ℕ
digit_of glyph = if nat_lt glyph 58 then glyph - 48 else glyph - 87

digit_back : (d : ℕ) → d < 16 → digit_of (digit_glyph false d) ≡ d
digit_back d h = grind (arith, nat_tests)

-- the number of these digits after those of another number
abbrev number_of : ℕ → List ℕ → ℕ
number_of before [] = before
number_of before (d ∷ ds) = number_of (before * 16 + digit_of d) ds

number_back : (k n : ℕ) (more : List ℕ) → n < 16 ^ k → number_of 0 (digits_onto k 16 false n more) ≡ number_of n more
number_back zero n more small =
    let none : n ≡ 0 = omega arith in
    ap (λ n. number_of n more) (sym none)
number_back (suc k) n more small = by (n / 16 == 0) refl (number_back k (n / 16) (digit_glyph false (n % 16) ∷ more) (omega (arith, pow-succ' 16 k)))
  where
    last : number_of (n / 16) (digit_glyph false (n % 16) ∷ more) ≡ number_of n more
    last =
        let same : n / 16 * 16 + n % 16 ≡ n = omega arith in
        ap (λ d. number_of (n / 16 * 16 + d) more) (digit_back (n % 16) (omega arith)) ∙ ap (λ n. number_of n more) same

    by : (b : Bool) → (n / 16 == 0) ≡ b
        → number_of 0 (digits_onto k 16 false (n / 16) (digit_glyph false (n % 16) ∷ more)) ≡ number_of (n / 16) (digit_glyph false (n % 16) ∷ more)
        → number_of 0 (if b then digit_glyph false (n % 16) ∷ more else digits_onto k 16 false (n / 16) (digit_glyph false (n % 16) ∷ more)) ≡ number_of n more
    by true is rest =
        let none : n / 16 ≡ 0 = grind (arith, nat_tests) in
        ap (λ z. number_of z (digit_glyph false (n % 16) ∷ more)) (sym none) ∙ last
    by false is rest = rest ∙ last

zeros_before : (count : ℕ) (ds : List ℕ) → number_of 0 (replicate count 48 ++ ds) ≡ number_of 0 ds
zeros_before zero ds = refl
zeros_before (suc count) ds = zeros_before count ds

number_is : (n : ℕ) → n < 2 ^ 64 → number_of 0 (sixteen_digits n) ≡ n
unfolding digits
number_is n small = zeros_before (16 - length (hexadecimal n)) (hexadecimal n) ∙ number_back 64 n [] (omega arith)

-- ---- how many digits there are

few_digits : (k most n : ℕ) (more : List ℕ) → n < 16 ^ suc most → length (digits_onto k 16 false n more) ≤ suc most + length more
few_digits zero most n more small = omega arith
few_digits (suc k) most n more small = by most (n / 16 == 0) refl small (λ most less. few_digits k most (n / 16) (digit_glyph false (n % 16) ∷ more) less)
  where
    by : (most : ℕ) (b : Bool) → (n / 16 == 0) ≡ b → n < 16 ^ suc most
        → ((most : ℕ) → n / 16 < 16 ^ suc most → length (digits_onto k 16 false (n / 16) (digit_glyph false (n % 16) ∷ more)) ≤ suc most + suc (length more))
        → length (if b then digit_glyph false (n % 16) ∷ more else digits_onto k 16 false (n / 16) (digit_glyph false (n % 16) ∷ more)) ≤ suc most + length more
    by most true is small rest = omega arith
    by zero false is small rest = absurd (let one : (n / 16 == 0) ≡ true = grind (arith, nat_tests) in cc)
    by (suc most) false is small rest =
        let fewer = rest most (omega (arith, pow-succ' 16 (suc most))) in
        omega arith

sixteen : (n : ℕ) → n < 2 ^ 64 → length (sixteen_digits n) ≡ 16
unfolding digits
sixteen n small =
    let few : length (hexadecimal n) ≤ 16 + 0 = few_digits 64 15 n [] (omega arith) in
    length-append (replicate (16 - length (hexadecimal n)) 48) (hexadecimal n) ∙ ap (λ count. count + length (hexadecimal n)) (length-replicate (16 - length (hexadecimal n)) 48) ∙ omega arith

-- ---- two parts

split : (a b x y : List ℕ) → length a ≡ length b → a ++ x ≡ b ++ y → (a ≡ b) × (x ≡ y)
split [] [] x y long e = (refl, e)
split [] (d ∷ b) x y long e = absurd (omega arith)
split (c ∷ a) (d ∷ b) x y long e =
    let rest = split a b x y (omega arith) (ap (drop 1) e) in
    ((λ i. ap (λ l. get_or l 0 0) e i ∷ rest.0 i), rest.1)
split (c ∷ a) [] x y long e = absurd (omega arith)

digits_differ : (n m : ℕ) (x y : List ℕ) → n < 2 ^ 64 → m < 2 ^ 64 → sixteen_digits n ++ x ≡ sixteen_digits m ++ y → (n ≡ m) × (x ≡ y)
digits_differ n m x y small low e =
    let parts = split (sixteen_digits n) (sixteen_digits m) x y (sixteen n small ∙ sym (sixteen m low)) e in
    (sym (number_is n small) ∙ ap (number_of 0) parts.0 ∙ number_is m low, parts.1)

spread : (part : ℕ) (rest : List ℕ) → tag_start (Some part) ++ rest ≡ sixteen_digits (part / 2 ^ 64) ++ (sixteen_digits (part % 2 ^ 64) ++ (codes "-" ++ rest))
spread part rest =
    append_assoc (sixteen_digits (part / 2 ^ 64)) (sixteen_digits (part % 2 ^ 64) ++ codes "-") rest
    ∙ ap (λ l. sixteen_digits (part / 2 ^ 64) ++ l) (append_assoc (sixteen_digits (part % 2 ^ 64)) (codes "-") rest)

-- No entity tag begins with two parts. So a store with another part than an earlier one gives no tag that the earlier one gave.
pub no_tag_twice : (one other : ℕ) (tag : List ℕ) → one < 2 ^ 128 → other < 2 ^ 128
    → StartsWith (tag_start (Some one)) tag → StartsWith (tag_start (Some other)) tag → one ≡ other
no_tag_twice one other tag small low first second =
    let same = sym (spread one first.rest) ∙ sym first.whole ∙ second.whole ∙ spread other second.rest in
    let high = digits_differ (one / 2 ^ 64) (other / 2 ^ 64) _ _ (omega arith) (omega arith) same in
    let rest = digits_differ (one % 2 ^ 64) (other % 2 ^ 64) _ _ (omega arith) (omega arith) high.1 in
    let upper : one / 2 ^ 64 ≡ other / 2 ^ 64 = high.0 in
    let lower : one % 2 ^ 64 ≡ other % 2 ^ 64 = rest.0 in
    omega arith

hexadecimal_is : (n : ℕ) → n < 2 ^ 64 → number_of 0 (hexadecimal n) ≡ n
unfolding digits
hexadecimal_is n small = number_back 64 n [] (omega arith)

-- Two versions have two entity tags. So a resource that gets a version that none had gets a tag that none had.
pub one_version_a_tag : (part : Option ℕ) (version other : ℕ) → version < 2 ^ 64 → other < 2 ^ 64 → tag_text part version ≡ tag_text part other → version ≡ other
one_version_a_tag part version other small low same =
    let digits_same = (split (tag_start part) (tag_start part) (hexadecimal version) (hexadecimal other) refl same).1 in
    sym (hexadecimal_is version small) ∙ ap (number_of 0) digits_same ∙ hexadecimal_is other low
