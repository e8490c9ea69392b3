-- How the sum of the digests changes with a digest.
use Rattle.std.proofs.Common.{◌≡◌, ℕ, ℤ, ◌+◌, ◌-◌, ◌%◌, ◌^◌, ◌≤◌, List, [], ◌∷◌, ◌++◌, Option, refl, ap, sym, ◌∙◌, add-zero, arith}
use Rattle.std.proofs.Math.Nat.{mod-add-mod, mod-mod, add-mod_right}
use Rattle.std.specs.Prelude.{sum_by, unwrap_or, option_map}
use Rattle.std.specs.Ordering.{int_cmp}
use Rattle.std.specs.Cmp.{int_cmp_total}
use Rattle.std.specs.Map.{keys_of, values_of, lookup, remove_entry}
use Rattle.std.specs.BTreeMap.{insert_entry, is_at}
use Rattle.std.specs.List.Sorted.{IsStrictlySortedBy}
use Rattle.std.proofs.lemmas.List.Sums.{sum_by-cons}
use Rattle.std.proofs.lemmas.Map.Entries.{sum_by-insert_entry, sum_by-remove_entry}
use Rattle.dav_seal.specs.Sums.{total_of}

-- a sum loses the old summand and takes the new one, mod m
moved : (m old_sum new_sum old new : ℕ) → old ≤ m → new_sum + old ≡ old_sum + new → ((old_sum % m + (m - old)) % m + new) % m ≡ new_sum % m
moved m old_sum new_sum old new le is =
    let e : old_sum + (m - old) + new ≡ new_sum + m = omega arith in
    ap (λ n. (n + new) % m) (mod-add-mod old_sum m (m - old))
    ∙ mod-add-mod (old_sum + (m - old)) m new
    ∙ ap (λ n. n % m) e
    ∙ add-mod_right new_sum m

same_option : (o : Option ℕ) → unwrap_or (option_map (λ d. d) o) 0 ≡ unwrap_or o 0
same_option Option.None = refl
same_option (Option.Some x) = refl

pub total_of-nothing : 0 ≡ total_of []
unfolding total_of
total_of-nothing = refl

pub total_of-insert_entry :
    (digests : List (ℤ × ℕ)) (number : ℤ) (digest old : ℕ) → IsStrictlySortedBy int_cmp (keys_of digests)
    → old ≡ unwrap_or (lookup (is_at (int_cmp number)) digests) 0 → old ≤ 2 ^ 64
    → ((total_of digests + (2 ^ 64 - old)) % 2 ^ 64 + digest) % 2 ^ 64 ≡ total_of (insert_entry int_cmp digests number digest)
unfolding total_of
total_of-insert_entry digests number digest old sorted is le =
    let found = lookup (is_at (int_cmp number)) digests in
    let sum = sum_by-insert_entry (λ d. d) int_cmp_total digests number digest sorted in
    let e : sum_by (λ d. d) (values_of (insert_entry int_cmp digests number digest)) + old ≡ sum_by (λ d. d) (values_of digests) + digest =
    ap (λ n. sum_by (λ d. d) (values_of (insert_entry int_cmp digests number digest)) + n) (is ∙ sym (same_option found)) ∙ sum in
    moved (2 ^ 64) _ _ old digest le e

pub total_of-remove_entry :
    (digests : List (ℤ × ℕ)) (number : ℤ) (old : ℕ) → old ≡ unwrap_or (lookup (is_at (int_cmp number)) digests) 0 → old ≤ 2 ^ 64
    → (total_of digests + (2 ^ 64 - old)) % 2 ^ 64 ≡ total_of (remove_entry (is_at (int_cmp number)) digests)
unfolding total_of
total_of-remove_entry digests number old is le =
    let found = lookup (is_at (int_cmp number)) digests in
    let sum = sum_by-remove_entry (λ d. d) (is_at (int_cmp number)) digests in
    let e : sum_by (λ d. d) (values_of (remove_entry (is_at (int_cmp number)) digests)) + old ≡ sum_by (λ d. d) (values_of digests) + 0 =
    ap (λ n. sum_by (λ d. d) (values_of (remove_entry (is_at (int_cmp number)) digests)) + n) (is ∙ sym (same_option found)) ∙ sum ∙ sym (add-zero _) in
    let shifted = moved (2 ^ 64) _ _ old 0 le e in
    sym (ap (λ n. n % 2 ^ 64) (add-zero _) ∙ mod-mod _ (2 ^ 64)) ∙ shifted

-- ---- the digests of more than one table

abbrev sum : List (ℤ × ℕ) → ℕ
sum es = sum_by (λ d. d) (values_of es)

pub sum-append : (xs ys : List (ℤ × ℕ)) → sum_by (λ d. d) (values_of (xs ++ ys)) ≡ sum_by (λ d. d) (values_of xs) + sum_by (λ d. d) (values_of ys)
sum-append [] ys = omega arith
sum-append (x ∷ xs) ys =
    let first = sum_by-cons (λ d. d) x.1 (values_of (xs ++ ys)) in
    let rest = sum-append xs ys in
    let second = sum_by-cons (λ d. d) x.1 (values_of xs) in
    omega arith

added : (m a b : ℕ) → (a % m + b % m) % m ≡ (a + b) % m
added m a b =
    let turn : a + b % m ≡ b % m + a = omega arith in
    let back : b + a ≡ a + b = omega arith in
    mod-add-mod a m (b % m) ∙ ap (λ n. n % m) turn ∙ mod-add-mod b m a ∙ ap (λ n. n % m) back

-- the sums of five tables are added one after the other
pub total_of-five : (a b c d e : List (ℤ × ℕ))
    → ((((total_of a + total_of b) % 2 ^ 64 + total_of c) % 2 ^ 64 + total_of d) % 2 ^ 64 + total_of e) % 2 ^ 64 ≡ total_of (a ++ (b ++ (c ++ (d ++ e))))
unfolding total_of
total_of-five a b c d e =
    let m : ℕ = 2 ^ 64 in
    let all : sum a + sum b + sum c + sum d + sum e ≡ sum (a ++ (b ++ (c ++ (d ++ e)))) =
    let one = sum-append a (b ++ (c ++ (d ++ e))) in
    let two = sum-append b (c ++ (d ++ e)) in
    let three = sum-append c (d ++ e) in
    let four = sum-append d e in
    omega arith in
    ap (λ n. (((n + sum c % m) % m + sum d % m) % m + sum e % m) % m) (added m (sum a) (sum b))
    ∙ ap (λ n. ((n + sum d % m) % m + sum e % m) % m) (added m (sum a + sum b) (sum c))
    ∙ ap (λ n. (n + sum e % m) % m) (added m (sum a + sum b + sum c) (sum d))
    ∙ added m (sum a + sum b + sum c + sum d) (sum e)
    ∙ ap (λ n. n % m) all
