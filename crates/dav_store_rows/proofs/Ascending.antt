-- Entries in ascending order of numbers, from a number on.
use Rattle.std.proofs.Common.{◌≡◌, ◌≢◌, ◌≤◌, ◌<◌, ◌+◌, ◌-◌, ◌*◌, ◌/◌, ℕ, suc, Bool, true, false, cond, T, List, [], ◌∷◌, map, take, drop, length, Option, Some, None, refl, sym, ap, subst, ◌∙◌, arith, inl, inr}
use Rattle.std.specs.Prelude.{ℤ, pos, negsuc, ◌&&◌, slice_get}
use Rattle.std.specs.List.{take_while}
use Rattle.std.specs.FinMap.{FinMap, get, entries, entries_sorted, get-entries}
use Rattle.std.specs.FinMap.Entries.{find, is_sorted, below_all}
use Rattle.std.specs.Ordering.{int_cmp, eq_by_cmp, is_lt, nat_cmp}
use Rattle.std.proofs.lemmas.Bool.{cases_lt}
use Rattle.std.proofs.lemmas.Option.{same_Some}
use Rattle.std.proofs.lemmas.Bool.Decides.{nat_tests}
use Rattle.std.proofs.lemmas.List.Sums.{take_while-cons}
use Rattle.dav_store_rows.specs.Parts.{MOST}
use Rattle.dav_store_rows.specs.Loads.{is_part, values_of}

first : (a b : Bool) → T (a && b) → T a
first true b p = tt
first false b p = p

second : (a b : Bool) → T (a && b) → T b
second true b p = p
second false b p = absurd p

int_cmp_pos : (a b : ℕ) → int_cmp (pos a) (pos b) ≡ nat_cmp a b
int_cmp_pos a b = grind (arith, nat_tests)

is_below : (a b : ℕ) → T (is_lt (int_cmp (pos a) (pos b))) → a < b
is_below a b h = grind (arith, nat_tests)

apart : (a b : ℕ) → a < b → eq_by_cmp int_cmp (pos a) (pos b) ≡ false
apart a b h = grind (arith, nat_tests)

apart_after : (a b : ℕ) → b < a → eq_by_cmp int_cmp (pos a) (pos b) ≡ false
apart_after a b h = grind (arith, nat_tests)

tied : (a : ℕ) → eq_by_cmp int_cmp (pos a) (pos a) ≡ true
tied a = grind (arith, nat_tests)

int_tied : (z : ℤ) → eq_by_cmp int_cmp z z ≡ true
int_tied (pos n) = tied n
int_tied (negsuc n) = grind (arith, nat_tests)

module _ {V : Type 0} where
  -- the next number with a value, from `start` on, is that of the entry
  pub record IsNext (f : ℕ → Option V) (start : ℕ) (e : ℤ × V) (number : ℕ) : Type 0 where
    pub key : e.0 ≡ pos number
    pub from : start ≤ number
    pub value : f number ≡ Some e.1
    pub none : (k : ℕ) → start ≤ k → k < number → f k ≡ None

  -- the entries are those of the numbers from `start` on that have a value, in ascending order
  abbrev pub AreFrom : (ℕ → Option V) → ℕ → List (ℤ × V) → Type 0
  AreFrom f start [] = (n : ℕ) → start ≤ n → f n ≡ None
  AreFrom f start (e ∷ es) = (number : ℕ) × IsNext f start e number × AreFrom f (number + 1) es

  pub not_both : {P : Type 0} (o : Option V) (v : V) → o ≡ Some v → o ≡ None → P
  not_both o v some none = cc

  -- there is no value between the two numbers
  abbrev pub NoneBetween : (ℕ → Option V) → ℕ → ℕ → Type 0
  NoneBetween f start to = (k : ℕ) → start ≤ k → k < to → f k ≡ None

  reaches : (f : ℕ → Option V) (start to : ℕ) (e : ℤ × V) (number : ℕ) → NoneBetween f start to → IsNext f start e number → to ≤ number
  reaches f start to e number none next =
      elim (cases_lt number to) [ inl below ↦ not_both (f number) e.1 next.value (none number next.from below) | inr past ↦ past ]

  pub skip : (f : ℕ → Option V) (start to : ℕ) (es : List (ℤ × V)) → start ≤ to → NoneBetween f start to → AreFrom f start es → AreFrom f to es
  skip f start to [] le none from = λ n h. from n (omega arith)
  skip f start to (e ∷ es) le none (number, next, rest) =
      (number, record { key = next.key; from = reaches f start to e number none next; value = next.value; none = λ k lo hi. next.none k (omega arith) hi }, rest)

  starts : (f : ℕ → Option V) (start : ℕ) (v : V) (e : ℤ × V) (number : ℕ) → f start ≡ Some v → IsNext f start e number → number ≡ start
  starts f start v e number some next =
      elim (cases_lt start number) [ inl below ↦ not_both (f start) v some (next.none start (omega arith) below) | inr past ↦ (let from = next.from in omega arith) ]

  abbrev pub StartsAt : (ℕ → Option V) → ℕ → V → ℤ × V → List (ℤ × V) → Type 0
  StartsAt f start v e es = (e.0 ≡ pos start) × (e.1 ≡ v) × AreFrom f (start + 1) es

  pub step : (f : ℕ → Option V) (start : ℕ) (v : V) (e : ℤ × V) (es : List (ℤ × V)) → f start ≡ Some v → AreFrom f start (e ∷ es) → StartsAt f start v e es
  step f start v e es some (number, next, rest) =
      let at = starts f start v e number some next in
      (next.key ∙ ap pos at, same_Some e.1 v (sym next.value ∙ ap f at ∙ some), subst (λ n. AreFrom f (n + 1) es) at rest)

  pub no_end : {P : Type 0} (f : ℕ → Option V) (start : ℕ) (v : V) → f start ≡ Some v → AreFrom f start [] → P
  no_end f start v some from = not_both (f start) v some (from start (omega arith))

  -- ---- the entries of a map

  abbrev pub AllFrom : ℕ → List (ℤ × V) → Type 0
  AllFrom start [] = Unit {0}
  AllFrom start (e ∷ es) = (n : ℕ) × (e.0 ≡ pos n) × (start ≤ n) × AllFrom start es

  raise : (n start : ℕ) (es : List (ℤ × V)) → AllFrom start es → T (below_all int_cmp (pos n) es) → AllFrom (n + 1) es
  raise n start [] all below = tt
  raise n start (e ∷ es) (k, key, from, rest) below =
      let more = is_below n k (subst (λ z. T (is_lt (int_cmp (pos n) z))) key (first _ _ below)) in
      (k, key, omega (arith, more), raise n start es rest (second _ _ below))

  find_none : (start k : ℕ) (es : List (ℤ × V)) → k < start → AllFrom start es → find int_cmp (pos k) es ≡ None
  find_none start k [] lt all = refl
  find_none start k (e ∷ es) lt (n, key, from, rest) =
      let off : eq_by_cmp int_cmp (pos k) e.0 ≡ false = ap (eq_by_cmp int_cmp (pos k)) key ∙ apart k n (omega (arith, from, lt)) in
      ap (λ b. cond b (Some e.1) (find int_cmp (pos k) es)) off ∙ find_none start k es lt rest

  find_here : (n : ℕ) (e : ℤ × V) (es : List (ℤ × V)) → e.0 ≡ pos n → find int_cmp (pos n) (e ∷ es) ≡ Some e.1
  find_here n e es key =
      let on : eq_by_cmp int_cmp (pos n) e.0 ≡ true = ap (eq_by_cmp int_cmp (pos n)) key ∙ tied n in
      ap (λ b. cond b (Some e.1) (find int_cmp (pos n) es)) on

  find_later : (n k : ℕ) (e : ℤ × V) (es : List (ℤ × V)) → e.0 ≡ pos n → n < k → find int_cmp (pos k) (e ∷ es) ≡ find int_cmp (pos k) es
  find_later n k e es key lt =
      let off : eq_by_cmp int_cmp (pos k) e.0 ≡ false = ap (eq_by_cmp int_cmp (pos k)) key ∙ apart_after k n lt in
      ap (λ b. cond b (Some e.1) (find int_cmp (pos k) es)) off

  find_before : (n k : ℕ) (e : ℤ × V) (es : List (ℤ × V)) → e.0 ≡ pos n → k < n → AllFrom (n + 1) es → find int_cmp (pos k) (e ∷ es) ≡ None
  find_before n k e es key lt all =
      let off : eq_by_cmp int_cmp (pos k) e.0 ≡ false = ap (eq_by_cmp int_cmp (pos k)) key ∙ apart k n lt in
      ap (λ b. cond b (Some e.1) (find int_cmp (pos k) es)) off ∙ find_none (n + 1) k es (omega arith) all

  -- the entries of a sorted list are those of its numbers
  pub are-from : (f : ℕ → Option V) (start : ℕ) (es : List (ℤ × V)) → T (is_sorted int_cmp es) → AllFrom start es → ((k : ℕ) → start ≤ k → f k ≡ find int_cmp (pos k) es) → AreFrom f start es
  are-from f start [] sorted all same = λ n h. same n h
  are-from f start (e ∷ es) sorted (n, key, from, rest) same =
      let above : AllFrom (n + 1) es = raise n start es rest (subst (λ z. T (below_all int_cmp z es)) key (first _ _ sorted)) in (
        n,
        record { key = key; from = from; value = same n from ∙ find_here n e es key; none = λ k lo hi. same k lo ∙ find_before n k e es key hi above },
        are-from f (n + 1) es (second _ _ sorted) above (λ k lo. same k (omega (arith, lo, from)) ∙ find_later n k e es key (omega (arith, lo))),
      )

  -- each key with a value is a number
  abbrev pub HasOnlyNumbers : FinMap int_cmp V → Type 0
  HasOnlyNumbers m = (key : ℤ) → get m key ≢ None → (n : ℕ) × (key ≡ pos n)

  is-there : (b : Bool) (v : V) (o : Option V) → o ≢ None → cond b (Some v) o ≢ None
  is-there true v o has = λ e. not_both (Some v) v refl e
  is-there false v o has = has

  there : (b : Bool) (v : V) (o : Option V) → b ≡ true → cond b (Some v) o ≢ None
  there true v o on = λ e. not_both (Some v) v refl e
  there false v o on = absurd (cc)

  all-numbers : (es : List (ℤ × V)) → ((key : ℤ) → find int_cmp key es ≢ None → (n : ℕ) × (key ≡ pos n)) → AllFrom 0 es
  all-numbers [] only = tt
  all-numbers (e ∷ es) only =
      let here = only e.0 (there _ e.1 _ (int_tied e.0)) in
      (here.0, here.1, omega arith, all-numbers es (λ key has. only key (is-there _ e.1 _ has)))

  -- the entries of a map whose keys are numbers
  pub entries-from : (m : FinMap int_cmp V) → HasOnlyNumbers m → AreFrom (λ n. get m (pos n)) 0 (entries m)
  entries-from m only =
      are-from (λ n. get m (pos n)) 0 (entries m) (entries_sorted m)
      (all-numbers (entries m) (λ key has. only key (λ none. has (sym (get-entries m key) ∙ none))))
      (λ k lo. get-entries m (pos k))

-- ---- the parts of a resource

in-part : (number index : ℕ) → index < MOST → (number * MOST + index) / MOST ≡ number
in-part number index lt = omega arith

of-part : (number index : ℕ) → index < MOST → is_part number (pos (number * MOST + index)) ≡ true
of-part number index lt = let e = in-part number index lt in grind (arith, nat_tests)

past-part : (number k : ℕ) → (number + 1) * MOST ≤ k → is_part number (pos k) ≡ false
past-part number k le = let lt : number < k / MOST = omega arith in grind (arith, nat_tests)

module _ {V R : Type 0} (entry : R → ℤ × V) (f : ℕ → Option V) (number : ℕ) where
  abbrev own : R → Bool
  own row = is_part number (entry row).0

  abbrev own_len : List R → ℕ
  own_len rows = length (take_while own rows)

  -- the values of the resource's numbers from an index on are these
  abbrev pub HasFrom : ℕ → List V → Type 0
  HasFrom start parts = (k : ℕ) → start + k < MOST → f (number * MOST + (start + k)) ≡ slice_get parts k

  -- the rows at the front are the parts, and the others are those of the resources with greater numbers
  pub record IsSplit (parts : List V) (rows : List R) (n : ℕ) : Type 0 where
    pub own_rows : values_of (map entry (take n rows)) ≡ parts
    pub others : AreFrom f ((number + 1) * MOST) (map entry (drop n rows))

  len-own : (row : R) (rows : List R) → own row ≡ true → own_len (row ∷ rows) ≡ suc (own_len rows)
  len-own row rows is = ap length (take_while-cons own row rows ∙ ap (λ b. cond b (row ∷ take_while own rows) []) is)

  len-other : (row : R) (rows : List R) → own row ≡ false → own_len (row ∷ rows) ≡ 0
  len-other row rows is = ap length (take_while-cons own row rows ∙ ap (λ b. cond b (row ∷ take_while own rows) []) is)

  none-left : (start : ℕ) → HasFrom start [] → NoneBetween f (number * MOST + start) ((number + 1) * MOST)
  none-left start has k lo hi =
      let j : ℕ = k - (number * MOST + start) in
      let same : number * MOST + (start + j) ≡ k = omega arith in
      sym (ap f same) ∙ has j (omega arith)

  split-none : (start : ℕ) (rows : List R) → start ≤ MOST → HasFrom start [] → AreFrom f (number * MOST + start) (map entry rows) → IsSplit [] rows (own_len rows)
  split-none start [] le has from = record { own_rows = refl; others = λ n h. from n (omega arith) }
  split-none start (row ∷ rows) le has from =
      let none = none-left start has in
      let past = reaches f (number * MOST + start) ((number + 1) * MOST) (entry row) from.0 none from.1 in
      let other : own row ≡ false = ap (is_part number) from.1.key ∙ past-part number from.0 past in
      let n-is = len-other row rows other in
      record {
        own_rows = ap (λ n. values_of (map entry (take n (row ∷ rows)))) n-is;
        others =
            subst (λ n. AreFrom f ((number + 1) * MOST) (map entry (drop n (row ∷ rows)))) (sym n-is)
            (skip f (number * MOST + start) ((number + 1) * MOST) (map entry (row ∷ rows)) (omega arith) none from);
      }

  first-is : (start : ℕ) (v : V) (parts : List V) → start < MOST → HasFrom start (v ∷ parts) → f (number * MOST + start) ≡ Some v
  first-is start v parts lt has =
      let same : number * MOST + (start + 0) ≡ number * MOST + start = omega arith in
      sym (ap f same) ∙ has 0 (omega arith)

  rest-are : (start : ℕ) (v : V) (parts : List V) → HasFrom start (v ∷ parts) → HasFrom (start + 1) parts
  rest-are start v parts has k lt =
      let same : number * MOST + (start + suc k) ≡ number * MOST + (start + 1 + k) = omega arith in
      sym (ap f same) ∙ has (suc k) (omega arith)

  pub split : (start : ℕ) (parts : List V) (rows : List R) → start + length parts ≤ MOST → HasFrom start parts → AreFrom f (number * MOST + start) (map entry rows) → IsSplit parts rows (own_len rows)
  split start [] rows le has from = split-none start rows (omega arith) has from
  split start (v ∷ parts) [] le has from = no_end f (number * MOST + start) v (first-is start v parts (omega arith) has) from
  split start (v ∷ parts) (row ∷ rows) le has from =
      let here = step f (number * MOST + start) v (entry row) (map entry rows) (first-is start v parts (omega arith) has) from in
      let is-own : own row ≡ true = ap (is_part number) here.0 ∙ of-part number start (omega arith) in
      let n-is = len-own row rows is-own in
      let same : number * MOST + start + 1 ≡ number * MOST + (start + 1) = omega arith in
      let more = split (start + 1) parts rows (omega arith) (rest-are start v parts has) (subst (λ n. AreFrom f n (map entry rows)) same here.2) in
      record {
        own_rows = ap (λ n. values_of (map entry (take n (row ∷ rows)))) n-is ∙ ap (λ vs. (entry row).1 ∷ vs) more.own_rows ∙ ap (λ x. x ∷ parts) here.1;
        others = subst (λ n. AreFrom f ((number + 1) * MOST) (map entry (drop n (row ∷ rows)))) (sym n-is) more.others;
      }
