-- The resources that are loaded so far.
use Rattle.std.proofs.Common.{◌≡◌, ◌⊎◌, inl, inr, ◌+◌, ◌<◌, ◌≤◌, ℕ, List, [], ◌∷◌, ◌++◌, map, get_or, sym, ap, subst, ◌∙◌, arith}
use Rattle.std.specs.Prelude.{◌↔◌}
use Rattle.std.specs.List.{Contains, AllByRecursion}
use Rattle.std.specs.List.Sorted.{IsStrictlySortedBy}
use Rattle.std.specs.Ordering.{nat_cmp}
use Rattle.std.specs.declared.cmp.Ordering.TheVariants.{Less}
use Rattle.std.proofs.lemmas.Bool.{cases_lt}
use Rattle.std.proofs.lemmas.Bool.Decides.{nat_tests}
use Rattle.std.proofs.lemmas.List.Elements.{Contains-append_left, Contains-append_right, Contains-append_cases}
use Rattle.std.proofs.lemmas.List.{map-append}
use Rattle.dav_nodes.specs.Tree.{Tree}
use Rattle.dav_nodes.specs.Rows.{Row, HasRow}
use Rattle.dav_nodes.specs.TreeRows.{numbered_row, AreAscending, AreRowsOf}
use Rattle.dav_nodes.specs.declared.nodes.loading.NumberedValue.{NumberedValue}
use Rattle.dav_store_rows.specs.Resources.{Kept}
use Rattle.dav_store_rows.specs.Loads.{IsWhole}
use Rattle.dav_store_rows.proofs.Whole.{HasNoRow, same-row}

-- the values are those of the rows with numbers below the next one
pub record IsSoFar (tree : Tree Kept) (next : ℕ) (values : List (NumberedValue Kept)) : Type 0 where
  pub listed : (number : ℕ) (row : Row Kept) → Contains (map numbered_row values) (number, row) ↔ ((number < next) × HasRow tree number row)
  pub ascending : AreAscending values
  pub below : AllByRecursion (λ value. value.number < next) values

pub so-far-first : (tree : Tree Kept) → IsSoFar tree 0 []
unfolding IsStrictlySortedBy
so-far-first tree = record {
  listed = λ number row. (λ has. absurd (let lt = has.1 in omega arith), λ below. absurd (let lt = below.0 in omega arith));
  ascending = tt;
  below = tt;
}

-- ---- one more

all-more : (next n : ℕ) (values : List (NumberedValue Kept)) (value : NumberedValue Kept) → next ≤ n → value.number ≡ n → AllByRecursion (λ v. v.number < next) values → AllByRecursion (λ v. v.number < n + 1) (values ++ value ∷ [])
all-more next n [] value le is all = (omega arith, tt)
all-more next n (v ∷ values) value le is all = (let lt = all.0 in omega arith, all-more next n values value le is all.1)

ranked-below : (a b : ℕ) → a < b → nat_cmp a b ≡ Less
ranked-below a b lt = grind (arith, nat_tests)

all-less : (k n : ℕ) (ns : List ℕ) → AllByRecursion (λ y. nat_cmp k y ≡ Less) ns → k < n → AllByRecursion (λ y. nat_cmp k y ≡ Less) (ns ++ n ∷ [])
all-less k n [] all lt = (ranked-below k n lt, tt)
all-less k n (m ∷ ns) all lt = (all.0, all-less k n ns all.1 lt)

numbers-push : (next n : ℕ) (values : List (NumberedValue Kept)) → next ≤ n → AllByRecursion (λ v. v.number < next) values → AreAscending values → IsStrictlySortedBy nat_cmp (map (λ v. v.number) values ++ n ∷ [])
unfolding IsStrictlySortedBy
numbers-push next n [] le all up = (tt, tt)
numbers-push next n (v ∷ values) le all up =
    (let lt = all.0 in all-less v.number n (map (λ w. w.number) values) up.0 (omega arith), numbers-push next n values le all.1 up.1)

contains-one : {X : Type 0} (x y : X) → Contains (x ∷ []) y → x ≡ y
contains-one x y (k, lt, is) = let at : k ≡ 0 = omega (arith, lt) in ap (λ i. get_or (x ∷ []) i y) (sym at) ∙ is

one-contains : {X : Type 0} (x y : X) → x ≡ y → Contains (x ∷ []) y
one-contains x y e = (0, omega arith, e)

module _ (tree : Tree Kept) (whole : IsWhole tree) (next n : ℕ) (one : Row Kept) (values : List (NumberedValue Kept)) (value : NumberedValue Kept) (le : next ≤ n) (gap : (k : ℕ) → next ≤ k → k < n → HasNoRow tree k) (has : HasRow tree n one) (is : numbered_row value ≡ (n, one)) (so_far : IsSoFar tree next values) where
  listed-there : (number : ℕ) (row : Row Kept) → Contains (map numbered_row values) (number, row) ⊎ Contains (numbered_row value ∷ []) (number, row) → (number < n + 1) × HasRow tree number row
  listed-there number row (inl old) = let was = (so_far.listed number row).0 old in (let lt = was.0 in omega arith, was.1)
  listed-there number row (inr new) =
      let same : (n, one) ≡ (number, row) = sym is ∙ contains-one (numbered_row value) (number, row) new in
      (subst (λ k. k < n + 1) (ap (λ (p : ℕ × Row Kept). p.0) same) (omega arith), subst (λ (p : ℕ × Row Kept). HasRow tree p.0 p.1) same has)

  listed-last : (number : ℕ) (row : Row Kept) → number ≡ n → HasRow tree number row → Contains (numbered_row value ∷ []) (number, row)
  listed-last number row at there =
      let same : one ≡ row = same-row tree whole n one row has (subst (λ k. HasRow tree k row) at there) in
      one-contains (numbered_row value) (number, row) (is ∙ (λ i. ((sym at) i, same i)))

  listed-back : (number : ℕ) (row : Row Kept) → number < n + 1 → HasRow tree number row → Contains (map numbered_row values ++ numbered_row value ∷ []) (number, row)
  listed-back number row lt there = elim (cases_lt number next) [
    | inl old ↦ Contains-append_left (map numbered_row values) (numbered_row value ∷ []) (number, row) ((so_far.listed number row).1 (old, there))
    | inr new ↦ elim (cases_lt number n) [
      | inl between ↦ absurd (gap number new between row there)
      | inr past ↦ Contains-append_right (map numbered_row values) (numbered_row value ∷ []) (number, row) (listed-last number row (omega arith) there)
    ]
  ]

  pub so-far-push : IsSoFar tree (n + 1) (values ++ value ∷ [])
  so-far-push =
      let joins : map numbered_row (values ++ value ∷ []) ≡ map numbered_row values ++ numbered_row value ∷ [] = map-append numbered_row values (value ∷ []) in
      let number-is : value.number ≡ n = ap (λ p. p.0) is in
      record {
        listed = λ number row. (
          λ among. listed-there number row (Contains-append_cases (map numbered_row values) (numbered_row value ∷ []) (number, row) (subst (λ xs. Contains xs (number, row)) joins among)),
          λ below. subst (λ xs. Contains xs (number, row)) (sym joins) (listed-back number row below.0 below.1),
        );
        ascending =
            subst (IsStrictlySortedBy nat_cmp) (sym (map-append (λ (v : NumberedValue Kept). v.number) values (value ∷ []) ∙ ap (λ k. map (λ (v : NumberedValue Kept). v.number) values ++ k ∷ []) number-is))
            (numbers-push next n values le so_far.below so_far.ascending);
        below = all-more next n values value le number-is so_far.below;
      }

-- ---- all

pub so-far-all : (tree : Tree Kept) → IsWhole tree → (next : ℕ) (values : List (NumberedValue Kept)) → ((k : ℕ) → next ≤ k → HasNoRow tree k) → IsSoFar tree next values → AreRowsOf values tree
so-far-all tree whole next values none so_far = record {
  root = whole.root;
  distinct = whole.distinct;
  joined = whole.joined;
  numbered = whole.numbered;
  listed = λ number row. (
    λ among. ((so_far.listed number row).0 among).1,
    λ has. elim (cases_lt number next) [
      | inl below ↦ (so_far.listed number row).1 (below, has)
      | inr past ↦ absurd (none number past row has)
    ],
  );
  ascending = so_far.ascending;
}
