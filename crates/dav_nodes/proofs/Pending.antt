-- The rows that are still to be added to a tree.
use Rattle.std.proofs.Common.{◌≡◌, ◌≢◌, ◌⊎◌, inl, inr, ℕ, zero, suc, ◌<◌, arith, true, false, List, [], ◌∷◌, ◌++◌, map, Option, Some, None, is_some, Contains, refl, sym, ap, ◌∙◌}
use Rattle.std.specs.List.{AllByRecursion}
use Rattle.std.specs.Option.{option_map}
use Rattle.std.specs.FinMap.{get}
use Rattle.std.specs.Ordering.{nat_cmp}
use Rattle.std.specs.declared.cmp.Ordering.TheVariants.{Less, Greater}
use Rattle.std.specs.Cmp.{nat_cmp_is}
use Rattle.std.proofs.lemmas.Map.Keys.{sorted_head}
use Rattle.slab.proofs.SlabLemmas.{Contains-cons, Contains-cons_cases}
use Rattle.dav_key.specs.Key.{Key, parent}
use Rattle.dav_key.proofs.FlatLemmas.{parent-push}
use Rattle.dav_nodes.specs.Tree.{Tree}
use Rattle.dav_nodes.specs.Rows.{Row, own_name, row_of, HasRow}
use Rattle.dav_nodes.specs.TreeRows.{name_with, row_with, numbered_row, AreRowsOf, AreAscending}
use Rattle.dav_nodes.specs.Loading.{HasNumber}
use Rattle.dav_nodes.specs.declared.nodes.loading.NumberedValue.{NumberedValue}
use Rattle.dav_nodes.proofs.BelowKeys.{split_or_none}
use Rattle.dav_nodes.proofs.RowSteps.{own_name-push}

module _ {R : Type 0} where
  -- ---- the numbers of lists of rows

  pub has_left : (n : ℕ) (xs ys : List (NumberedValue R)) → HasNumber n xs → HasNumber n (xs ++ ys)
  has_left n [] ys has = absurd has
  has_left n (x ∷ xs) ys (inl is) = inl is
  has_left n (x ∷ xs) ys (inr has) = inr (has_left n xs ys has)

  pub has_right : (n : ℕ) (xs ys : List (NumberedValue R)) → HasNumber n ys → HasNumber n (xs ++ ys)
  has_right n [] ys has = has
  has_right n (x ∷ xs) ys has = inr (has_right n xs ys has)

  pub has_cases : (n : ℕ) (xs ys : List (NumberedValue R)) → HasNumber n (xs ++ ys) → HasNumber n xs ⊎ HasNumber n ys
  has_cases n [] ys has = inr has
  has_cases n (x ∷ xs) ys (inl is) = inl (inl is)
  has_cases n (x ∷ xs) ys (inr has) = elim (has_cases n xs ys has) [ inl in_xs ↦ inl (inr in_xs) | inr in_ys ↦ inr in_ys ]

  module _ (P : NumberedValue R → Type 0) where
    pub all_left : (xs ys : List (NumberedValue R)) → AllByRecursion P (xs ++ ys) → AllByRecursion P xs
    all_left [] ys all = tt
    all_left (x ∷ xs) ys all = (all.0, all_left xs ys all.1)

    pub all_right : (xs ys : List (NumberedValue R)) → AllByRecursion P (xs ++ ys) → AllByRecursion P ys
    all_right [] ys all = all
    all_right (x ∷ xs) ys all = all_right xs ys all.1

    pub all_both : (xs ys : List (NumberedValue R)) → AllByRecursion P xs → AllByRecursion P ys → AllByRecursion P (xs ++ ys)
    all_both [] ys a b = b
    all_both (x ∷ xs) ys a b = (a.0, all_both xs ys a.1 b)

    -- what holds of all rows, and what else does, hold of the one with a number
    pub both_at : (Q : NumberedValue R → Type 0) (n : ℕ) (xs : List (NumberedValue R)) → AllByRecursion P xs → AllByRecursion Q xs → HasNumber n xs → (entry : NumberedValue R) × (entry.number ≡ n) × P entry × Q entry
    both_at Q n [] all too has = absurd has
    both_at Q n (x ∷ xs) all too (inl is) = (x, is, all.0, too.0)
    both_at Q n (x ∷ xs) all too (inr has) = both_at Q n xs all.1 too.1 has

  -- ---- the rows of a tree

  -- a row among the rows has its number there
  pub number_among : (rows : List (NumberedValue R)) (n : ℕ) (row : Row R) → Contains (map numbered_row rows) (n, row) → HasNumber n rows
  number_among [] n row has = absurd (omega (arith, has.1))
  number_among (entry ∷ rows) n row has = elim (Contains-cons_cases (numbered_row entry) (n, row) (map numbered_row rows) has) [
    | inl here ↦ inl (ap (λ (p : ℕ × Row R). p.0) here)
    | inr later ↦ inr (number_among rows n row later)
  ]

  -- what holds of each row among these holds of all
  pub all_rows : (P : ℕ → Row R → Type 0) (rows : List (NumberedValue R)) → ((n : ℕ) (row : Row R) → Contains (map numbered_row rows) (n, row) → P n row)
      → AllByRecursion (λ entry. P entry.number (row_with entry)) rows
  all_rows P [] each = tt
  all_rows P (entry ∷ rows) each = (
    each entry.number (row_with entry) (0, omega arith, refl),
    all_rows P rows (λ n row has. each n row (Contains-cons (numbered_row entry) (n, row) (map numbered_row rows) has)),
  )

  -- a number with a key is that of a row
  pub key_row : (tree : Tree R) (key : Key) (n : ℕ) → get tree.numbers key ≡ Some n → is_some (get tree.numbers key) ≡ is_some (get tree.values key) → (row : Row R) × HasRow tree n row
  key_row tree key n at same = by (get tree.values key) refl (sym same ∙ ap is_some at)
    where
      by : (o : Option R) → get tree.values key ≡ o → is_some (get tree.values key) ≡ true → (row : Row R) × HasRow tree n row
      by None none some = absurd (let no : true ≡ false = sym some ∙ ap is_some none in cc)
      by (Some x) is some = (
        record { above = get tree.numbers (parent key); name = own_name key; value = x },
        (key, at, ap (option_map (λ value. record { above = get tree.numbers (parent key); name = own_name key; value = value })) is),
      )

  pub has_row : (rows : List (NumberedValue R)) (tree : Tree R) → AreRowsOf rows tree → (key : Key) (n : ℕ) → get tree.numbers key ≡ Some n → HasNumber n rows
  has_row rows tree are key n at = let found = key_row tree key n at (are.numbered key) in number_among rows n found.0 ((are.listed n found.0).1 found.1)

  -- the first row in ascending order is that of 0
  pub first_is : (entry : NumberedValue R) (rows : List (NumberedValue R)) → AreAscending (entry ∷ rows) → HasNumber 0 (entry ∷ rows) → entry.number ≡ 0
  first_is entry rows up (inl is) = is
  first_is entry rows up (inr later) = below entry.number rows (sorted_head nat_cmp entry.number (map (λ e. e.number) rows) up) later
    where
      below : (n : ℕ) (xs : List (NumberedValue R)) → AllByRecursion (λ m. nat_cmp n m ≡ Less) (map (λ e. e.number) xs) → HasNumber 0 xs → n ≡ 0
      below n [] less has = absurd has
      below n (x ∷ xs) less (inl is) = least n (ap (nat_cmp n) (sym is) ∙ less.0)
        where
          least : (m : ℕ) → nat_cmp m 0 ≡ Less → m ≡ 0
          least zero l = refl
          least (suc m) l = absurd (let more : 0 < suc m = omega arith in let no : Less ≡ Greater = sym l ∙ sym (nat_cmp_is (suc m) 0 Greater more) in cc)
      below n (x ∷ xs) less (inr has) = below n xs less.1 has

  -- ---- what a row says of its key

  -- the value, the parent's number and the name of a key with a row
  pub row_parts : (tree : Tree R) (key : Key) (row : Row R) → row_of tree key ≡ Some row → (get tree.values key ≡ Some row.value) × (get tree.numbers (parent key) ≡ row.above) × (own_name key ≡ row.name)
  row_parts tree key row is = by (get tree.values key) refl is
    where
      by : (o : Option R) → get tree.values key ≡ o → option_map (λ value. record { above = get tree.numbers (parent key); name = own_name key; value = value }) o ≡ Some row
          → (get tree.values key ≡ Some row.value) × (get tree.numbers (parent key) ≡ row.above) × (own_name key ≡ row.name)
      by None at e = absurd cc
      by (Some x) at e =
          let same : record { above = get tree.numbers (parent key); name = own_name key; value = x } ≡ row = ap (unwrap_row row) e in
          (at ∙ ap (λ r. Some r.value) same, ap (λ r. r.above) same, ap (λ r. r.name) same)
        where
          unwrap_row : Row R → Option (Row R) → Row R
          unwrap_row d None = d
          unwrap_row d (Some r) = r

-- a key with a name has this last segment
pub named_key : (key : Key) (s : List ℕ) → own_name key ≡ Some s → key ≡ parent key ++ s ∷ []
named_key key s is = elim (split_or_none key) [
  | inl root ↦ absurd (let none : None ≡ Some s = ap own_name (sym root) ∙ is in cc)
  | inr last ↦
      let last_is : last.1 ≡ s = some_name last.1 s (sym (own_name-push last.0 last.1) ∙ ap own_name (sym last.2) ∙ is) in
      last.2 ∙ (λ i. (sym (ap parent last.2 ∙ parent-push last.0 last.1)) i ++ last_is i ∷ [])
]
  where
    some_name : (s t : List ℕ) → Some s ≡ Some t → s ≡ t
    some_name s t e = cc

pub named : (n : ℕ) (s : List ℕ) → n ≢ 0 → name_with n s ≡ Some s
named zero s apart = absurd (apart refl)
named (suc n) s apart = refl
