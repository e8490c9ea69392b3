-- What is left to load, from a number on.
use Rattle.std.proofs.Common.{◌≡◌, inl, inr, ◌+◌, ◌*◌, ◌/◌, ◌%◌, ◌<◌, ◌≤◌, ℕ, List, [], ◌∷◌, ◌++◌, length, map, take, drop, get_or, Option, None, refl, sym, ap, subst, ◌∙◌, arith}
use Rattle.std.specs.Prelude.{ℤ, pos}
use Rattle.std.specs.List.{take_while}
use Rattle.std.specs.FinMap.{get}
use Rattle.std.proofs.lemmas.Option.{same_Some}
use Rattle.dav_nodes.specs.Tree.{Tree}
use Rattle.dav_nodes.specs.Rows.{Row, HasRow}
use Rattle.dav_nodes.specs.TreeRows.{numbered_row, AreRowsOf}
use Rattle.dav_nodes.specs.declared.nodes.loading.NumberedValue.{NumberedValue}
use Rattle.dav_rows.specs.Stored.{Numbered}
use Rattle.dav_rows.specs.Contents.{Contents}
use Rattle.dav_rows.specs.Changes.{resource_entry, extent_entry, property_entry}
use Rattle.dav_rows.specs.Loading.{AreAll}
use Rattle.dav_rows.specs.declared.loading.Rows.{Rows}
use Rattle.dav_rows.specs.declared.resource.ResourceRow.{ResourceRow}
use Rattle.dav_rows.specs.declared.extent.ExtentRow.{ExtentRow}
use Rattle.dav_rows.specs.declared.property.PropertyRow.{PropertyRow}
use Rattle.dav_store_rows.specs.Parts.{MOST, HasParts, HasOnlyParts}
use Rattle.dav_store_rows.specs.Resources.{Kept, resource_values, extents_from, properties_of}
use Rattle.dav_store_rows.specs.Stands.{StandFor, HasNoRows}
use Rattle.dav_store_rows.specs.Loads.{IsWhole, is_part, IsOneResource}
use Rattle.dav_store_rows.proofs.Ascending.{IsNext, AreFrom, NoneBetween, HasOnlyNumbers, IsSplit, entries-from, skip, split}
use Rattle.dav_store_rows.proofs.Decoding.{drop-item, drop-end}
use Rattle.dav_store_rows.proofs.Whole.{HasNoRow, row_parts, row-or-none, row-place}
use Rattle.dav_store_rows.proofs.SoFar.{IsSoFar, so-far-first, so-far-push, so-far-all}

-- the value of a number
abbrev pub at : {V : Type 0} → Numbered V → ℕ → Option V
at m n = get m (pos n)

-- how many rows at the front are of parts of a resource
abbrev pub own_extents : ℕ → List ExtentRow → ℕ
own_extents n rows = length (take_while (λ row. is_part n (extent_entry row).0) rows)

abbrev pub own_properties : ℕ → List PropertyRow → ℕ
own_properties n rows = length (take_while (λ row. is_part n (property_entry row).0) rows)

-- the rows that are left are those of the numbers from one on, and the values are those of the numbers below it
pub record IsLoading (m : Contents) (tree : Tree Kept) (rows : List ResourceRow) (extents : List ExtentRow) (properties : List PropertyRow) (values : List (NumberedValue Kept)) : Type 0 where
  pub next : ℕ
  pub rows_left : AreFrom (at m.resources) next (map resource_entry rows)
  pub extents_left : AreFrom (at m.extents) (next * MOST) (map extent_entry extents)
  pub properties_left : AreFrom (at m.properties) (next * MOST) (map property_entry properties)
  pub so_far : IsSoFar tree next values

-- ---- the start

part-numbers : {V : Type 0} (m : Numbered V) → HasOnlyParts m → HasOnlyNumbers m
part-numbers m only key has = let part = only key has in (part.0 * MOST + part.1.0, part.1.2)

pub load-first : (m : Contents) (tree : Tree Kept) (rows : Rows) → AreAll rows m → StandFor m tree → IsLoading m tree rows.resources.items rows.extents.items rows.properties.items []
load-first m tree rows all stand = record {
  next = 0;
  rows_left = subst (AreFrom (at m.resources) 0) (sym all.resources) (entries-from m.resources stand.only_resources);
  extents_left = subst (AreFrom (at m.extents) 0) (sym all.extents) (entries-from m.extents (part-numbers m.extents stand.only_extents));
  properties_left = subst (AreFrom (at m.properties) 0) (sym all.properties) (entries-from m.properties (part-numbers m.properties stand.only_properties));
  so_far = so-far-first tree;
}

-- ---- numbers without resources

module _ (m : Contents) (tree : Tree Kept) (stand : StandFor m tree) where
  no-row : (n : ℕ) → at m.resources n ≡ None → HasNoRow tree n
  no-row n none row has = absurd (let some = (stand.kept n row has).resource in cc)

  no-rows : (n : ℕ) → at m.resources n ≡ None → HasNoRows m n
  no-rows n none = stand.none n (no-row n none)

-- no numbers of parts between those of two resources, if the resources from the one to the other have no parts
parts-gap : {V : Type 0} (m : Numbered V) (next n : ℕ) → ((k : ℕ) → next ≤ k → k < n → HasParts m k []) → NoneBetween (at m) (next * MOST) (n * MOST)
parts-gap m next n none k lo hi =
    let same : k / MOST * MOST + k % MOST ≡ k = omega arith in
    sym (ap (at m) same) ∙ (none (k / MOST) (omega arith) (omega arith)).rows (k % MOST) (omega arith)

-- no numbers of parts from those of a resource on, if the resources from it on have no parts
parts-end : {V : Type 0} (m : Numbered V) (next : ℕ) → ((k : ℕ) → next ≤ k → HasParts m k []) → (k : ℕ) → next * MOST ≤ k → at m k ≡ None
parts-end m next none k lo =
    let same : k / MOST * MOST + k % MOST ≡ k = omega arith in
    sym (ap (at m) same) ∙ (none (k / MOST) (omega arith)).rows (k % MOST) (omega arith)

-- the rows at the front are the parts of a resource, if the resources between have none
split-at : {V R : Type 0} (entry : R → ℤ × V) (m : Numbered V) (next n : ℕ) (parts : List V) (rows : List R) → next ≤ n → ((k : ℕ) → next ≤ k → k < n → HasParts m k []) → HasParts m n parts → AreFrom (at m) (next * MOST) (map entry rows) → IsSplit entry (at m) n parts rows (length (take_while (λ row. is_part n (entry row).0) rows))
split-at entry m next n parts rows le none has from =
    let begins : n * MOST ≡ n * MOST + 0 = omega arith in
    split entry (at m) n 0 parts rows (let fits = has.fits in omega arith) (λ k lt. let same : n * MOST + (0 + k) ≡ n * MOST + k = omega arith in ap (at m) same ∙ has.rows k (omega (arith, lt)))
    (subst (λ s. AreFrom (at m) s (map entry rows)) begins (skip (at m) (next * MOST) (n * MOST) (map entry rows) (omega arith) (parts-gap m next n none) from))

-- ---- one resource

-- the next resource, its rows, and what is left after it
pub record IsNextOne (m : Contents) (tree : Tree Kept) (row : ResourceRow) (rows : List ResourceRow) (extents : List ExtentRow) (properties : List PropertyRow) (values : List (NumberedValue Kept)) : Type 0 where
  pub number : ℕ
  pub one : Row Kept
  pub is_number : row.number ≡ pos number
  pub is : IsOneResource number one row (take (own_extents number extents) extents) (take (own_properties number properties) properties)
  pub after : (value : NumberedValue Kept) → numbered_row value ≡ (number, one) → IsLoading m tree rows (drop (own_extents number extents) extents) (drop (own_properties number properties) properties) (values ++ value ∷ [])

module _ (m : Contents) (tree : Tree Kept) (stand : StandFor m tree) (whole : IsWhole tree) (row : ResourceRow) (rows : List ResourceRow) (extents : List ExtentRow) (properties : List PropertyRow) (values : List (NumberedValue Kept)) (loading : IsLoading m tree (row ∷ rows) extents properties values) where
  next-of : (n : ℕ) → IsNext (at m.resources) loading.next (resource_entry row) n → AreFrom (at m.resources) (n + 1) (map resource_entry rows) → (one : Row Kept) → HasRow tree n one → IsNextOne m tree row rows extents properties values
  next-of n is-next left one has =
      let has-rows = stand.kept n one has in
      let gap = λ (k : ℕ) (lo : loading.next ≤ k) (hi : k < n). no-rows m tree stand k (is-next.none k lo hi) in
      let own-extents = split-at extent_entry m.extents loading.next n (extents_from n 0 has-rows.extents.groups) extents is-next.from (λ k lo hi. (gap k lo hi).extents) has-rows.extents.rows loading.extents_left in
      let own-properties = split-at property_entry m.properties loading.next n (properties_of n one.value.properties) properties is-next.from (λ k lo hi. (gap k lo hi).properties) has-rows.properties loading.properties_left in
      let value-is : (resource_entry row).1 ≡ resource_values one = same_Some _ _ (sym is-next.value ∙ has-rows.resource) in
      let at-key = (row_parts tree has.0 one has.2).0 in
      record {
        number = n;
        one = one;
        is_number = is-next.key;
        is = record {
          place = row-place tree whole n one has;
          is = λ i. (is-next.key i, value-is i);
          extents_are = record { groups = has-rows.extents.groups; joined_are = has-rows.extents.joined_are; valid = has-rows.extents.valid; rows = own-extents.own_rows };
          properties_are = record { rows = own-properties.own_rows; decoded = has-rows.decoded; named = whole.named has.0 one.value at-key };
          within = whole.within has.0 one.value at-key;
        };
        after = λ value is. record {
          next = n + 1;
          rows_left = left;
          extents_left = own-extents.others;
          properties_left = own-properties.others;
          so_far = so-far-push tree whole loading.next n one values value is-next.from (λ k lo hi. no-row m tree stand k (is-next.none k lo hi)) has is loading.so_far;
        };
      }

  pub load-next : IsNextOne m tree row rows extents properties values
  load-next =
      let n : ℕ = loading.rows_left.0 in
      let is-next = loading.rows_left.1 in
      elim (row-or-none tree whole n) [
        | inl (one, has) ↦ next-of n is-next loading.rows_left.2 one has
        | inr none ↦ absurd (let without = (stand.none n none).resource in let some = is-next.value in cc)
      ]

-- the same at an index of all rows
pub load-row : (m : Contents) (tree : Tree Kept) → StandFor m tree → IsWhole tree → (all : List ResourceRow) (i : ℕ) (row : ResourceRow) (extents : List ExtentRow) (properties : List PropertyRow) (values : List (NumberedValue Kept)) → i < length all → row ≡ get_or all i row → IsLoading m tree (drop i all) extents properties values → IsNextOne m tree row (drop (i + 1) all) extents properties values
load-row m tree stand whole all i row extents properties values lt is loading =
    load-next m tree stand whole row (drop (i + 1) all) extents properties values
    (subst (λ rows. IsLoading m tree rows extents properties values) (drop-item all i row lt is) loading)

pub loading-same : (m : Contents) (tree : Tree Kept) (rows : List ResourceRow) (extents other_extents : List ExtentRow) (properties other_properties : List PropertyRow) (values other_values : List (NumberedValue Kept)) → extents ≡ other_extents → properties ≡ other_properties → values ≡ other_values → IsLoading m tree rows other_extents other_properties other_values → IsLoading m tree rows extents properties values
loading-same m tree rows extents other_extents properties other_properties values other_values e p v loading =
    subst (λ x. IsLoading m tree rows x properties values) (sym e)
    (subst (λ x. IsLoading m tree rows other_extents x values) (sym p) (subst (λ x. IsLoading m tree rows other_extents other_properties x) (sym v) loading))

pub resource-same : (n : ℕ) (one : Row Kept) (row : ResourceRow) (extents other_extents : List ExtentRow) (properties other_properties : List PropertyRow) → extents ≡ other_extents → properties ≡ other_properties → IsOneResource n one row other_extents other_properties → IsOneResource n one row extents properties
resource-same n one row extents other_extents properties other_properties es ps is =
    subst (λ x. IsOneResource n one row x properties) (sym es) (subst (λ x. IsOneResource n one row other_extents x) (sym ps) is)

-- ---- the end

-- no row is left, and the values are those of the tree
pub record IsAllLoaded (tree : Tree Kept) (extents : List ExtentRow) (properties : List PropertyRow) (values : List (NumberedValue Kept)) : Type 0 where
  pub no_extents : extents ≡ []
  pub no_properties : properties ≡ []
  pub are : AreRowsOf values tree

none-left : {V R : Type 0} (entry : R → ℤ × V) (m : Numbered V) (start : ℕ) (rows : List R) → ((k : ℕ) → start ≤ k → at m k ≡ None) → AreFrom (at m) start (map entry rows) → rows ≡ []
none-left entry m start [] none from = refl
none-left entry m start (row ∷ rows) none (n, is, rest) = absurd (let some = is.value in let without = none n is.from in cc)

pub load-last : (m : Contents) (tree : Tree Kept) → StandFor m tree → IsWhole tree → (extents : List ExtentRow) (properties : List PropertyRow) (values : List (NumberedValue Kept)) → IsLoading m tree [] extents properties values → IsAllLoaded tree extents properties values
load-last m tree stand whole extents properties values loading =
    let without = λ (k : ℕ) (lo : loading.next ≤ k). no-rows m tree stand k (loading.rows_left k lo) in
    record {
      no_extents = none-left extent_entry m.extents (loading.next * MOST) extents (parts-end m.extents loading.next (λ k lo. (without k lo).extents)) loading.extents_left;
      no_properties = none-left property_entry m.properties (loading.next * MOST) properties (parts-end m.properties loading.next (λ k lo. (without k lo).properties)) loading.properties_left;
      are = so-far-all tree whole loading.next values (λ k lo. no-row m tree stand k (loading.rows_left k lo)) loading.so_far;
    }

pub load-end : (m : Contents) (tree : Tree Kept) → StandFor m tree → IsWhole tree → (all : List ResourceRow) (i : ℕ) (extents : List ExtentRow) (properties : List PropertyRow) (values : List (NumberedValue Kept)) → length all ≤ i → IsLoading m tree (drop i all) extents properties values → IsAllLoaded tree extents properties values
load-end m tree stand whole all i extents properties values le loading =
    load-last m tree stand whole extents properties values (subst (λ rows. IsLoading m tree rows extents properties values) (drop-end all i le) loading)
