-- Loaded rows that are counted, one after another.
use Rattle.std.proofs.Common.{◌≡◌, ◌≢◌, ◌<◌, ◌≤◌, ◌+◌, ◌⊎◌, inl, inr, ℕ, ℤ, pos, true, false, cond, List, [], ◌∷◌, ◌++◌, zero, suc, length, take, map, get_or, Option, Some, None, refl, sym, ap, subst, ◌∙◌, arith, add-one}
use Rattle.std.specs.Ordering.{int_cmp, eq_by_cmp}
use Rattle.std.specs.Cmp.{int_cmp_total}
use Rattle.std.specs.FinMap.{get, entries, get-entries, int_cmp-IsAntisymmetric}
use Rattle.std.specs.FinMap.Entries.{find}
use Rattle.std.proofs.Math.Seq.{take-suc}
use Rattle.std.proofs.lemmas.Bool.{cases_eq}
use Rattle.std.proofs.lemmas.List.{map-append, take_all}
use Rattle.dav_nodes.specs.Tree.{Tree}
use Rattle.dav_rows.specs.Stored.{Numbered}
use Rattle.dav_rows.specs.Contents.{Contents, ResourceValues}
use Rattle.dav_store_rows.specs.declared.saving.Counts.{Counts}
use Rattle.dav_store_rows.specs.Parts.{MOST, part_key, IsPartOf, HasParts, HasOnlyParts}
use Rattle.dav_store_rows.specs.Resources.{Kept}
use Rattle.dav_store_rows.specs.Stands.{HasNoRows, StandFor}
use Rattle.dav_store_rows.specs.Saves.{counts_of, Fits, IsCounted}
use Rattle.dav_store_rows.specs.Counted.{Grows, IsNumber, HasCounts, IsPartIn, IsExtentCounted, IsPropertyCounted, AllKeys}
use Rattle.dav_store_rows.proofs.PartMaps.{part_key-number, part_key-index}
use Rattle.dav_store_rows.proofs.Maps.{equal, each-entry}

-- ---- all keys

module _ {R V : Type 0} (entry : R → ℤ × V) (rows : List R) (index : ℕ) where
  pub all_none : (P : ℤ → Type 0) → AllKeys P (map entry (take 0 rows))
  all_none P = none rows
    where
      none : (rs : List R) → AllKeys P (map entry (take 0 rs))
      none [] = tt
      none (r ∷ rs) = tt

  pub all_done : (P : ℤ → Type 0) → AllKeys P (map entry (take index rows)) → length rows ≤ index → AllKeys P (map entry rows)
  all_done P all past = subst (λ rs. AllKeys P (map entry rs)) (take_all index rows past) all

all_push : {V : Type 0} (P Q : ℤ → Type 0) (es : List (ℤ × V)) (e : ℤ × V) → AllKeys P es → ((key : ℤ) → P key → Q key) → Q e.0 → AllKeys Q (es ++ e ∷ [])
all_push P Q [] e all more here = (here, tt)
all_push P Q (x ∷ es) e all more here = (more x.0 all.0, all_push P Q es e all.1 more here)

pub all_next : {R V : Type 0} (entry : R → ℤ × V) (P Q : ℤ → Type 0) (rows : List R) (index : ℕ) (row : R) → AllKeys P (map entry (take index rows))
    → ((key : ℤ) → P key → Q key) → index < length rows → row ≡ get_or rows index row → Q (entry row).0 → AllKeys Q (map entry (take (index + 1) rows))
all_next entry P Q rows index row all more low at here =
    let taken : take (index + 1) rows ≡ take index rows ++ row ∷ [] = ap (λ n. take n rows) (add-one index) ∙ take-suc rows index row low ∙ ap (λ x. take index rows ++ x ∷ []) (sym at) in
    subst (AllKeys Q) (sym (ap (map entry) taken ∙ map-append entry (take index rows) (row ∷ []))) (all_push P Q (map entry (take index rows)) (entry row) all more here)

pub all_at : {R V : Type 0} (entry : R → ℤ × V) (P : ℤ → Type 0) (rows : List R) (index : ℕ) (row : R) → AllKeys P (map entry rows)
    → index < length rows → row ≡ get_or rows index row → P (entry row).0
all_at entry P [] index row all low at = absurd (omega arith)
all_at entry P (r ∷ rows) zero row all low at = subst (λ x. P (entry x).0) (sym at) all.0
all_at entry P (r ∷ rows) (suc index) row all low at = all_at entry P rows index row all.1 (omega arith) at

pub all_more : {V : Type 0} (P Q : ℤ → Type 0) (es : List (ℤ × V)) → ((key : ℤ) → P key → Q key) → AllKeys P es → AllKeys Q es
all_more P Q [] more all = tt
all_more P Q (e ∷ es) more all = (more e.0 all.0, all_more P Q es more all.1)

-- what is so of each key is so of a key with a value
has_key : {V : Type 0} (P : ℤ → Type 0) (key : ℤ) (v : V) (es : List (ℤ × V)) → AllKeys P es → find int_cmp key es ≡ Some v → P key
has_key P key v [] all found = cc
has_key P key v (e ∷ es) all found =
    elim (eq_by_cmp int_cmp key e.0) as (λ b. eq_by_cmp int_cmp key e.0 ≡ b → cond b (Some e.1) (find int_cmp key es) ≡ Some v → P key) [
      | true ↦ λ tied same. subst P (sym (int_cmp-IsAntisymmetric key e.0 (equal _ tied))) all.0
      | false ↦ λ off later. has_key P key v es all.1 later
    ] refl found

none_of : {V : Type 0} (o : Option V) → ((v : V) → o ≡ Some v → ⊥) → o ≡ None
none_of None not_some = refl
none_of (Some v) not_some = absurd (not_some v refl)

-- a key of which it is not so has no value
no_key : {V : Type 0} (P : ℤ → Type 0) (m : Numbered V) (key : ℤ) → AllKeys P (entries m) → (P key → ⊥) → get m key ≡ None
no_key P m key all not = get-entries m key ∙ none_of (find int_cmp key (entries m)) (λ v found. not (has_key P key v (entries m) all found))

-- ---- growing counts

pub grows_none : (counts : List Counts) → Grows counts counts
grows_none counts = record { longer = omega arith; extents = λ number. omega arith; properties = λ number. omega arith }

pub grows_then : (a b c : List Counts) → Grows a b → Grows b c → Grows a c
grows_then a b c p q = record {
  longer = let first = p.longer in let second = q.longer in omega arith;
  extents = λ number. let first = p.extents number in let second = q.extents number in omega arith;
  properties = λ number. let first = p.properties number in let second = q.properties number in omega arith;
}

pub grown_counts : (a b : List Counts) → Grows a b → (key : ℤ) → HasCounts a key → HasCounts b key
grown_counts a b grows key has number is = let was = has number is in let longer = grows.longer in omega arith

pub grown_extent : (a b : List Counts) → Grows a b → (key : ℤ) → IsExtentCounted a key → IsExtentCounted b key
grown_extent a b grows key counted number index low is = let was = counted number index low is in let more = grows.extents number in omega arith

pub grown_property : (a b : List Counts) → Grows a b → (key : ℤ) → IsPropertyCounted a key → IsPropertyCounted b key
grown_property a b grows key counted number index low is = let was = counted number index low is in let more = grows.properties number in omega arith

pub grown_part : (a b : List Counts) → Grows a b → (key : ℤ) → IsPartIn a key → IsPartIn b key
grown_part a b grows key part = record {
  number = part.number;
  index = part.index;
  low = part.low;
  is = part.is;
  within = let within = part.within in let longer = grows.longer in omega arith;
}

-- ---- one more row

module _ (number : ℕ) (count : Counts) (old new : List Counts) (counted : IsCounted number count old new) where
  pub grows_counted : (counts_of old number).extents ≤ count.extents → (counts_of old number).properties ≤ count.properties → Grows old new
  grows_counted extents properties = record {
    longer = counted.longer;
    extents = λ other. more_extents other (cases_eq other number);
    properties = λ other. more_properties other (cases_eq other number);
  }
    where
      more_extents : (other : ℕ) → (other ≡ number) ⊎ (other ≡ number → ⊥) → (counts_of old other).extents ≤ (counts_of new other).extents
      more_extents other (inl same) =
          subst (λ k. (counts_of old k).extents ≤ (counts_of new k).extents) (sym same) (let is = ap (λ (c : Counts). c.extents) counted.counted in omega arith)
      more_extents other (inr apart) = let is = ap (λ (c : Counts). c.extents) (counted.others other apart) in omega arith

      more_properties : (other : ℕ) → (other ≡ number) ⊎ (other ≡ number → ⊥) → (counts_of old other).properties ≤ (counts_of new other).properties
      more_properties other (inl same) =
          subst (λ k. (counts_of old k).properties ≤ (counts_of new k).properties) (sym same) (let is = ap (λ (c : Counts). c.properties) counted.counted in omega arith)
      more_properties other (inr apart) = let is = ap (λ (c : Counts). c.properties) (counted.others other apart) in omega arith

  pub has_counts : (key : ℤ) → key ≡ pos number → HasCounts new key
  has_counts key is other other_is = let same : other ≡ number = cc in let within = counted.within in omega arith

  module _ (key : ℤ) (index : ℕ) (low : index < MOST) (is : key ≡ part_key number index) where
    same_number : (other i : ℕ) → i < MOST → key ≡ part_key other i → other ≡ number
    same_number other i i_low other_is = part_key-number other number i index i_low low (sym other_is ∙ is)

    same_index : (other i : ℕ) → i < MOST → key ≡ part_key other i → i ≡ index
    same_index other i i_low other_is =
        part_key-index number i index (ap (λ n. part_key n i) (sym (same_number other i i_low other_is)) ∙ sym other_is ∙ is)

    pub extent_counted : index < count.extents → IsExtentCounted new key
    extent_counted more other i i_low other_is =
        subst (λ k. i < (counts_of new k).extents) (sym (same_number other i i_low other_is))
        (let at = ap (λ (c : Counts). c.extents) counted.counted in let same = same_index other i i_low other_is in omega arith)

    pub property_counted : index < count.properties → IsPropertyCounted new key
    property_counted more other i i_low other_is =
        subst (λ k. i < (counts_of new k).properties) (sym (same_number other i i_low other_is))
        (let at = ap (λ (c : Counts). c.properties) counted.counted in let same = same_index other i i_low other_is in omega arith)

-- a part of a resource that has counts is not past them
pub part_within : (counts : List Counts) (key : ℤ) (number index : ℕ) → IsPartIn counts key → index < MOST → key ≡ part_key number index → number < length counts
part_within counts key number index part low is =
    let same : number ≡ part.number = part_key-number number part.number index part.index low part.low (sym is ∙ part.is) in
    let within = part.within in
    omega arith

-- ---- all rows

-- the counts fit
pub counted_fit : (m : Contents) (first second third : List Counts) → AllKeys (HasCounts first) (entries m.resources) → AllKeys (IsExtentCounted second) (entries m.extents)
    → AllKeys (IsPropertyCounted third) (entries m.properties) → Grows first second → Grows second third → Fits third m
counted_fit m first second third resources extents properties p q = record {
  extents = λ number index low past.
      no_key (IsExtentCounted second) m.extents (part_key number index) extents
      (λ counted. let more = counted number index low refl in let grown = q.extents number in omega arith);
  properties = λ number index low past.
      no_key (IsPropertyCounted third) m.properties (part_key number index) properties
      (λ counted. let more = counted number index low refl in omega arith);
  resources = λ number past.
      no_key (HasCounts first) m.resources (pos number) resources
      (λ has. let within = has number refl in let longer = p.longer in let longest = q.longer in omega arith);
}

there : {V : Type 0} (o : Option V) (v : V) → o ≡ Some v → o ≢ None
there o v some none = cc

-- the rows of resources have numbers
pub only_numbers : (m : Contents) (tree : Tree Kept) → StandFor m tree → AllKeys IsNumber (entries m.resources)
only_numbers m tree stand = each-entry int_cmp_total int_cmp-IsAntisymmetric (λ e. IsNumber e.0) m.resources (λ key v found. stand.only_resources key (there (get m.resources key) v found))

-- a number with a part has a resource
has_resource : {V : Type 0} (m : Contents) (tree : Tree Kept) (number index : ℕ) (v : V) (parts : Numbered V) → StandFor m tree
    → (HasNoRows m number → HasParts parts number []) → index < MOST → get parts (part_key number index) ≡ Some v → get m.resources (pos number) ≢ None
has_resource m tree number index v parts stand none low found absent =
    let no_parts = none (stand.none number (λ row has. let kept = (stand.kept number row has).resource in cc)) in
    let empty_here = no_parts.rows index low in
    cc

is_part : {V : Type 0} (m : Contents) (tree : Tree Kept) (counts : List Counts) (parts : Numbered V) → StandFor m tree → AllKeys (HasCounts counts) (entries m.resources)
    → ((number : ℕ) → HasNoRows m number → HasParts parts number []) → HasOnlyParts parts → AllKeys (IsPartIn counts) (entries parts)
is_part {V} m tree counts parts stand resources none only =
    each-entry int_cmp_total int_cmp-IsAntisymmetric (λ e. IsPartIn counts e.0) parts (λ key v found. go key v found (only key (there (get parts key) v found)))
  where
    within : (number : ℕ) (o : Option ResourceValues) → get m.resources (pos number) ≡ o → get m.resources (pos number) ≢ None → number < length counts
    within number None is has = absurd (has is)
    within number (Some r) is has = has_key (HasCounts counts) (pos number) r (entries m.resources) resources (sym (get-entries m.resources (pos number)) ∙ is) number refl

    go : (key : ℤ) (v : V) → get parts key ≡ Some v → (number : ℕ) × IsPartOf number key → IsPartIn counts key
    go key v found (number, (index, low, is)) = record {
      number = number;
      index = index;
      low = low;
      is = is;
      within = within number (get m.resources (pos number)) refl
          (has_resource m tree number index v parts stand (none number) low (ap (get parts) (sym is) ∙ found));
    }

pub only_extents_in : (m : Contents) (tree : Tree Kept) (counts : List Counts) → StandFor m tree → AllKeys (HasCounts counts) (entries m.resources) → AllKeys (IsPartIn counts) (entries m.extents)
only_extents_in m tree counts stand resources = is_part m tree counts m.extents stand resources (λ number none. none.extents) stand.only_extents

pub only_properties_in : (m : Contents) (tree : Tree Kept) (counts : List Counts) → StandFor m tree → AllKeys (HasCounts counts) (entries m.resources) → AllKeys (IsPartIn counts) (entries m.properties)
only_properties_in m tree counts stand resources = is_part m tree counts m.properties stand resources (λ number none. none.properties) stand.only_properties
