-- Two stores with one seal are the same, but for a collision.
use Rattle.std.proofs.Common.{◌≡◌, ℕ, ℤ, Bool, true, false, List, [], ◌∷◌, ◌++◌, map, ◌+◌, ◌-◌, ◌%◌, ◌<◌, ◌^◌, refl, sym, ap, ap₂, ◌∙◌, arith}
use Rattle.std.specs.Prelude.{sum_by}
use Rattle.std.specs.Map.{values_of}
use Rattle.std.specs.List.{AllByRecursion, flat_map}
use Rattle.std.specs.FinMap.{entries, same_entries_map}
use Rattle.std.proofs.Math.Nat.{mod-add-mod, add-mod_right, mod-eq_of_lt, mod-lt}
use Rattle.std.proofs.lemmas.List.Sums.{sum_by-cons, sum_by-append}
use Rattle.sqlite_disk.specs.Digest.{digest}
use Rattle.sqlite_value.specs.Order.{Row}
use Rattle.dav_rows.specs.declared.change.Table.{Table}
use Rattle.dav_rows.specs.declared.change.Table.TheVariants.{Resource, Extent, Property, Lock, State}
use Rattle.dav_rows.specs.Stored.{shown}
use Rattle.dav_rows.specs.Contents.{Contents, ResourceValues, ExtentValues, PropertyValues, LockValues, StateValues, flag, resource_cells, extent_cells, property_cells, lock_cells, state_cells}
use Rattle.dav_rows.specs.Creating.{place}
use Rattle.dav_seal.specs.RowBytes.{cell_bytes, AreCells}
use Rattle.dav_seal.specs.Digests.{entry_bytes, entry_digest, numbered_by, digests_of}
use Rattle.dav_seal.specs.SealRow.{unsealed}
use Rattle.dav_seal.specs.Sums.{total_of}
use Rattle.dav_seal.specs.Seals.{seal_of}
use Rattle.dav_seal.specs.Laws.{texts_of, all_texts, sum_of_texts, IsWhole, HaveSameRows, SealsDetermine, SumsDetermineOne, SumsDetermineMissing, BytesDetermine}
use Rattle.dav_seal.proofs.FrontLemmas.{row_bytes-injective}
use Rattle.dav_seal.proofs.TotalLemmas.{sum-append}

-- ---- rows with the same bytes

flag-injective : (a b : Bool) → flag a ≡ flag b → a ≡ b
flag-injective true true e = refl
flag-injective false false e = refl
flag-injective true false e = absurd (cc e)
flag-injective false true e = absurd (cc e)

same_resource : (a b : ℤ × ResourceValues) → shown resource_cells a ≡ shown resource_cells b → a ≡ b
same_resource a b e =
    let number : a.0 ≡ b.0 = cc in
    let parent : a.1.parent ≡ b.1.parent = cc in
    let name : a.1.name ≡ b.1.name = cc in
    let directory : flag a.1.directory ≡ flag b.1.directory = cc in
    let directory' = flag-injective a.1.directory b.1.directory directory in
    let size : a.1.size ≡ b.1.size = cc in
    let version : a.1.version ≡ b.1.version = cc in
    let created : a.1.created ≡ b.1.created = cc in
    let modified : a.1.modified ≡ b.1.modified = cc in
    λ i. (number i, record { parent = parent i; name = name i; directory = directory' i; size = size i; version = version i; created = created i; modified = modified i })

same_extent : (a b : ℤ × ExtentValues) → shown extent_cells a ≡ shown extent_cells b → a ≡ b
same_extent a b e =
    let number : a.0 ≡ b.0 = cc in
    let resource : a.1.resource ≡ b.1.resource = cc in
    let place : a.1.place ≡ b.1.place = cc in
    let pieces : a.1.pieces ≡ b.1.pieces = cc in
    λ i. (number i, record { resource = resource i; place = place i; pieces = pieces i })

same_property : (a b : ℤ × PropertyValues) → shown property_cells a ≡ shown property_cells b → a ≡ b
same_property a b e =
    let number : a.0 ≡ b.0 = cc in
    let resource : a.1.resource ≡ b.1.resource = cc in
    let namespace : a.1.namespace ≡ b.1.namespace = cc in
    let name : a.1.name ≡ b.1.name = cc in
    let element : a.1.element ≡ b.1.element = cc in
    λ i. (number i, record { resource = resource i; namespace = namespace i; name = name i; element = element i })

same_lock : (a b : ℤ × LockValues) → shown lock_cells a ≡ shown lock_cells b → a ≡ b
same_lock a b e =
    let number : a.0 ≡ b.0 = cc in
    let token : a.1.token ≡ b.1.token = cc in
    let path : a.1.path ≡ b.1.path = cc in
    let lock : a.1.lock ≡ b.1.lock = cc in
    λ i. (number i, record { token = token i; path = path i; lock = lock i })

same_state : (a b : ℤ × StateValues) → shown state_cells a ≡ shown state_cells b → a ≡ b
same_state a b e =
    let number : a.0 ≡ b.0 = cc in
    let counter : a.1.counter ≡ b.1.counter = cc in
    let time : a.1.time ≡ b.1.time = cc in
    let batch : a.1.batch ≡ b.1.batch = cc in
    let digest_key : a.1.digest_key ≡ b.1.digest_key = cc in
    λ i. (number i, record { counter = counter i; time = time i; batch = batch i; digest_key = digest_key i })

pub resources_told : BytesDetermine Resource resource_cells
resources_told a b p q e = same_resource a b (row_bytes-injective 0 (shown resource_cells a) (shown resource_cells b) p q e)

pub extents_told : BytesDetermine Extent extent_cells
extents_told a b p q e = same_extent a b (row_bytes-injective 1 (shown extent_cells a) (shown extent_cells b) p q e)

pub properties_told : BytesDetermine Property property_cells
properties_told a b p q e = same_property a b (row_bytes-injective 2 (shown property_cells a) (shown property_cells b) p q e)

pub locks_told : BytesDetermine Lock lock_cells
locks_told a b p q e = same_lock a b (row_bytes-injective 3 (shown lock_cells a) (shown lock_cells b) p q e)

pub states_told : BytesDetermine State state_cells
states_told a b p q e = same_state a b (row_bytes-injective 4 (shown state_cells a) (shown state_cells b) p q e)

-- ---- a table

module _ {V : Type 0} (table : Table) (cells : V → Row) where
  entries_told : BytesDetermine table cells → (xs ys : List (ℤ × V)) → AllByRecursion (λ e. AreCells (shown cells e)) xs → AllByRecursion (λ e. AreCells (shown cells e)) ys
      → map (entry_bytes table cells) xs ≡ map (entry_bytes table cells) ys → xs ≡ ys
  entries_told told [] [] p q e = refl
  entries_told told [] (y ∷ ys) p q e = cc
  entries_told told (x ∷ xs) [] p q e = cc
  entries_told told (x ∷ xs) (y ∷ ys) p q e =
      let first : entry_bytes table cells x ≡ entry_bytes table cells y = cc in
      let others : map (entry_bytes table cells) xs ≡ map (entry_bytes table cells) ys = cc in
      let same = told x y p.0 q.0 first in
      let rest = entries_told told xs ys p.1 q.1 others in
      λ i. same i ∷ rest i

  pub summed : (key : ℕ) (es : List (ℤ × V)) → sum_by (λ d. d) (values_of (numbered_by (entry_digest key table cells) es)) ≡ sum_by (digest key) (map (entry_bytes table cells) es)
  unfolding entry_digest
  summed key [] = refl
  summed key (e ∷ es) =
      sum_by-cons (λ d. d) (digest key (entry_bytes table cells e)) (values_of (numbered_by (entry_digest key table cells) es))
      ∙ ap (λ n. digest key (entry_bytes table cells e) + n) (summed key es)
      ∙ sym (sum_by-cons (digest key) (entry_bytes table cells e) (map (entry_bytes table cells) es))

-- ---- all tables

-- the text begins with this byte, or with a greater one
abbrev StartsWith : ℕ → List ℕ → Type 0
StartsWith n text = (rest : List ℕ) × (text ≡ n ∷ rest)

abbrev StartsAbove : ℕ → List ℕ → Type 0
StartsAbove n text = (x : ℕ) × (rest : List ℕ) × (n < x) × (text ≡ x ∷ rest)

clash : {P : Type 0} (n : ℕ) (a b : List ℕ) → StartsWith n a → StartsAbove n b → a ≡ b → P
clash n a b (r, is) (x, s, low, other) same =
    let equal : n ∷ r ≡ x ∷ s = sym is ∙ same ∙ other in
    let first : n ≡ x = cc in
    absurd (omega (arith, low, first))

-- where the texts of a table begin with one byte, and those behind them with a greater one, the two parts are known
split : (n : ℕ) (xs ys us vs : List (List ℕ)) → AllByRecursion (StartsWith n) xs → AllByRecursion (StartsWith n) ys → AllByRecursion (StartsAbove n) us → AllByRecursion (StartsAbove n) vs
    → xs ++ us ≡ ys ++ vs → (xs ≡ ys) × (us ≡ vs)
split n [] [] us vs p q r s e = (refl, e)
split n [] (y ∷ ys) [] vs p q r s e = absurd cc
split n [] (y ∷ ys) (u ∷ us) vs p q r s e = let first : y ≡ u = cc in clash n y u q.0 r.0 first
split n (x ∷ xs) [] us [] p q r s e = absurd cc
split n (x ∷ xs) [] us (v ∷ vs) p q r s e = let first : x ≡ v = cc in clash n x v p.0 s.0 first
split n (x ∷ xs) (y ∷ ys) us vs p q r s e =
    let first : x ≡ y = cc in
    let others : xs ++ us ≡ ys ++ vs = cc in
    let rest = split n xs ys us vs p.1 q.1 r s others in
    (λ i. first i ∷ rest.0 i, rest.1)

both_parts : (P : List ℕ → Type 0) (xs ys : List (List ℕ)) → AllByRecursion P xs → AllByRecursion P ys → AllByRecursion P (xs ++ ys)
both_parts P [] ys p q = q
both_parts P (x ∷ xs) ys p q = (p.0, both_parts P xs ys p.1 q)

-- the sums of two lists of texts and of their digests are added
both_sums : (key : ℕ) (xs ys : List (List ℕ)) (ds es : List (ℤ × ℕ)) → sum_by (λ d. d) (values_of ds) ≡ sum_by (digest key) xs → sum_by (λ d. d) (values_of es) ≡ sum_by (digest key) ys
    → sum_by (λ d. d) (values_of (ds ++ es)) ≡ sum_by (digest key) (xs ++ ys)
both_sums key xs ys ds es p q = sum-append ds es ∙ ap₂ (λ a b. a + b) p q ∙ sym (sum_by-append (digest key) xs ys)

module _ {V : Type 0} (table : Table) (cells : V → Row) where
  starts : (es : List (ℤ × V)) → AllByRecursion (StartsWith (place table)) (map (entry_bytes table cells) es)
  starts [] = tt
  starts (e ∷ es) = ((flat_map cell_bytes (shown cells e), refl), starts es)

  above : (n : ℕ) → n < place table → (es : List (ℤ × V)) → AllByRecursion (StartsAbove n) (map (entry_bytes table cells) es)
  above n low [] = tt
  above n low (e ∷ es) = ((place table, flat_map cell_bytes (shown cells e), low, refl), above n low es)

module _ (m : Contents) where
  -- the texts behind those of a table
  abbrev states : List (List ℕ)
  states = texts_of State state_cells (unsealed m.states)

  abbrev from_locks : List (List ℕ)
  from_locks = texts_of Lock lock_cells m.locks ++ states

  abbrev from_properties : List (List ℕ)
  from_properties = texts_of Property property_cells m.properties ++ from_locks

  abbrev from_extents : List (List ℕ)
  from_extents = texts_of Extent extent_cells m.extents ++ from_properties

  states_above : (n : ℕ) → n < 4 → AllByRecursion (StartsAbove n) states
  states_above n low = above State state_cells n low (entries (unsealed m.states))

  locks_above : (n : ℕ) → n < 3 → AllByRecursion (StartsAbove n) from_locks
  locks_above n low = both_parts (StartsAbove n) (texts_of Lock lock_cells m.locks) states (above Lock lock_cells n low (entries m.locks)) (states_above n (omega (arith, low)))

  properties_above : (n : ℕ) → n < 2 → AllByRecursion (StartsAbove n) from_properties
  properties_above n low =
      both_parts (StartsAbove n) (texts_of Property property_cells m.properties) from_locks (above Property property_cells n low (entries m.properties)) (locks_above n (omega (arith, low)))

  extents_above : (n : ℕ) → n < 1 → AllByRecursion (StartsAbove n) from_extents
  extents_above n low =
      both_parts (StartsAbove n) (texts_of Extent extent_cells m.extents) from_properties (above Extent extent_cells n low (entries m.extents)) (properties_above n (omega (arith, low)))

  -- the sum of the digests is that of the texts
  sum_is : (key : ℕ) → sum_of_texts key (all_texts m) ≡ seal_of key m
  unfolding total_of
  sum_is key =
      let r = summed Resource resource_cells key (entries m.resources) in
      let e = summed Extent extent_cells key (entries m.extents) in
      let p = summed Property property_cells key (entries m.properties) in
      let l = summed Lock lock_cells key (entries m.locks) in
      let s = summed State state_cells key (entries (unsealed m.states)) in
      let of_states = digests_of key State state_cells (unsealed m.states) in
      let of_locks = digests_of key Lock lock_cells m.locks in
      let of_properties = digests_of key Property property_cells m.properties in
      let of_extents = digests_of key Extent extent_cells m.extents in
      let locks = both_sums key (texts_of Lock lock_cells m.locks) states of_locks of_states l s in
      let properties = both_sums key (texts_of Property property_cells m.properties) from_locks of_properties (of_locks ++ of_states) p locks in
      let extents = both_sums key (texts_of Extent extent_cells m.extents) from_properties of_extents (of_properties ++ (of_locks ++ of_states)) e properties in
      let all = both_sums key (texts_of Resource resource_cells m.resources) from_extents (digests_of key Resource resource_cells m.resources) (of_extents ++ (of_properties ++ (of_locks ++ of_states))) r extents in
      ap (λ n. n % 2 ^ 64) (sym all)

same_rows : (m n : Contents) → IsWhole m → IsWhole n → all_texts m ≡ all_texts n → HaveSameRows m n
same_rows m n p q same =
    let r = split 0 _ _ (from_extents m) (from_extents n) (starts Resource resource_cells (entries m.resources)) (starts Resource resource_cells (entries n.resources)) (extents_above m 0 (omega arith)) (extents_above n 0 (omega arith)) same in
    let e = split 1 _ _ (from_properties m) (from_properties n) (starts Extent extent_cells (entries m.extents)) (starts Extent extent_cells (entries n.extents)) (properties_above m 1 (omega arith)) (properties_above n 1 (omega arith)) r.1 in
    let o = split 2 _ _ (from_locks m) (from_locks n) (starts Property property_cells (entries m.properties)) (starts Property property_cells (entries n.properties)) (locks_above m 2 (omega arith)) (locks_above n 2 (omega arith)) e.1 in
    let l = split 3 _ _ (states m) (states n) (starts Lock lock_cells (entries m.locks)) (starts Lock lock_cells (entries n.locks)) (states_above m 3 (omega arith)) (states_above n 3 (omega arith)) o.1 in
    record {
      resources = same_entries_map m.resources n.resources (entries_told Resource resource_cells resources_told (entries m.resources) (entries n.resources) p.resources q.resources r.0);
      extents = same_entries_map m.extents n.extents (entries_told Extent extent_cells extents_told (entries m.extents) (entries n.extents) p.extents q.extents e.0);
      properties = same_entries_map m.properties n.properties (entries_told Property property_cells properties_told (entries m.properties) (entries n.properties) p.properties q.properties o.0);
      locks = same_entries_map m.locks n.locks (entries_told Lock lock_cells locks_told (entries m.locks) (entries n.locks) p.locks q.locks l.0);
      states = same_entries_map (unsealed m.states) (unsealed n.states) (entries_told State state_cells states_told (entries (unsealed m.states)) (entries (unsealed n.states)) p.states q.states l.1);
    }

pub seals_determine : SealsDetermine
seals_determine key m n p q e other = record { different = λ same. other (same_rows m n p q same); same = sum_is m key ∙ e ∙ sym (sum_is n key) }

-- ---- one row

-- a summand below m is told from the sum of all, mod m
summand : (m others x : ℕ) → 0 < m → x < m → ((others + x) % m + (m - others % m)) % m ≡ x
summand m others x some small =
    let below : others % m < m = mod-lt others some in
    let e : others % m + x + (m - others % m) ≡ x + m = omega arith in
    ap (λ n. (n + (m - others % m)) % m) (sym (mod-add-mod others m x))
    ∙ mod-add-mod (others % m + x) m (m - others % m)
    ∙ ap (λ n. n % m) e
    ∙ add-mod_right x m
    ∙ mod-eq_of_lt small

one_apart : (f : List ℕ → ℕ) (before after : List (List ℕ)) (a : List ℕ) → sum_by f (before ++ a ∷ after) ≡ (sum_by f before + sum_by f after) + f a
one_apart f before after a =
    let first = sum_by-append f before (a ∷ after) in
    let second = sum_by-cons f a after in
    omega arith

-- the same, with some before it
one_behind : (f : List ℕ → ℕ) (before mid after : List (List ℕ)) (b : List ℕ) → sum_by f (before ++ (mid ++ b ∷ after)) ≡ (sum_by f before + (sum_by f mid + sum_by f after)) + f b
one_behind f before mid after b =
    let first = sum_by-append f before (mid ++ b ∷ after) in
    let second = one_apart f mid after b in
    omega arith

one_before : (f : List ℕ → ℕ) (before mid after : List (List ℕ)) (a : List ℕ) → sum_by f (before ++ a ∷ (mid ++ after)) ≡ (sum_by f before + (sum_by f mid + sum_by f after)) + f a
one_before f before mid after a =
    let first = one_apart f before (mid ++ after) a in
    let second = sum_by-append f mid after in
    omega arith

pub sums_determine_one : SumsDetermineOne
sums_determine_one key before mid after a b p q other sums =
    let others = sum_by (digest key) before + (sum_by (digest key) mid + sum_by (digest key) after) in
    let sums' : (others + digest key a) % 2 ^ 64 ≡ (others + digest key b) % 2 ^ 64 =
    sym (ap (λ n. n % 2 ^ 64) (one_before (digest key) before mid after a)) ∙ sums ∙ ap (λ n. n % 2 ^ 64) (one_behind (digest key) before mid after b) in
    let some : 0 < 2 ^ 64 = omega arith in (
      other,
      sym (summand (2 ^ 64) others (digest key a) some p) ∙ ap (λ n. (n + (2 ^ 64 - others % 2 ^ 64)) % 2 ^ 64) sums' ∙ summand (2 ^ 64) others (digest key b) some q,
    )

pub sums_determine_missing : SumsDetermineMissing
sums_determine_missing key before after a p sums =
    let others = sum_by (digest key) before + sum_by (digest key) after in
    let none : others ≡ others + 0 = omega arith in
    let sums' : (others + digest key a) % 2 ^ 64 ≡ (others + 0) % 2 ^ 64 =
    sym (ap (λ n. n % 2 ^ 64) (one_apart (digest key) before after a)) ∙ sums ∙ ap (λ n. n % 2 ^ 64) (sum_by-append (digest key) before after ∙ none) in
    let some : 0 < 2 ^ 64 = omega arith in
    sym (summand (2 ^ 64) others (digest key a) some p) ∙ ap (λ n. (n + (2 ^ 64 - others % 2 ^ 64)) % 2 ^ 64) sums' ∙ summand (2 ^ 64) others 0 some some
