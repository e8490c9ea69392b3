-- How loaded rows are counted.
use Rattle.std.specs.Prelude.{◌≡◌, ◌<◌, ◌≤◌, ℕ, ℤ, pos, List, length}
use Rattle.std.specs.List.{AllByRecursion}
use Rattle.dav_store_rows.specs.declared.saving.Counts.{Counts}
use Rattle.dav_store_rows.specs.Parts.{MOST, part_key}
use Rattle.dav_store_rows.specs.Saves.{counts_of}

-- as many numbers have counts, or more, and none has fewer rows
pub record Grows (old new : List Counts) : Type 0 where
  pub longer : length old ≤ length new
  pub extents : (number : ℕ) → (counts_of old number).extents ≤ (counts_of new number).extents
  pub properties : (number : ℕ) → (counts_of old number).properties ≤ (counts_of new number).properties

-- the key is a number
abbrev pub IsNumber : ℤ → Type 0
IsNumber key = (number : ℕ) × (key ≡ pos number)

-- the resource with this key has counts
abbrev pub HasCounts : List Counts → ℤ → Type 0
HasCounts counts key = (number : ℕ) → key ≡ pos number → number < length counts

-- the key is that of a part of a resource that has counts
pub record IsPartIn (counts : List Counts) (key : ℤ) : Type 0 where
  pub number : ℕ
  pub index : ℕ
  pub low : index < MOST
  pub is : key ≡ part_key number index
  pub within : number < length counts

-- its resource has more extents than the index of this one
abbrev pub IsExtentCounted : List Counts → ℤ → Type 0
IsExtentCounted counts key = (number index : ℕ) → index < MOST → key ≡ part_key number index → index < (counts_of counts number).extents

-- its resource has more properties than the index of this one
abbrev pub IsPropertyCounted : List Counts → ℤ → Type 0
IsPropertyCounted counts key = (number index : ℕ) → index < MOST → key ≡ part_key number index → index < (counts_of counts number).properties

module _ {V : Type 0} where
  -- it is so of the key of each entry
  abbrev pub AllKeys : (ℤ → Type 0) → List (ℤ × V) → Type 0
  AllKeys P es = AllByRecursion (λ e. P e.0) es
