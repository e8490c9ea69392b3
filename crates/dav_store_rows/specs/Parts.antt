-- How the rows of a resource's parts are numbered: its extents and its properties.
use Rattle.std.specs.Prelude.{◌≡◌, ◌≢◌, ◌<◌, ◌≤◌, ◌*◌, ◌+◌, ◌^◌, ℕ, ℤ, pos, List, length, slice_get, None}
use Rattle.std.specs.FinMap.{get}
use Rattle.dav_rows.specs.Stored.{Numbered}

-- how many parts a resource has at most
abbrev pub MOST : ℕ
MOST = 2 ^ 32

-- the number of the row of a part: a resource has 2^32 numbers in a row
abbrev pub part_key : ℕ → ℕ → ℤ
part_key number index = pos (number * MOST + index)

-- the row is that of a part of the resource
abbrev pub IsPartOf : ℕ → ℤ → Type 0
IsPartOf number key = (index : ℕ) × (index < MOST) × (key ≡ part_key number index)

module _ {V : Type 0} where
  -- these are the parts of the resource, in order
  pub record HasParts (m : Numbered V) (number : ℕ) (parts : List V) : Type 0 where
    pub fits : length parts ≤ MOST
    pub rows : (index : ℕ) → index < MOST → get m (part_key number index) ≡ slice_get parts index

  -- each row is that of a part
  abbrev pub HasOnlyParts : Numbered V → Type 0
  HasOnlyParts m = (key : ℤ) → get m key ≢ None → (number : ℕ) × IsPartOf number key

  -- the parts of other resources are as they were
  abbrev pub KeepsOtherParts : ℕ → Numbered V → Numbered V → Type 0
  KeepsOtherParts number old new = (key : ℤ) → (IsPartOf number key → ⊥) → get new key ≡ get old key
