-- Why saving fails.
use Rattle.std.specs.Prelude.{◌≡◌, ◌<◌, ◌≤◌, ◌≤ℤ◌, ◌+◌, ◌^◌, ℕ, ℤ, pos, List, map, length, Option}
use Rattle.std.specs.Option.{unwrap_or, IfSome}
use Rattle.std.specs.List.{AllByRecursion}
use Rattle.std.specs.FinMap.{entries}
use Rattle.dav_cells.specs.Elements.{IsTooDeep}
use Rattle.dav_cells.specs.Locks.{IsOwnerTooDeep}
use Rattle.dav_nodes.specs.Rows.{Row}
use Rattle.dav_pieces.specs.declared.piece.Piece.{Piece}
use Rattle.dav_pieces.specs.Pieces.{size_of}
use Rattle.dav_resource.specs.Tree.{Tree}
use Rattle.dav_resource.specs.declared.property.DavProp.{DavProp}
use Rattle.dav_store.specs.Store.{PropertyMap}
use Rattle.dav_store.specs.declared.lock.DavLock.{DavLock}
use Rattle.dav_rows.specs.Contents.{LockValues}
use Rattle.dav_rows.specs.Changes.{lock_entry}
use Rattle.dav_rows.specs.declared.lock.LockRow.{LockRow}
use Rattle.dav_store_rows.specs.declared.saving.Counts.{Counts}
use Rattle.dav_store_rows.specs.declared.saving.error.SaveError.{SaveError}
use Rattle.dav_store_rows.specs.declared.saving.error.SaveError.TheVariants.{TooLarge, TooDeep, Memory}
use Rattle.dav_store_rows.specs.Parts.{MOST}
use Rattle.dav_store_rows.specs.Resources.{Kept, pieces_in}

-- the error says why: something does not fit in rows, an element has too many levels, or memory ran out
abbrev pub FailsUnless : Type 0 → Type 0 → SaveError → Type 0
FailsUnless fits flat TooLarge = fits → ⊥
FailsUnless fits flat TooDeep = flat → ⊥
FailsUnless fits flat Memory = Unit {0}

-- the parts of a resource with this number have numbers of 63 bits
abbrev pub HasPartKeys : ℕ → Type 0
HasPartKeys number = number < 2 ^ 31

-- ---- what fits

-- so many pieces, and their size, fit in the rows of a resource
pub record FitsPieces (pieces : List Piece) : Type 0 where
  pub few : length pieces ≤ MOST
  pub size : size_of pieces < 2 ^ 63

-- the numbers of a resource fit in 63 bits, and it has no more parts than there are numbers for
pub record FitsRow (row : Row Kept) : Type 0 where
  pub above : unwrap_or row.above 0 < 2 ^ 63
  pub version : row.value.version < 2 ^ 63
  pub created : row.value.created < 2 ^ 63
  pub modified : row.value.modified < 2 ^ 63
  pub pieces : FitsPieces (pieces_in row.value.content)
  pub properties : length (entries row.value.properties) ≤ MOST

-- the rows of a resource fit, if there is one
abbrev pub FitsRows : ℕ → Option (Row Kept) → Type 0
FitsRows number row = HasPartKeys number × IfSome row FitsRow

-- the rows of a resource fit, if there is one, and so do its old ones
pub record FitsSave (number : ℕ) (row : Option (Row Kept)) (old : Counts) : Type 0 where
  pub rows : FitsRows number row
  pub extents : old.extents ≤ MOST
  pub properties : old.properties ≤ MOST

-- ---- levels

-- the element has no more levels than a cell holds
abbrev pub IsFlat : Tree → Type 0
IsFlat element = IsTooDeep element → ⊥

abbrev pub AreFlatProps : List DavProp → Type 0
AreFlatProps props = AllByRecursion (λ (prop : DavProp). IfSome prop.element IsFlat) props

abbrev pub AreFlat : PropertyMap → Type 0
AreFlat properties = AllByRecursion (λ property. IsFlat property.1) (entries properties)

abbrev pub HasFlat : Option (Row Kept) → Type 0
HasFlat row = IfSome row (λ r. AreFlat r.value.properties)

-- a resource is not saved: its rows do not fit, an element of a property has too many levels, or memory ran out
abbrev pub FailsToSave : ℕ → Option (Row Kept) → Counts → SaveError → Type 0
FailsToSave number row old = FailsUnless (FitsSave number row old) (HasFlat row)

-- ---- locks

-- memory ran out
abbrev pub IsOutOfMemory : SaveError → Type 0
IsOutOfMemory e = e ≡ Memory

-- no row has a greater number
abbrev pub AreUpTo : ℕ → List (ℤ × LockValues) → Type 0
AreUpTo top rows = AllByRecursion (λ e. e.0 ≤ℤ pos top) rows

-- if the row and the old rows have no greater number, then no new row has
abbrev pub StaysUpTo : LockRow → List LockRow → List LockRow → Type 0
StaysUpTo row old new = (top : ℕ) → AreUpTo top (map lock_entry old) → row.number ≤ℤ pos top → AreUpTo top (map lock_entry new)

-- above the numbers of the rows so many more fit in 63 bits
abbrev pub HaveRoom : List (ℤ × LockValues) → ℕ → Type 0
HaveRoom rows count = (top : ℕ) × AreUpTo top rows × (top + count < 2 ^ 63)

-- the owner has no more levels than a cell holds
abbrev pub IsFlatLock : DavLock → Type 0
IsFlatLock lock = IsOwnerTooDeep lock.owner → ⊥

-- no owner has more levels than a cell holds
abbrev pub AreFlatLocks : List DavLock → Type 0
AreFlatLocks locks = AllByRecursion IsFlatLock locks

-- the locks are not saved: a new row has no number, an owner has too many levels, or memory ran out
abbrev pub FailsToSaveLocks : List (ℤ × LockValues) → List DavLock → SaveError → Type 0
FailsToSaveLocks rows locks = FailsUnless (HaveRoom rows (length locks)) (AreFlatLocks locks)
