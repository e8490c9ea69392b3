-- How the locks of a store stand in the table of locks, and what it is to save them: this project's own choice.
use Rattle.std.specs.Prelude.{◌≡◌, ℤ, true, List, ◌∷◌, ◌++◌, map}
use Rattle.std.specs.List.{AllByRecursion}
use Rattle.std.specs.FinMap.{entries}
use Rattle.dav_cells.specs.Locks.{lock_codec, kept_lock}
use Rattle.dav_resource.specs.PathText.{url_text}
use Rattle.dav_rows.specs.Stored.{Numbered}
use Rattle.dav_rows.specs.Contents.{Contents, LockValues}
use Rattle.dav_rows.specs.Changes.{after, lock_entry}
use Rattle.dav_rows.specs.declared.change.Change.{Change}
use Rattle.dav_rows.specs.declared.lock.LockRow.{LockRow}
use Rattle.dav_store.specs.declared.lock.DavLock.{DavLock}

-- the row of a lock: its token, its path as clients see it, and the whole lock
abbrev pub lock_values : DavLock → LockValues
lock_values lock = record { token = lock.token; path = url_text lock.path; lock = lock_codec.encode (kept_lock lock) }

abbrev pub row_values : LockRow → LockValues
row_values row = (lock_entry row).1

abbrev pub values_in : List LockRow → List LockValues
values_in rows = map row_values rows

-- the lock can be encoded
abbrev pub IsValidLock : DavLock → Type 0
IsValidLock lock = lock_codec.is_valid (kept_lock lock) ≡ true

-- these are the rows of the locks, in order, and each lock can be encoded
pub record AreValuesOf (values : List LockValues) (locks : List DavLock) : Type 0 where
  pub values_are : values ≡ map lock_values locks
  pub valid : AllByRecursion IsValidLock locks

-- the rows, in the order of their numbers, are those of the locks in order
abbrev pub LocksStand : Numbered LockValues → List DavLock → Type 0
LocksStand m locks = AreValuesOf (map (λ e. e.1) (entries m)) locks

-- the table of locks has these rows by number, and the other tables are as they were
pub record LocksBecome (rows : List (ℤ × LockValues)) (old new : Contents) : Type 0 where
  pub locks : entries new.locks ≡ rows
  pub resources : new.resources ≡ old.resources
  pub extents : new.extents ≡ old.extents
  pub properties : new.properties ≡ old.properties
  pub states : new.states ≡ old.states
  pub notes : new.notes ≡ old.notes

-- changes are appended that make the new rows of the old ones
pub record BringsLocks (old new : List (ℤ × LockValues)) (before now : List Change) : Type 0 where
  pub more : List Change
  pub is : now ≡ before ++ more
  pub makes : (m : Contents) → entries m.locks ≡ old → LocksBecome new m (after more m)

-- whatever rows follow, changes are appended that put other rows in the place of some rows and the next
abbrev pub ReplacesRow : List LockRow → LockRow → List LockRow → List Change → List Change → Type 0
ReplacesRow done row new before now =
    (rest : List (ℤ × LockValues)) → BringsLocks (map lock_entry done ++ lock_entry row ∷ rest) (map lock_entry new ++ rest) before now

-- whatever rows are around it, changes are appended that put other values in its row
abbrev pub RenewsRow : LockRow → LockRow → List Change → List Change → Type 0
RenewsRow row lock before now =
    (done rest : List (ℤ × LockValues)) → BringsLocks (done ++ lock_entry row ∷ rest) (done ++ (row.number, row_values lock) ∷ rest) before now

-- loaded rows are those of a table in which these locks stand
pub record AreLockRows (rows : List LockRow) (locks : List DavLock) : Type 0 where
  pub table : Numbered LockValues
  pub rows_are : map lock_entry rows ≡ entries table
  pub stand : LocksStand table locks

-- changes are appended that make new rows of the old ones, and the new rows are those of the locks
pub record SavesLocks (locks : List DavLock) (old : List (ℤ × LockValues)) (before : List Change) (new : List (ℤ × LockValues)) (now : List Change) : Type 0 where
  pub brings : BringsLocks old new before now
  pub stands : (m : Contents) → entries m.locks ≡ new → LocksStand m.locks locks
