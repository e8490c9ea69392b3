-- What it is to save a resource: changes bring its rows up to date, and no other rows.
use Rattle.std.specs.Prelude.{◌≡◌, ◌≢◌, ◌<◌, ◌≤◌, ℕ, pos, List, ◌++◌, length, slice_get, Option, Some, None}
use Rattle.std.specs.Option.{unwrap_or}
use Rattle.std.specs.FinMap.{get}
use Rattle.dav_nodes.specs.Rows.{Row}
use Rattle.dav_rows.specs.Stored.{Numbered}
use Rattle.dav_rows.specs.Contents.{Contents}
use Rattle.dav_rows.specs.Changes.{after}
use Rattle.dav_rows.specs.declared.change.Change.{Change}
use Rattle.dav_store_rows.specs.declared.saving.Counts.{Counts}
use Rattle.dav_store_rows.specs.Parts.{MOST, part_key}
use Rattle.dav_store_rows.specs.Resources.{Kept}
use Rattle.dav_store_rows.specs.Stands.{HasRows, HasNoRows, KeepsOthers, KeepsOtherTables}

-- ---- how many rows there are

abbrev pub no_rows : Counts
no_rows = record { extents = 0; properties = 0 }

-- how many rows a number has; a number past the list has none
abbrev pub counts_of : List Counts → ℕ → Counts
counts_of counts number = unwrap_or (slice_get counts number) no_rows

-- a number has at most so many parts in a table
abbrev pub HasAtMost : {V : Type 0} → Numbered V → ℕ → ℕ → Type 0
HasAtMost m number count = (index : ℕ) → index < MOST → count ≤ index → get m (part_key number index) ≡ None

-- each number has at most as many rows as are counted, and a number past the list has none
pub record Fits (counts : List Counts) (m : Contents) : Type 0 where
  pub extents : (number : ℕ) → HasAtMost m.extents number (counts_of counts number).extents
  pub properties : (number : ℕ) → HasAtMost m.properties number (counts_of counts number).properties
  pub resources : (number : ℕ) → length counts ≤ number → get m.resources (pos number) ≡ None

-- the count of a number is set, and no other changes
pub record IsCounted (number : ℕ) (count : Counts) (old new : List Counts) : Type 0 where
  pub counted : counts_of new number ≡ count
  pub others : (other : ℕ) → other ≢ number → counts_of new other ≡ counts_of old other
  pub longer : length old ≤ length new
  pub within : number < length new

-- ---- saving

-- the rows of a number are those of its resource, or it has neither
abbrev pub HasRowsOf : Contents → ℕ → Option (Row Kept) → Type 0
HasRowsOf m number None = HasNoRows m number
HasRowsOf m number (Some row) = HasRows m number row

-- a number has the rows of its resource, the counts fit, and the rows of other numbers are as they were
pub record IsSaved (number : ℕ) (row : Option (Row Kept)) (counts : List Counts) (old new : Contents) : Type 0 where
  pub fits : Fits counts new
  pub others : KeepsOthers number old new
  pub rows : HasRowsOf new number row

-- changes are appended after which a number has the rows of its resource, or none if it has none
pub record Saves (number : ℕ) (row : Option (Row Kept)) (old_counts : List Counts) (before : List Change) (new_counts : List Counts)
    (now : List Change) : Type 0 where
  pub more : List Change
  pub is : now ≡ before ++ more
  pub saved : (m : Contents) → Fits old_counts m → IsSaved number row new_counts m (after more m)
  pub tables : (m : Contents) → KeepsOtherTables m (after more m)
