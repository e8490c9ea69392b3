-- What appended changes make of the maps.
use Rattle.std.specs.Prelude.{◌≡◌, ℕ, zero, suc, ◌+◌, ℤ, pos, List, [], ◌∷◌, ◌++◌, Option, Some, None}
use Rattle.std.specs.FinMap.{insert, remove}
use Rattle.dav_rows.specs.Stored.{Numbered}
use Rattle.dav_rows.specs.Contents.{Contents, ResourceValues, ExtentValues, PropertyValues}
use Rattle.dav_rows.specs.Changes.{after, removed}
use Rattle.dav_rows.specs.declared.change.Change.{Change}
use Rattle.dav_rows.specs.declared.change.Table.{Table}
use Rattle.dav_store_rows.specs.Parts.{part_key}

-- changes are appended, and they make of the maps what `f` makes of them
pub record Appends (f : Contents → Contents) (before now : List Change) : Type 0 where
  pub more : List Change
  pub is : now ≡ before ++ more
  pub makes : (m : Contents) → after more m ≡ f m

module _ {V : Type 0} where
  -- a table with these parts of a resource, from an index on
  abbrev pub with_parts : ℕ → ℕ → List V → Numbered V → Numbered V
  with_parts number index [] m = m
  with_parts number index (part ∷ parts) m = with_parts number (index + 1) parts (insert m (part_key number index) part)

  -- a table with a value under a number, or without one
  abbrev pub with_value : ℤ → Option V → Numbered V → Numbered V
  with_value key None m = remove m key
  with_value key (Some value) m = insert m key value

  -- a table without so many parts of a resource, from an index on
  abbrev pub without_parts : ℕ → ℕ → ℕ → Numbered V → Numbered V
  without_parts number index zero m = m
  without_parts number index (suc count) m = remove (without_parts number index count m) (part_key number (index + count))

-- the maps without so many parts of a resource in a table, from an index on
abbrev pub removed_parts : Table → ℕ → ℕ → ℕ → Contents → Contents
removed_parts table number index zero m = m
removed_parts table number index (suc count) m = removed table (part_key number (index + count)) (removed_parts table number index count m)

-- the maps with these extents, and with these properties, of a resource
abbrev pub with_extents : ℕ → List ExtentValues → Contents → Contents
with_extents number extents m = record m { extents = with_parts number 0 extents m.extents }

abbrev pub with_properties : ℕ → List PropertyValues → Contents → Contents
with_properties number properties m = record m { properties = with_parts number 0 properties m.properties }

-- the maps with one more extent, and with one more property, of a resource
abbrev pub with_extent : ℕ → ℕ → ExtentValues → Contents → Contents
with_extent number index values m = record m { extents = insert m.extents (part_key number index) values }

abbrev pub with_property : ℕ → ℕ → PropertyValues → Contents → Contents
with_property number index values m = record m { properties = insert m.properties (part_key number index) values }

-- the maps with the row of a resource, or without it
abbrev pub with_resource : ℕ → Option ResourceValues → Contents → Contents
with_resource number values m = record m { resources = with_value (pos number) values m.resources }
