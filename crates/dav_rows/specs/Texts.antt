-- The statements that differ by a table alone.
use Rattle.std.specs.Prelude.{ℕ, List, codes}
use Rattle.dav_rows.specs.declared.change.Table.{Table}
use Rattle.dav_rows.specs.declared.change.Table.TheVariants.{Resource, Extent, Property, Lock, State, Note}

-- removes the row of a number
abbrev pub removal : Table → List ℕ
removal Resource = codes "DELETE FROM resource WHERE number = ?1"
removal Extent = codes "DELETE FROM extent WHERE number = ?1"
removal Property = codes "DELETE FROM property WHERE number = ?1"
removal Lock = codes "DELETE FROM lock WHERE number = ?1"
removal State = codes "DELETE FROM state WHERE number = ?1"
removal Note = codes "DELETE FROM note WHERE number = ?1"

-- makes the table
abbrev pub creation : Table → List ℕ
creation Resource = codes "CREATE TABLE resource (number INTEGER PRIMARY KEY, parent INTEGER NOT NULL, name TEXT NOT NULL, directory INTEGER NOT NULL, size INTEGER NOT NULL, version INTEGER NOT NULL, created INTEGER NOT NULL, modified INTEGER NOT NULL) STRICT"
creation Extent = codes "CREATE TABLE extent (number INTEGER PRIMARY KEY, resource INTEGER NOT NULL, place INTEGER NOT NULL, pieces BLOB NOT NULL) STRICT"
creation Property = codes "CREATE TABLE property (number INTEGER PRIMARY KEY, resource INTEGER NOT NULL, namespace TEXT NOT NULL, name TEXT NOT NULL, element BLOB NOT NULL) STRICT"
creation Lock = codes "CREATE TABLE lock (number INTEGER PRIMARY KEY, token TEXT NOT NULL, path TEXT NOT NULL, lock BLOB NOT NULL) STRICT"
creation State = codes "CREATE TABLE state (number INTEGER PRIMARY KEY, counter INTEGER NOT NULL, time INTEGER NOT NULL, batch INTEGER NOT NULL, digest_key INTEGER NOT NULL) STRICT"
creation Note = codes "CREATE TABLE note (number INTEGER PRIMARY KEY, kind INTEGER NOT NULL, owner INTEGER NOT NULL, value BLOB NOT NULL) STRICT"
