-- The tables of the store, and their schema.
use Rattle.std.specs.Prelude.{◌≡◌, ℕ, true, false, List, [], ◌∷◌, take, codes, Some}
use Rattle.std.specs.Borrow.{Bor}
use Rattle.sqlite.specs.Collation.TheVariants.{Binary}
use Rattle.sqlite.specs.declared.types.Value.TheVariants.{Null}
use Rattle.sqlite_schema.specs.declared.schema.Column.{Column}
use Rattle.sqlite.specs.Table.{Table}
use Rattle.sqlite.specs.Schema.{Schema}
use Rattle.sqlite.specs.Kind.{Kind}
use Rattle.sqlite.specs.Kind.TheVariants.{Integer, Text, Blob}

abbrev pub key : Column
key = record { name = codes "number"; kind = Integer; is_strict = true; not_null = false; default = Null; collation = Binary }

-- a column that is never NULL
abbrev pub filled : List ℕ → Kind → Column
filled name kind = record { name = name; kind = kind; is_strict = true; not_null = true; default = Null; collation = Binary }

-- the same, of a name and a kind
abbrev pub filled_by : Bor (List ℕ) × Kind → Column
filled_by c = filled c.0.now c.1

-- The table has no UNIQUE, CHECK or FOREIGN KEY, no default that is computed, and no AUTOINCREMENT.
pub record HasNoRules (table : Table) : Type 0 where
  pub uniques : table.uniques ≡ []
  pub orders : table.orders ≡ []
  pub checks : table.checks ≡ []
  pub references : table.references ≡ []
  pub computed : table.computed ≡ []
  pub stamps : table.stamps ≡ record { places = []; terms = []; formats = [] }
  pub uncounted : table.is_counted ≡ false

-- a table of numbered rows
abbrev pub numbered : List ℕ → ℕ → List Column → Table
numbered name tree columns = record {
  name = name;
  tree = tree;
  columns = key ∷ columns;
  key = Some 0;
  primary = 0 ∷ [];
  uniques = [];
  orders = [];
  checks = [];
  references = [];
  computed = [];
  stamps = record { places = []; terms = []; formats = [] };
  is_counted = false;
}

abbrev pub resource_columns : List Column
resource_columns =
    filled (codes "parent") Integer ∷ filled (codes "name") Text ∷ filled (codes "directory") Integer ∷ filled (codes "size") Integer
    ∷ filled (codes "version") Integer ∷ filled (codes "created") Integer ∷ filled (codes "modified") Integer ∷ []

abbrev pub extent_columns : List Column
extent_columns = filled (codes "resource") Integer ∷ filled (codes "place") Integer ∷ filled (codes "pieces") Blob ∷ []

abbrev pub property_columns : List Column
property_columns = filled (codes "resource") Integer ∷ filled (codes "namespace") Text ∷ filled (codes "name") Text ∷ filled (codes "element") Blob ∷ []

abbrev pub lock_columns : List Column
lock_columns = filled (codes "token") Text ∷ filled (codes "path") Text ∷ filled (codes "lock") Blob ∷ []

abbrev pub state_columns : List Column
state_columns = filled (codes "counter") Integer ∷ filled (codes "time") Integer ∷ filled (codes "batch") Integer ∷ filled (codes "digest_key") Integer ∷ []

abbrev pub note_columns : List Column
note_columns = filled (codes "kind") Integer ∷ filled (codes "owner") Integer ∷ filled (codes "value") Blob ∷ []

abbrev pub with_tables : List Table → Schema
with_tables tables = record { tables = tables; indexes = []; views = [] }

abbrev pub rows_tables : List Table
rows_tables =
    numbered (codes "resource") 0 resource_columns ∷ numbered (codes "extent") 1 extent_columns ∷ numbered (codes "property") 2 property_columns
    ∷ numbered (codes "lock") 3 lock_columns ∷ numbered (codes "state") 4 state_columns ∷ numbered (codes "note") 5 note_columns ∷ []

abbrev pub rows_schema : Schema
rows_schema = with_tables rows_tables

-- the tables of version 1, which are all but the last
abbrev pub older_tables : List Table
older_tables = take 5 rows_tables

abbrev pub older_schema : Schema
older_schema = with_tables older_tables

abbrev pub no_schema : Schema
no_schema = with_tables []
