-- What the tables stand for: a map by number for each.
use Rattle.std.specs.Prelude.{ℕ, ℤ, pos, Bool, List, [], ◌∷◌, if◌then◌else◌}
use Rattle.sqlite.specs.declared.types.Value.TheVariants.{Int, Text, Blob}
use Rattle.sqlite.specs.Order.{Row}
use Rattle.sqlite.specs.Tree.{Trees}
use Rattle.dav_rows.specs.Stored.{Numbered, AreRows, IsOurs}

pub record ResourceValues : Type 0 where
  pub parent : ℤ
  pub name : List ℕ
  pub directory : Bool
  pub size : ℤ
  pub version : ℤ
  pub created : ℤ
  pub modified : ℤ

pub record ExtentValues : Type 0 where
  pub resource : ℤ
  pub place : ℤ
  pub pieces : List ℕ

pub record PropertyValues : Type 0 where
  pub resource : ℤ
  pub namespace : List ℕ
  pub name : List ℕ
  pub element : List ℕ

pub record LockValues : Type 0 where
  pub token : List ℕ
  pub path : List ℕ
  pub lock : List ℕ

pub record StateValues : Type 0 where
  pub counter : ℤ
  pub time : ℤ
  pub batch : ℤ
  pub digest_key : ℤ

pub record NoteValues : Type 0 where
  pub kind : ℤ
  pub owner : ℤ
  pub value : List ℕ

pub record Contents : Type 0 where
  pub resources : Numbered ResourceValues
  pub extents : Numbered ExtentValues
  pub properties : Numbered PropertyValues
  pub locks : Numbered LockValues
  pub states : Numbered StateValues
  pub notes : Numbered NoteValues

-- ---- the cells that hold the values

abbrev pub flag : Bool → ℤ
flag b = if b then pos 1 else pos 0

abbrev pub resource_cells : ResourceValues → Row
resource_cells v = Int v.parent ∷ Text v.name ∷ Int (flag v.directory) ∷ Int v.size ∷ Int v.version ∷ Int v.created ∷ Int v.modified ∷ []

abbrev pub extent_cells : ExtentValues → Row
extent_cells v = Int v.resource ∷ Int v.place ∷ Blob v.pieces ∷ []

abbrev pub property_cells : PropertyValues → Row
property_cells v = Int v.resource ∷ Text v.namespace ∷ Text v.name ∷ Blob v.element ∷ []

abbrev pub lock_cells : LockValues → Row
lock_cells v = Text v.token ∷ Text v.path ∷ Blob v.lock ∷ []

abbrev pub state_cells : StateValues → Row
state_cells v = Int v.counter ∷ Int v.time ∷ Int v.batch ∷ Int v.digest_key ∷ []

abbrev pub note_cells : NoteValues → Row
note_cells v = Int v.kind ∷ Int v.owner ∷ Blob v.value ∷ []

-- The trees are our database, and the rows of each table are those of its map.
pub record Holds (db : Trees) (m : Contents) : Type 0 where
  pub resources : AreRows resource_cells (db 0) m.resources
  pub extents : AreRows extent_cells (db 1) m.extents
  pub properties : AreRows property_cells (db 2) m.properties
  pub locks : AreRows lock_cells (db 3) m.locks
  pub states : AreRows state_cells (db 4) m.states
  pub notes : AreRows note_cells (db 5) m.notes
  pub sound : IsOurs db
