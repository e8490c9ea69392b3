-- What a seal shows of the rows, but for a collision of digests.
use Rattle.std.specs.Prelude.{◌≡◌, ◌≢◌, ◌<◌, ◌%◌, ◌^◌, ℕ, ℤ, List, ◌∷◌, ◌++◌, map, sum_by}
use Rattle.std.specs.FinMap.{entries}
use Rattle.sqlite_disk.specs.Digest.{digest, Collide}
use Rattle.sqlite_value.specs.Order.{Row}
use Rattle.dav_rows.specs.declared.change.Table.{Table}
use Rattle.dav_rows.specs.declared.change.Table.TheVariants.{Resource, Extent, Property, Lock, State}
use Rattle.dav_rows.specs.Stored.{Numbered, shown}
use Rattle.dav_rows.specs.Contents.{Contents, resource_cells, extent_cells, property_cells, lock_cells, state_cells}
use Rattle.dav_seal.specs.RowBytes.{AreCells}
use Rattle.dav_seal.specs.Digests.{entry_bytes}
use Rattle.dav_seal.specs.SealRow.{unsealed}
use Rattle.dav_seal.specs.Seals.{seal_of, HasCells}

-- the bytes of each row of a table, in the order of the numbers
abbrev pub texts_of : {V : Type 0} → Table → (V → Row) → Numbered V → List (List ℕ)
texts_of table cells m = map (entry_bytes table cells) (entries m)

-- the bytes of each row but that of the seal, table by table
abbrev pub all_texts : Contents → List (List ℕ)
all_texts m =
    texts_of Resource resource_cells m.resources
    ++ (texts_of Extent extent_cells m.extents
    ++ (texts_of Property property_cells m.properties
    ++ (texts_of Lock lock_cells m.locks ++ texts_of State state_cells (unsealed m.states))))

-- the sum of the digests of these texts, mod 2 ^ 64
abbrev pub sum_of_texts : ℕ → List (List ℕ) → ℕ
sum_of_texts key texts = sum_by (digest key) texts % 2 ^ 64

-- two different lists of texts have one sum
pub record CollideSums (key : ℕ) (a b : List (List ℕ)) : Type 0 where
  pub different : a ≢ b
  pub same : sum_of_texts key a ≡ sum_of_texts key b

-- each row but that of the seal has cells that its bytes determine
pub record IsWhole (m : Contents) : Type 0 where
  pub resources : HasCells resource_cells m.resources
  pub extents : HasCells extent_cells m.extents
  pub properties : HasCells property_cells m.properties
  pub locks : HasCells lock_cells m.locks
  pub states : HasCells state_cells (unsealed m.states)

-- the maps have the same rows, but for that of the seal
pub record HaveSameRows (m n : Contents) : Type 0 where
  pub resources : m.resources ≡ n.resources
  pub extents : m.extents ≡ n.extents
  pub properties : m.properties ≡ n.properties
  pub locks : m.locks ≡ n.locks
  pub states : unsealed m.states ≡ unsealed n.states

-- Maps with one seal have the same rows, but for a collision.
abbrev pub SealsDetermine : Type 0
SealsDetermine = (key : ℕ) (m n : Contents) → IsWhole m → IsWhole n → seal_of key m ≡ seal_of key n → (HaveSameRows m n → ⊥) → CollideSums key (all_texts m) (all_texts n)

-- Lists of texts of which one has another text than the other, and maybe at another place, and that have one sum, have two texts with one digest.
abbrev pub SumsDetermineOne : Type 0
SumsDetermineOne = (key : ℕ) (before mid after : List (List ℕ)) (a b : List ℕ) → digest key a < 2 ^ 64 → digest key b < 2 ^ 64 → a ≢ b
    → sum_of_texts key (before ++ a ∷ (mid ++ after)) ≡ sum_of_texts key (before ++ (mid ++ b ∷ after)) → Collide key a b

-- A list of texts that lacks one, and has the same sum, lacks one whose digest is 0.
abbrev pub SumsDetermineMissing : Type 0
SumsDetermineMissing = (key : ℕ) (before after : List (List ℕ)) (a : List ℕ) → digest key a < 2 ^ 64
    → sum_of_texts key (before ++ a ∷ after) ≡ sum_of_texts key (before ++ after) → digest key a ≡ 0

-- rows of a table with the same bytes are the same row
abbrev pub BytesDetermine : {V : Type 0} → Table → (V → Row) → Type 0
BytesDetermine {V} table cells = (a b : ℤ × V) → AreCells (shown cells a) → AreCells (shown cells b) → entry_bytes table cells a ≡ entry_bytes table cells b → a ≡ b
