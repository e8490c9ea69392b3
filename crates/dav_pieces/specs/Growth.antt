-- A block of a file that grows in the data file: this project's own choice.
use Rattle.std.specs.Prelude.{◌≡◌, ◌≤◌, ℕ, ◌+◌, ◌-◌, Bool, true, List, [], Option, Some, None}
use Rattle.dav_pieces.specs.declared.piece.Block.{Block}
use Rattle.dav_pieces.specs.Pieces.{bytes_at}

-- the second block, if there is one, begins where the first begins, and is no shorter
abbrev pub IsGrown : Option Block → Option Block → Type 0
IsGrown last None = Unit {0}
IsGrown None (Some grown) = ⊥
IsGrown (Some last) (Some grown) = (grown.at ≡ last.at) × (last.size ≤ grown.size)

-- by how many bytes the first has grown to the second
abbrev pub growth : Option Block → Option Block → ℕ
growth (Some last) (Some grown) = grown.size - last.size
growth _ _ = 0

-- these bytes, where the data file has these contents
abbrev pub grown_bytes : List ℕ → Option Block → Option Block → List ℕ
grown_bytes file (Some last) (Some grown) = bytes_at file (last.at + last.size) (grown.size - last.size)
grown_bytes file _ _ = []

-- the second block, if there is one, passes the test
abbrev pub is_grown_in : (Block → Bool) → Option Block → Bool
is_grown_in test None = true
is_grown_in test (Some grown) = test grown
