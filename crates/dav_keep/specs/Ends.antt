-- Where the blocks of files end in the data file.
use Rattle.std.specs.Prelude.{◌≡◌, ◌≤◌, ◌<◌, ◌+◌, ◌^◌, ℕ, true, nat_le, All, List, Option, Some, None}
use Rattle.dav_data.specs.Data.{is_below}
use Rattle.dav_data.specs.Runs.{piece_passes, blocks_pass}
use Rattle.dav_nodes.specs.declared.nodes.loading.NumberedValue.{NumberedValue}
use Rattle.dav_pieces.specs.declared.piece.Piece.{Piece}
use Rattle.dav_store_rows.specs.Resources.{Kept}
use Rattle.dav_tree.specs.Entry.{is_held}

-- the block of a piece ends at or before a place, and the piece is within it
abbrev pub IsPieceBelow : Piece → ℕ → Type 0
IsPieceBelow piece end = piece_passes (λ at n. nat_le (at + n) end) piece ≡ true

-- the same of each piece
abbrev pub ArePiecesBelow : List Piece → ℕ → Type 0
ArePiecesBelow pieces end = blocks_pass (λ at n. nat_le (at + n) end) pieces ≡ true

-- the file of a resource has fewer than 2^63 bytes, and its blocks end at or before a place
abbrev pub IsValueBelow : NumberedValue Kept → ℕ → Type 0
IsValueBelow value end = is_held (is_below end) value.value.content ≡ true

-- the same of each resource
abbrev pub AreBelow : List (NumberedValue Kept) → ℕ → Type 0
AreBelow values end = All (λ value. IsValueBelow value end) values

-- the place is the first of which this is so
pub record IsEnd (Is : ℕ → Type 0) (end : ℕ) : Type 0 where
  pub reached : Is end
  pub least : (other : ℕ) → Is other → end ≤ other
  pub small : end < 2 ^ 63

-- the place is found, or this is so of no place below 2^63
abbrev pub FindsEnd : (ℕ → Type 0) → Option ℕ → Type 0
FindsEnd Is (Some end) = IsEnd Is end
FindsEnd Is None = (end : ℕ) → end < 2 ^ 63 → Is end → ⊥
