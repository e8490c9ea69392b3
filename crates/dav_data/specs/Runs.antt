-- Pieces whose blocks pass a test of runs: a block is the run of so many bytes from its place on.
use Rattle.std.specs.Prelude.{ℕ, Bool, List}
use Rattle.dav_pieces.specs.declared.piece.Block.{Block}
use Rattle.dav_pieces.specs.declared.piece.Piece.{Piece}
use Rattle.dav_pieces.specs.Pieces.{is_sound, are_sound}

abbrev pub run_passes : (ℕ → ℕ → Bool) → Block → Bool
run_passes test block = test block.at block.size

abbrev pub piece_passes : (ℕ → ℕ → Bool) → Piece → Bool
piece_passes test piece = is_sound (run_passes test) piece

abbrev pub blocks_pass : (ℕ → ℕ → Bool) → List Piece → Bool
blocks_pass test pieces = are_sound (run_passes test) pieces
