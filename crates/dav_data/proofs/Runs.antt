-- Pieces whose blocks pass a test of runs.
use Rattle.std.proofs.Common.{◌≡◌, ℕ, Bool, true, List, [], ◌∷◌, ◌++◌}
use Rattle.dav_pieces.specs.declared.piece.Piece.{Piece}
use Rattle.dav_pieces.specs.Pieces.{bytes_at, bytes_of}
use Rattle.dav_pieces.proofs.PieceLaws.{are_sound-weaker, are_sound-push, bytes_of-kept}
use Rattle.dav_data.specs.Runs.{run_passes, piece_passes, blocks_pass}

-- a test that passes more runs
pub pass-weaker : (p q : ℕ → ℕ → Bool) → ((at n : ℕ) → p at n ≡ true → q at n ≡ true) → (pieces : List Piece) → blocks_pass p pieces ≡ true → blocks_pass q pieces ≡ true
pass-weaker p q then pieces pass = are_sound-weaker (run_passes p) (run_passes q) (λ b is. then b.at b.size is) pieces pass

pub pass-push : (test : ℕ → ℕ → Bool) (pieces : List Piece) (piece : Piece) → blocks_pass test pieces ≡ true → piece_passes test piece ≡ true → blocks_pass test (pieces ++ piece ∷ []) ≡ true
pass-push test pieces piece all one = are_sound-push (run_passes test) pieces piece all one

-- data files with the same bytes in the runs that pass
pub pass-kept : (test : ℕ → ℕ → Bool) (old new : List ℕ) → ((at n : ℕ) → test at n ≡ true → bytes_at new at n ≡ bytes_at old at n)
    → (pieces : List Piece) → blocks_pass test pieces ≡ true → bytes_of new pieces ≡ bytes_of old pieces
pass-kept test old new same pieces pass = bytes_of-kept (run_passes test) old new (λ b is. same b.at b.size is) pieces pass
