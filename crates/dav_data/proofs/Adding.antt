-- Blocks that are added, one at a time.
use Rattle.std.proofs.Common.{◌≡◌, ◌∙◌, ℕ, ◌+◌, Bool, true, List, [], ◌∷◌, ◌++◌, take, drop, ap, sym, append_assoc, arith}
use Rattle.std.specs.Prelude.{◌==◌}
use Rattle.std.proofs.lemmas.Bool.{and_from, le-leb, eq-eqb}
use Rattle.std.proofs.lemmas.List.{take-append-drop}
use Rattle.sqlite_disk.specs.Digest.{digest}
use Rattle.dav_pieces.specs.declared.piece.Block.{Block}
use Rattle.dav_pieces.specs.declared.piece.Piece.{Piece}
use Rattle.dav_pieces.specs.declared.piece.Piece.TheVariants.{Part}
use Rattle.dav_pieces.specs.Pieces.{bytes_at, piece_bytes, bytes_of}
use Rattle.dav_data.specs.Runs.{run_passes, blocks_pass}
use Rattle.dav_data.proofs.Bodies.{sound-both}
use Rattle.dav_pieces.proofs.PieceLaws.{bytes_of-push, are_sound-push}
use Rattle.dav_data.proofs.Runs.{pass-kept, pass-push, pass-weaker}
use Rattle.dav_data.specs.Digests.{is_right, are_right}

-- the piece that stands for one that is not there
abbrev pub no_piece : Piece
no_piece = Part (record { at = 0; size = 0; digest = 0 }) 0 0

-- a block as a piece
abbrev pub whole : Block → Piece
whole block = Part block 0 block.size

module _ (key : ℕ) (old new : List ℕ) (test : ℕ → ℕ → Bool) (same : (at n : ℕ) → test at n ≡ true → bytes_at new at n ≡ bytes_at old at n) where
  -- the digests of blocks that keep their bytes
  pub right-kept : (pieces : List Piece) → blocks_pass test pieces ≡ true → are_right key old pieces ≡ true → are_right key new pieces ≡ true
  right-kept pieces sound right =
      sound-both (run_passes test) (is_right key old) (is_right key new) (λ b used is. ap (λ bytes. digest key bytes == b.digest) (same b.at b.size used) ∙ is) pieces sound right

  module _ (pieces : List Piece) (sound : blocks_pass test pieces ≡ true) (block : Block) (rest : List ℕ) (there : bytes_at new block.at block.size ≡ take block.size rest) where
    pub bytes-added : (bytes after : List ℕ) → after ≡ drop block.size rest → bytes_of old pieces ++ rest ≡ bytes → bytes_of new (pieces ++ whole block ∷ []) ++ after ≡ bytes
    bytes-added bytes after behind is =
        let p : block.at + 0 ≡ block.at = omega arith in
        let piece : piece_bytes new (whole block) ≡ take block.size rest = ap (λ at. bytes_at new at block.size) p ∙ there in
        let was = pass-kept test old new same pieces sound in
        (λ i. bytes_of-push new pieces (whole block) i ++ behind i) ∙ (λ i. (was i ++ piece i) ++ drop block.size rest)
        ∙ append_assoc (bytes_of old pieces) (take block.size rest) (drop block.size rest) ∙ ap (λ bs. bytes_of old pieces ++ bs) (take-append-drop block.size rest) ∙ is

    pub right-added : block.digest ≡ digest key (take block.size rest) → are_right key old pieces ≡ true → are_right key new (pieces ++ whole block ∷ []) ≡ true
    right-added is right =
        are_sound-push (is_right key new) pieces (whole block) (right-kept pieces sound right)
        (and_from _ _ (le-leb (0 + block.size) block.size (omega arith)) (eq-eqb (digest key (bytes_at new block.at block.size)) block.digest (ap (digest key) there ∙ sym is)))

pub sound-added : (old new : ℕ → ℕ → Bool) → ((at n : ℕ) → old at n ≡ true → new at n ≡ true) → (pieces : List Piece) → blocks_pass old pieces ≡ true
    → (block : Block) → new block.at block.size ≡ true → blocks_pass new (pieces ++ whole block ∷ []) ≡ true
sound-added old new used pieces sound block is =
    pass-push new pieces (whole block) (pass-weaker old new used pieces sound) (and_from _ _ (le-leb (0 + block.size) block.size (omega arith)) is)
