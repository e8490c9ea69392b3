use Rattle.std.proofs.Common.{◌≡◌, ◌-◌, ◌++◌, ℕ, Bool, true, List, take}
use Rattle.dav_pieces.specs.declared.piece.Block.{Block}
use Rattle.dav_pieces.specs.Pieces.{bytes_of, size_of, are_sound}
use Rattle.dav_pieces.proofs.edits.append_first.Given as goal

abbrev pub invariant-loop-piece : goal.invariant-loop-piece
invariant-loop-piece l = record {
  bytes : (file : List ℕ) → bytes_of file l.out.items ≡ bytes_of file l.fn.out.items ++ take l.n (bytes_of file (take l.piece-index l.pieces));
  left : l.left ≡ l.n - size_of (take l.piece-index l.pieces);
  sound : (test : Block → Bool) → are_sound test l.fn.out.items ≡ true → are_sound test l.pieces ≡ true → are_sound test l.out.items ≡ true;
}
