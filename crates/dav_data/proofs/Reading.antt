-- Reads of pieces, one at a time.
use Rattle.std.proofs.Common.{◌≡◌, ◌∙◌, ℕ, ◌+◌, ◌<◌, ◌≤◌, get_or, length-append, true, List, [], ◌∷◌, ◌++◌, take, drop, length, refl, ap, sym, append_assoc, length-take, length-drop, arith}
use Rattle.std.proofs.lemmas.Bool.{leb-true}
use Rattle.std.proofs.lemmas.List.{append-nil, take_more}
use Rattle.sqlite_disk.specs.declared.Disk.{Ghosts}
use Rattle.sqlite_disk.specs.Digest.{digest}
use Rattle.dav_pieces.specs.declared.piece.Block.{Block}
use Rattle.dav_pieces.specs.declared.piece.Piece.{Piece}
use Rattle.dav_pieces.specs.declared.piece.Piece.TheVariants.{Part}
use Rattle.dav_pieces.specs.Pieces.{bytes_at, piece_bytes, piece_len, bytes_of, is_within}
use Rattle.dav_pieces.proofs.RunBytes.{bytes_at-within}
use Rattle.dav_pieces.proofs.PieceLaws.{bytes_of-push, length-piece_bytes}
use Rattle.dav_data.specs.declared.data_file.DataFile.{DataFile}
use Rattle.dav_data.specs.Digests.{IsChecked, AreChecked}
use Rattle.dav_data.specs.Data.{data_of, is_honest, IsReadTo}

part-len : (bytes : List ℕ) (from len n : ℕ) → length bytes ≡ n → from + len ≤ n → length (take len (drop from bytes)) ≡ len
part-len bytes from len n size fits = omega (arith, length-take len (drop from bytes), length-drop from bytes)

-- a part of a block that was read
pub part-read : {D : Type 0} {g : Ghosts D} (old new : DataFile D g) (piece : Piece) (block : Block) (from len : ℕ) (found more bytes : List ℕ)
    → piece ≡ Part block from len → is_within piece ≡ true → more ≡ found ++ take len (drop from bytes) → length bytes ≡ block.size → digest old.key bytes ≡ block.digest
    → (is_honest new ≡ true → bytes ≡ bytes_at (data_of old) block.at block.size) → IsReadTo piece old found new more
part-read old new piece block from len found more bytes is within appended size right honest =
    let fits = leb-true (from + len) block.size (rw is at within) in
    rw is (record {
      part = take len (drop from bytes);
      appended = appended;
      len = part-len bytes from len block.size size fits;
      checked = record { bytes = bytes; size = size; right = right; cut = refl };
      bytes = λ clean. ap (λ b. take len (drop from b)) (honest clean) ∙ sym (bytes_at-within (data_of old) block.at block.size from len fits);
    })

-- the parts so far, and one more
pub checked-more : (key : ℕ) (pieces : List Piece) (piece : Piece) (found part more : List ℕ) → AreChecked key pieces found → IsChecked key piece part → more ≡ found ++ part → AreChecked key (pieces ++ piece ∷ []) more
checked-more key [] piece found part more were is appended =
    (part, [], is, refl, appended ∙ ap (λ bs. bs ++ part) were ∙ sym (append-nil part))
checked-more key (first ∷ pieces) piece found part more were is appended =
    let rest = checked-more key pieces piece were.1 part (were.1 ++ part) were.3 is refl in
    (were.0, were.1 ++ part, were.2, rest, appended ∙ ap (λ bs. bs ++ part) were.4 ∙ append_assoc were.0 were.1 part)

module _ (file : List ℕ) (pieces : List Piece) (i : ℕ) (d : Piece) (lt : i < length pieces) (found part more : List ℕ) (appended : more ≡ found ++ part) where
  next : bytes_of file (take (i + 1) pieces) ≡ bytes_of file (take i pieces) ++ piece_bytes file (get_or pieces i d)
  next = ap (bytes_of file) (take_more pieces i d lt) ∙ bytes_of-push file (take i pieces) (get_or pieces i d)

  pub bytes-more : found ≡ bytes_of file (take i pieces) → part ≡ piece_bytes file (get_or pieces i d) → more ≡ bytes_of file (take (i + 1) pieces)
  bytes-more were is = appended ∙ (λ k. were k ++ is k) ∙ sym next

  pub count-more : length found ≡ length (bytes_of file (take i pieces)) → length part ≡ piece_len (get_or pieces i d) → length more ≡ length (bytes_of file (take (i + 1) pieces))
  count-more were is =
      let all = ap length appended ∙ length-append found part in
      let then = ap length next ∙ length-append (bytes_of file (take i pieces)) (piece_bytes file (get_or pieces i d)) in
      let one = length-piece_bytes file (get_or pieces i d) in
      omega arith
