-- What passes the tests of blocks that have their digests: their bytes, or a collision.
use Rattle.std.proofs.Common.{◌≡◌, ◌∙◌, ◌+◌, ◌≤◌, ℕ, Bool, true, false, List, [], ◌∷◌, ◌++◌, length, take, drop, refl, ap, sym, subst, inl, inr, leb, arith}
use lib.Seq.{drop-append-le, drop-append-add}
use Rattle.std.specs.Prelude.{bytes_eq}
use Rattle.std.proofs.lemmas.Bool.{and_parts, and_from, leb-true, eqb-true}
use Rattle.std.proofs.lemmas.List.{length-append, length-drop, length-take-le, take_all, take-append-le}
use Rattle.std.proofs.lemmas.Slice.Eq.{bytes_eq-Decides}
use Rattle.sqlite_disk.specs.declared.Disk.{Ghosts}
use Rattle.sqlite_disk.specs.Digest.{digest}
use Rattle.dav_pieces.specs.declared.piece.Block.{Block}
use Rattle.dav_pieces.specs.declared.piece.Piece.{Piece}
use Rattle.dav_pieces.specs.declared.piece.Piece.TheVariants.{Part, Zeros}
use Rattle.dav_pieces.specs.Pieces.{bytes_at, piece_bytes, bytes_of, is_sound, are_sound}
use Rattle.dav_pieces.proofs.RunBytes.{bytes_at-within, length-bytes_at}
use Rattle.dav_store.specs.Calls.{bytes_from}
use Rattle.dav_data.specs.declared.data_file.DataFile.{DataFile}
use Rattle.dav_data.specs.Digests.{is_right, are_right, IsChecked, AreChecked, IsPartOf}
use Rattle.dav_data.specs.Collisions.{HasCollision, IsRightOrCollides}
use Rattle.dav_data.specs.Data.{data_of, has_digests, IsReadChecked, IsReadOrCollides}

-- a part of two lists, one after the other
from-first : (xs ys : List ℕ) (place len : ℕ) → place + len ≤ length xs → bytes_from place len (xs ++ ys) ≡ bytes_from place len xs
from-first xs ys place len fits =
    ap (take len) (drop-append-le place xs ys (omega (fits, arith))) ∙ take-append-le len (drop place xs) ys (let n = length-drop place xs in omega (fits, n, arith))

from-second : (xs ys : List ℕ) (place len : ℕ) → bytes_from (length xs + place) len (xs ++ ys) ≡ bytes_from place len ys
from-second xs ys place len = ap (take len) (drop-append-add xs ys place)

-- a whole list
all-of : (xs : List ℕ) (len : ℕ) → length xs ≡ len → bytes_from 0 len xs ≡ xs
all-of xs len number = take_all len xs (omega (number, arith))

number-of : {key : ℕ} (block : Block) (from len : ℕ) (part : List ℕ) → IsPartOf key block from len part → from + len ≤ block.size → length part ≡ len
number-of block from len part is fits =
    ap length is.cut ∙ length-take-le len (drop from is.bytes) (let n = length-drop from is.bytes in let size = is.size in omega (fits, n, size, arith))

module _ (key : ℕ) (file : List ℕ) where
  abbrev block_bytes : Block → List ℕ
  block_bytes block = bytes_at file block.at block.size

  -- a part of a block
  part-or : (block : Block) (from len : ℕ) (part : List ℕ) (same : Bool) (is : IsPartOf key block from len part) → bytes_eq part (piece_bytes file (Part block from len)) ≡ same
      → is_sound (is_right key file) (Part block from len) ≡ true → IsRightOrCollides key file (Part block from len ∷ []) (piece_bytes file (Part block from len)) part
  part-or block from len part true is equal sound = inl ((bytes_eq-Decides part (piece_bytes file (Part block from len))).0 equal)
  part-or block from len part false is differ sound =
      let fits = leb-true (from + len) block.size (and_parts (leb (from + len) block.size) _ sound).0 in
      let right = eqb-true (digest key (block_bytes block)) block.digest (and_parts (leb (from + len) block.size) _ sound).1 in
      let whole = piece_bytes file (Part block from len) in
      let cut : whole ≡ take len (drop from (block_bytes block)) = bytes_at-within file block.at block.size from len fits in
      let clash : part ≡ whole → ⊥ = λ equal. absurd (let no : false ≡ true = sym differ ∙ (bytes_eq-Decides part whole).1 equal in cc) in
      let number : length part ≡ len = number-of block from len part is fits in
      let same-found : bytes_from 0 len part ≡ part = all-of part len number in
      let same-right : bytes_from 0 len whole ≡ whole = all-of whole len (length-bytes_at file (block.at + from) len) in
      inr (record {
        block = block;
        among = λ test passes. (and_parts (leb (from + len) block.size) (test block) (and_parts (is_sound test (Part block from len)) true passes).0).1;
        bytes = is.bytes;
        collides = record {
          size = is.size;
          other = λ equal. clash (is.cut ∙ ap (λ b. take len (drop from b)) equal ∙ sym cut);
          same = is.right ∙ sym right;
        };
        from = from;
        len = len;
        place = 0;
        within = omega (number, arith);
        right_is = same-right ∙ cut;
        found_is = same-found ∙ is.cut;
        differ = λ equal. clash (sym same-found ∙ equal ∙ same-right);
      })

  piece-or : (piece : Piece) (part : List ℕ) → IsChecked key piece part → is_sound (is_right key file) piece ≡ true → IsRightOrCollides key file (piece ∷ []) (piece_bytes file piece) part
  piece-or (Part block from len) part is sound = part-or block from len part _ is refl sound
  piece-or (Zeros len) part is sound = inl is

  -- a checked part has the length of its piece
  same-length : (piece : Piece) (part : List ℕ) → IsChecked key piece part → is_sound (is_right key file) piece ≡ true → length part ≡ length (piece_bytes file piece)
  same-length (Part block from len) part is sound =
      number-of block from len part is (leb-true (from + len) block.size (and_parts (leb (from + len) block.size) _ sound).0) ∙ sym (length-bytes_at file (block.at + from) len)
  same-length (Zeros len) part is sound = ap length is

  -- a collision in the first part, and one in the rest
  in-first : (piece : Piece) (pieces : List Piece) (part rest : List ℕ) → length part ≡ length (piece_bytes file piece) → HasCollision key file (piece ∷ []) (piece_bytes file piece) part
      → HasCollision key file (piece ∷ pieces) (bytes_of file (piece ∷ pieces)) (part ++ rest)
  in-first piece pieces part rest same has =
      let right = from-first (piece_bytes file piece) (bytes_of file pieces) has.place has.len (subst (λ n. has.place + has.len ≤ n) same has.within) in
      let found = from-first part rest has.place has.len has.within in
      record {
        block = has.block;
        among = λ test passes. has.among test (and_from _ _ (and_parts (is_sound test piece) (are_sound test pieces) passes).0 refl);
        bytes = has.bytes;
        collides = has.collides;
        from = has.from;
        len = has.len;
        place = has.place;
        within = let n = length-append part rest in let within = has.within in omega (n, within, arith);
        right_is = right ∙ has.right_is;
        found_is = found ∙ has.found_is;
        differ = λ equal. has.differ (sym found ∙ equal ∙ right);
      }

  in-rest : (piece : Piece) (pieces : List Piece) (part rest : List ℕ) → length part ≡ length (piece_bytes file piece) → HasCollision key file pieces (bytes_of file pieces) rest
      → HasCollision key file (piece ∷ pieces) (bytes_of file (piece ∷ pieces)) (part ++ rest)
  in-rest piece pieces part rest same has =
      let right : bytes_from (length part + has.place) has.len (bytes_of file (piece ∷ pieces)) ≡ bytes_from has.place has.len (bytes_of file pieces) =
      ap (λ n. bytes_from (n + has.place) has.len (bytes_of file (piece ∷ pieces))) same ∙ from-second (piece_bytes file piece) (bytes_of file pieces) has.place has.len in
      let found = from-second part rest has.place has.len in
      record {
        block = has.block;
        among = λ test passes. has.among test (and_parts (is_sound test piece) (are_sound test pieces) passes).1;
        bytes = has.bytes;
        collides = has.collides;
        from = has.from;
        len = has.len;
        place = length part + has.place;
        within = let n = length-append part rest in let within = has.within in omega (n, within, arith);
        right_is = right ∙ has.right_is;
        found_is = found ∙ has.found_is;
        differ = λ equal. has.differ (sym found ∙ equal ∙ right);
      }

  both-parts : (piece : Piece) (pieces : List Piece) (part rest : List ℕ) → length part ≡ length (piece_bytes file piece) → IsRightOrCollides key file (piece ∷ []) (piece_bytes file piece) part
      → IsRightOrCollides key file pieces (bytes_of file pieces) rest → IsRightOrCollides key file (piece ∷ pieces) (bytes_of file (piece ∷ pieces)) (part ++ rest)
  both-parts piece pieces part rest same (inl first) (inl second) = inl (λ k. first k ++ second k)
  both-parts piece pieces part rest same (inl first) (inr has) = inr (in-rest piece pieces part rest same has)
  both-parts piece pieces part rest same (inr has) second = inr (in-first piece pieces part rest same has)

  pub checked-or : (pieces : List Piece) (found : List ℕ) → AreChecked key pieces found → are_right key file pieces ≡ true → IsRightOrCollides key file pieces (bytes_of file pieces) found
  checked-or [] found are right = inl are
  checked-or (piece ∷ pieces) found are right =
      let both = and_parts (is_sound (is_right key file) piece) (are_right key file pieces) right in
      subst (λ ys. IsRightOrCollides key file (piece ∷ pieces) (bytes_of file (piece ∷ pieces)) ys) (sym are.4)
      (both-parts piece pieces are.0 are.1 (same-length piece are.0 are.2 both.0) (piece-or piece are.0 are.2 both.0) (checked-or pieces are.1 are.3 both.1))

module _ {D : Type 0} {g : Ghosts D} (it : DataFile D g) (body : List Piece) (place count : ℕ) (found : List ℕ) (read : IsReadChecked it body place count found) where
  in-body : (right : List ℕ) → IsRightOrCollides it.key (data_of it) read.pieces right found → IsRightOrCollides it.key (data_of it) body right found
  in-body right (inl same) = inl same
  in-body right (inr has) = inr (record {
    block = has.block;
    among = λ test passes. has.among test (read.sound test passes);
    bytes = has.bytes;
    collides = has.collides;
    from = has.from;
    len = has.len;
    place = has.place;
    within = has.within;
    right_is = has.right_is;
    found_is = has.found_is;
    differ = has.differ;
  })

  -- what a read has checked, of a body whose blocks have their digests
  pub read-or : has_digests it body ≡ true → IsReadOrCollides it body place count found
  read-or right =
      let checked = checked-or it.key (data_of it) read.pieces found read.checked (read.sound (is_right it.key (data_of it)) right) in
      in-body _ (subst (λ ys. IsRightOrCollides it.key (data_of it) read.pieces ys found) (read.cut (data_of it)) checked)
