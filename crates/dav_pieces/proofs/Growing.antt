-- A list of pieces whose last block grows.
use Rattle.std.proofs.Common.{◌≡◌, ◌∙◌, ℕ, zero, suc, ◌+◌, ◌-◌, ◌<◌, ◌≤◌, Bool, true, false, cond, eqb, List, [], ◌∷◌, ◌++◌, length, get_or, set, Option, Some, None, refl, ap, sym, subst, arith, append_assoc, length-append}
use Rattle.std.proofs.lemmas.List.{append-nil, set-append_left, get_or_append_left}
use Rattle.std.proofs.lemmas.Bool.{and_parts, and_from, eqb-true}
use Rattle.dav_pieces.specs.declared.piece.Block.{Block}
use Rattle.dav_pieces.specs.declared.piece.Piece.{Piece}
use Rattle.dav_pieces.specs.declared.piece.Piece.TheVariants.{Part}
use Rattle.dav_pieces.specs.Pieces.{bytes_at, piece_len, piece_bytes, bytes_of, size_of, is_sound, are_sound, block_ended, last_block}
use Rattle.dav_pieces.specs.Growth.{IsGrown, growth, grown_bytes, is_grown_in}
use Rattle.dav_pieces.proofs.RunBytes.{append-bytes_at, length-bytes_at}
use Rattle.dav_pieces.proofs.PieceLaws.{bytes_of-append, length-bytes_of, are_sound-append}

pub growth-none : (last : Option Block) → growth last None ≡ 0
growth-none None = refl
growth-none (Some last) = refl

pub grown_bytes-none : (file : List ℕ) (last : Option Block) → grown_bytes file last None ≡ []
grown_bytes-none file None = refl
grown_bytes-none file (Some last) = refl

-- a file that ends a block has a last piece, which ends it
pub last-is : (pieces : List Piece) (n : ℕ) (d : Piece) → suc n ≡ length pieces → last_block pieces ≡ block_ended (get_or pieces n d)
last-is [] n d last = absurd (omega arith)
last-is (x ∷ []) zero d last = refl
last-is (x ∷ []) (suc n) d last = absurd (omega arith)
last-is (x ∷ y ∷ pieces) zero d last = absurd (omega arith)
last-is (x ∷ y ∷ pieces) (suc n) d last = last-is (y ∷ pieces) n d (omega arith)

pub grown-some : (pieces : List Piece) (grown : Block) → IsGrown (last_block pieces) (Some grown) → 0 < length pieces
grown-some [] grown h = absurd h
grown-some (x ∷ pieces) grown h = omega arith

set-last-bytes : (file : List ℕ) (pieces : List Piece) (n : ℕ) (d longer : Piece) (extra : List ℕ) → suc n ≡ length pieces
    → piece_bytes file longer ≡ piece_bytes file (get_or pieces n d) ++ extra
    → bytes_of file (set pieces n longer) ≡ bytes_of file pieces ++ extra
set-last-bytes file [] n d longer extra last is = absurd (omega arith)
set-last-bytes file (x ∷ []) zero d longer extra last is =
    append-nil (piece_bytes file longer) ∙ is ∙ ap (λ bs. bs ++ extra) (sym (append-nil (piece_bytes file x)))
set-last-bytes file (x ∷ []) (suc n) d longer extra last is = absurd (omega arith)
set-last-bytes file (x ∷ y ∷ pieces) zero d longer extra last is = absurd (omega arith)
set-last-bytes file (x ∷ y ∷ pieces) (suc n) d longer extra last is =
    ap (λ bs. piece_bytes file x ++ bs) (set-last-bytes file (y ∷ pieces) n d longer extra (omega arith) is)
    ∙ sym (append_assoc (piece_bytes file x) (bytes_of file (y ∷ pieces)) extra)

-- the last of some pieces is longer, and others follow
pub grown-last-bytes : (file : List ℕ) (pieces more : List Piece) (n : ℕ) (d longer : Piece) (extra : List ℕ) → suc n ≡ length pieces
    → piece_bytes file longer ≡ piece_bytes file (get_or pieces n d) ++ extra
    → bytes_of file (set (pieces ++ more) n longer) ≡ bytes_of file pieces ++ extra ++ bytes_of file more
grown-last-bytes file pieces more n d longer extra last is =
    ap (bytes_of file) (set-append_left pieces more n longer (omega arith))
    ∙ bytes_of-append file (set pieces n longer) more
    ∙ ap (λ bs. bs ++ bytes_of file more) (set-last-bytes file pieces n d longer extra last is)

set-sound : (test : Block → Bool) (pieces : List Piece) (n : ℕ) (longer : Piece) → is_sound test longer ≡ true → are_sound test pieces ≡ true → are_sound test (set pieces n longer) ≡ true
set-sound test [] n longer one all = refl
set-sound test (x ∷ pieces) zero longer one all = and_from (is_sound test longer) (are_sound test pieces) one (and_parts (is_sound test x) (are_sound test pieces) all).1
set-sound test (x ∷ pieces) (suc n) longer one all =
    let parts = and_parts (is_sound test x) (are_sound test pieces) all in
    and_from (is_sound test x) (are_sound test (set pieces n longer)) parts.0 (set-sound test pieces n longer one parts.1)

pub grown-last-sound : (test : Block → Bool) (pieces more : List Piece) (n : ℕ) (longer : Piece) → is_sound test longer ≡ true
    → are_sound test pieces ≡ true → are_sound test more ≡ true → are_sound test (set (pieces ++ more) n longer) ≡ true
grown-last-sound test pieces more n longer one all others = set-sound test (pieces ++ more) n longer one (are_sound-append test pieces more all others)

module _ (block grown : Block) (from len : ℕ) where
  -- a piece that ends its block
  pub part-ends : IsGrown (block_ended (Part block from len)) (Some grown) → from + len ≡ block.size
  part-ends h = ends (eqb (from + len) block.size) refl h
    where
      ends : (t : Bool) → eqb (from + len) block.size ≡ t → IsGrown (cond t (Some block) None) (Some grown) → from + len ≡ block.size
      ends true is h = eqb-true (from + len) block.size is
      ends false is h = absurd h

  pub ends-block : IsGrown (block_ended (Part block from len)) (Some grown) → block_ended (Part block from len) ≡ Some block
  ends-block h = ends (eqb (from + len) block.size) h
    where
      ends : (t : Bool) → IsGrown (cond t (Some block) None) (Some grown) → cond t (Some block) None ≡ Some block
      ends true h = refl
      ends false h = absurd h

  pub grown-block : IsGrown (block_ended (Part block from len)) (Some grown) → (grown.at ≡ block.at) × (block.size ≤ grown.size)
  grown-block h = ends (eqb (from + len) block.size) h
    where
      ends : (t : Bool) → IsGrown (cond t (Some block) None) (Some grown) → (grown.at ≡ block.at) × (block.size ≤ grown.size)
      ends true h = h
      ends false h = absurd h

  pub grown-part : IsGrown (block_ended (Part block from len)) (Some grown) → (file : List ℕ)
      → bytes_at file (grown.at + from) (len + (grown.size - block.size)) ≡ bytes_at file (block.at + from) len ++ grown_bytes file (block_ended (Part block from len)) (Some grown)
  grown-part h file =
      let more = grown.size - block.size in
      let same = (grown-block h).0 in
      let ends = part-ends h in
      let after : block.at + from + len ≡ block.at + block.size = omega arith in
      (λ i. bytes_at file (same i + from) (len + more))
      ∙ append-bytes_at file (block.at + from) len more
      ∙ ap (λ k. bytes_at file (block.at + from) len ++ bytes_at file k more) after
      ∙ ap (λ last. bytes_at file (block.at + from) len ++ grown_bytes file last (Some grown)) (sym (ends-block h))

pub length-grown_bytes : (file : List ℕ) (last grown : Option Block) → length (grown_bytes file last grown) ≡ growth last grown
length-grown_bytes file None None = refl
length-grown_bytes file None (Some grown) = refl
length-grown_bytes file (Some last) None = refl
length-grown_bytes file (Some last) (Some grown) = length-bytes_at file (last.at + last.size) (grown.size - last.size)

-- the size of a file after bytes were appended
pub appended-size : (file : List ℕ) (old more new : List Piece) (last grown : Option Block)
    → bytes_of file new ≡ bytes_of file old ++ grown_bytes file last grown ++ bytes_of file more
    → size_of new ≡ size_of old + growth last grown + size_of more
appended-size file old more new last grown is =
    let extra = grown_bytes file last grown in
    sym (length-bytes_of file new) ∙ ap length is ∙ length-append (bytes_of file old ++ extra) (bytes_of file more)
    ∙ (λ i. length-append (bytes_of file old) extra i + length-bytes_of file more i)
    ∙ (λ i. length-bytes_of file old i + length-grown_bytes file last grown i + size_of more)

-- pieces with others after them, and then a longer piece in place of the last of the first ones
module _ (xs more new : List Piece) (n : ℕ) (piece : Piece) (grown : Option Block) (block : Block)
    (grows : IsGrown (last_block xs) grown) (grown_is : grown ≡ Some block) (long : n ≡ length xs)
    (new_is : new ≡ xs ++ more) (piece_is : piece ≡ get_or new (n - 1) piece) where
  grows-some : IsGrown (last_block xs) (Some block)
  grows-some = subst (λ g. IsGrown (last_block xs) g) grown_is grows

  at-end : suc (n - 1) ≡ length xs
  at-end = let some = grown-some xs block grows-some in omega arith

  piece-there : piece ≡ get_or xs (n - 1) piece
  piece-there =
      let e = at-end in
      piece_is ∙ ap (λ ys. get_or ys (n - 1) piece) new_is ∙ get_or_append_left xs more piece (n - 1) (omega arith)

  ends-last : last_block xs ≡ block_ended piece
  ends-last = last-is xs (n - 1) piece at-end ∙ ap block_ended (sym piece-there)

  pub grows-piece : IsGrown (block_ended piece) (Some block)
  grows-piece = subst (λ last. IsGrown last (Some block)) ends-last grows-some

  pub appended-bytes : (file : List ℕ) (longer : Piece) → piece_bytes file longer ≡ piece_bytes file piece ++ grown_bytes file (block_ended piece) (Some block)
      → bytes_of file (set new (n - 1) longer) ≡ bytes_of file xs ++ grown_bytes file (last_block xs) grown ++ bytes_of file more
  appended-bytes file longer is =
      let extra = grown_bytes file (block_ended piece) (Some block) in
      ap (λ ys. bytes_of file (set ys (n - 1) longer)) new_is
      ∙ grown-last-bytes file xs more (n - 1) piece longer extra at-end (is ∙ ap (λ p. piece_bytes file p ++ extra) piece-there)
      ∙ sym (λ i. bytes_of file xs ++ grown_bytes file (ends-last i) (grown_is i) ++ bytes_of file more)

  pub appended-sound : (test : Block → Bool) (longer : Piece) → (test block ≡ true → is_sound test longer ≡ true)
      → are_sound test xs ≡ true → is_grown_in test grown ≡ true → are_sound test more ≡ true → are_sound test (set new (n - 1) longer) ≡ true
  appended-sound test longer sound all grown_in others =
      ap (λ ys. are_sound test (set ys (n - 1) longer)) new_is
      ∙ grown-last-sound test xs more (n - 1) longer (sound (sym (ap (is_grown_in test) grown_is) ∙ grown_in)) all others

  pub appended-count : (longer : Piece) (long_len len count : ℕ) → piece_len longer ≡ piece_len piece + growth (block_ended piece) (Some block)
      → long_len ≡ piece_len longer → len ≡ piece_len piece → count ≡ size_of more
      → long_len - len + count ≡ growth (last_block xs) grown + size_of more
  appended-count longer long_len len count is a b d =
      let same : growth (last_block xs) grown ≡ growth (block_ended piece) (Some block) = λ i. growth (ends-last i) (grown_is i) in
      omega arith
