-- Laws of pieces and of lists of them.
use Rattle.std.proofs.Common.{◌≡◌, ◌∙◌, ℕ, zero, suc, ◌+◌, ◌<◌, Bool, true, false, cond, nat_le, List, [], ◌∷◌, ◌++◌, length, get_or, take, drop, Some, None, refl, ap, sym, subst, arith, length-append}
use Rattle.std.proofs.Math.ListN.{length-replicate}
use Rattle.std.specs.Prelude.{◌==◌}
use Rattle.std.specs.List.{list_all}
use Rattle.std.proofs.lemmas.List.{append-nil}
use Rattle.std.proofs.lemmas.List.Concat.{flat_map-append}
use Rattle.std.proofs.lemmas.Bool.{and_parts, and_from, leb-true}
use Rattle.dav_pieces.specs.declared.piece.Block.{Block}
use Rattle.dav_pieces.specs.declared.piece.Piece.{Piece}
use Rattle.dav_pieces.specs.declared.piece.Piece.TheVariants.{Part, Zeros}
use Rattle.dav_pieces.specs.Pieces.{bytes_at, piece_len, piece_bytes, bytes_of, size_of, is_within, is_sound, are_within, are_sound, block_ended, last_block}
use Rattle.dav_pieces.proofs.RunBytes.{length-bytes_at, bytes_at-within}

-- ---- sizes

pub length-piece_bytes : (file : List ℕ) (piece : Piece) → length (piece_bytes file piece) ≡ piece_len piece
length-piece_bytes file (Part block from len) = length-bytes_at file (block.at + from) len
length-piece_bytes file (Zeros len) = length-replicate len 0

pub length-bytes_of : (file : List ℕ) (pieces : List Piece) → length (bytes_of file pieces) ≡ size_of pieces
length-bytes_of file [] = refl
length-bytes_of file (piece ∷ pieces) =
    length-append (piece_bytes file piece) (bytes_of file pieces) ∙ (λ i. length-piece_bytes file piece i + length-bytes_of file pieces i)

pub bytes_of-append : (file : List ℕ) (xs ys : List Piece) → bytes_of file (xs ++ ys) ≡ bytes_of file xs ++ bytes_of file ys
bytes_of-append file xs ys = flat_map-append (piece_bytes file) xs ys

pub bytes_of-push : (file : List ℕ) (pieces : List Piece) (piece : Piece) → bytes_of file (pieces ++ piece ∷ []) ≡ bytes_of file pieces ++ piece_bytes file piece
bytes_of-push file pieces piece = bytes_of-append file pieces (piece ∷ []) ∙ ap (λ bs. bytes_of file pieces ++ bs) (append-nil (piece_bytes file piece))

pub size_of-append : (xs ys : List Piece) → size_of (xs ++ ys) ≡ size_of xs + size_of ys
size_of-append [] ys = omega arith
size_of-append (x ∷ xs) ys = let rest = size_of-append xs ys in omega arith

pub size_of-push : (pieces : List Piece) (piece : Piece) → size_of (pieces ++ piece ∷ []) ≡ size_of pieces + piece_len piece
size_of-push [] piece = omega arith
size_of-push (x ∷ pieces) piece = let rest = size_of-push pieces piece in omega arith

-- ---- pieces within their blocks, and blocks that pass a test

within-from_sound : (test : Block → Bool) (piece : Piece) → is_sound test piece ≡ true → is_within piece ≡ true
within-from_sound test (Part block from len) sound = (and_parts (nat_le (from + len) block.size) (test block) sound).0
within-from_sound test (Zeros len) sound = refl

pub are_within-from_sound : (test : Block → Bool) (pieces : List Piece) → are_sound test pieces ≡ true → are_within pieces ≡ true
are_within-from_sound test [] sound = refl
are_within-from_sound test (piece ∷ pieces) sound =
    let parts = and_parts (is_sound test piece) (are_sound test pieces) sound in
    and_from (is_within piece) (are_within pieces) (within-from_sound test piece parts.0) (are_within-from_sound test pieces parts.1)

sound-from_within : (piece : Piece) → is_within piece ≡ true → is_sound (λ _. true) piece ≡ true
sound-from_within (Part block from len) within = and_from (nat_le (from + len) block.size) true within refl
sound-from_within (Zeros len) within = refl

-- and the other way round, under the test that each block passes
pub are_sound-from_within : (pieces : List Piece) → are_within pieces ≡ true → are_sound (λ _. true) pieces ≡ true
are_sound-from_within [] within = refl
are_sound-from_within (piece ∷ pieces) within =
    let parts = and_parts (is_within piece) (are_within pieces) within in
    and_from (is_sound (λ _. true) piece) (are_sound (λ _. true) pieces) (sound-from_within piece parts.0) (are_sound-from_within pieces parts.1)

is_sound-weaker : (p q : Block → Bool) → ((b : Block) → p b ≡ true → q b ≡ true) → (piece : Piece) → is_sound p piece ≡ true → is_sound q piece ≡ true
is_sound-weaker p q then (Part block from len) sound =
    let parts = and_parts (nat_le (from + len) block.size) (p block) sound in
    and_from (nat_le (from + len) block.size) (q block) parts.0 (then block parts.1)
is_sound-weaker p q then (Zeros len) sound = refl

-- a test that passes more blocks
pub are_sound-weaker : (p q : Block → Bool) → ((b : Block) → p b ≡ true → q b ≡ true) → (pieces : List Piece) → are_sound p pieces ≡ true → are_sound q pieces ≡ true
are_sound-weaker p q then [] sound = refl
are_sound-weaker p q then (piece ∷ pieces) sound =
    let parts = and_parts (is_sound p piece) (are_sound p pieces) sound in
    and_from (is_sound q piece) (are_sound q pieces) (is_sound-weaker p q then piece parts.0) (are_sound-weaker p q then pieces parts.1)

pub are_sound-append : (test : Block → Bool) (xs ys : List Piece) → are_sound test xs ≡ true → are_sound test ys ≡ true → are_sound test (xs ++ ys) ≡ true
are_sound-append test [] ys xs_sound ys_sound = ys_sound
are_sound-append test (x ∷ xs) ys xs_sound ys_sound =
    let parts = and_parts (is_sound test x) (are_sound test xs) xs_sound in
    and_from (is_sound test x) (are_sound test (xs ++ ys)) parts.0 (are_sound-append test xs ys parts.1 ys_sound)

-- and the other way round
pub sound-parts : (test : Block → Bool) (xs ys : List Piece) → are_sound test (xs ++ ys) ≡ true → (are_sound test xs ≡ true) × (are_sound test ys ≡ true)
sound-parts test [] ys sound = (refl, sound)
sound-parts test (x ∷ xs) ys sound =
    let parts = and_parts (is_sound test x) (are_sound test (xs ++ ys)) sound in
    let rest = sound-parts test xs ys parts.1 in
    (and_from (is_sound test x) (are_sound test xs) parts.0 rest.0, rest.1)

pub are_sound-push : (test : Block → Bool) (pieces : List Piece) (piece : Piece) → are_sound test pieces ≡ true → is_sound test piece ≡ true → are_sound test (pieces ++ piece ∷ []) ≡ true
are_sound-push test pieces piece all one = are_sound-append test pieces (piece ∷ []) all (and_from (is_sound test piece) true one refl)

-- what a test of each piece says of the piece at a place
pub passes-at : (test : Piece → Bool) (pieces : List Piece) (i : ℕ) (d : Piece) → i < length pieces → list_all test pieces ≡ true → test (get_or pieces i d) ≡ true
passes-at test [] i d l all = absurd (omega arith)
passes-at test (piece ∷ pieces) zero d l all = (and_parts (test piece) (list_all test pieces) all).0
passes-at test (piece ∷ pieces) (suc i) d l all = passes-at test pieces i d (omega arith) (and_parts (test piece) (list_all test pieces) all).1

some-same : (t : Bool) (x y : Block) → cond t (Some x) None ≡ Some y → x ≡ y
some-same true x y is = cc
some-same false x y is = cc

ended-sound : (test : Block → Bool) (piece : Piece) (b : Block) → block_ended piece ≡ Some b → is_sound test piece ≡ true → test b ≡ true
ended-sound test (Part block from len) b is sound =
    subst (λ (x : Block). test x ≡ true) (some-same (from + len == block.size) block b is)
    (and_parts (nat_le (from + len) block.size) (test block) sound).1
ended-sound test (Zeros len) b is sound = cc

-- the last block passes the test
pub last_block-sound : (test : Block → Bool) (pieces : List Piece) (b : Block) → last_block pieces ≡ Some b → are_sound test pieces ≡ true → test b ≡ true
last_block-sound test [] b is sound = cc
last_block-sound test (piece ∷ []) b is sound = ended-sound test piece b is (and_parts (is_sound test piece) true sound).0
last_block-sound test (piece ∷ next ∷ pieces) b is sound =
    last_block-sound test (next ∷ pieces) b is (and_parts (is_sound test piece) (are_sound test (next ∷ pieces)) sound).1

-- ---- data files with the same bytes in the blocks that pass a test

piece_bytes-kept : (test : Block → Bool) (old new : List ℕ) → ((b : Block) → test b ≡ true → bytes_at new b.at b.size ≡ bytes_at old b.at b.size)
    → (piece : Piece) → is_sound test piece ≡ true → piece_bytes new piece ≡ piece_bytes old piece
piece_bytes-kept test old new kept (Part block from len) sound =
    let parts = and_parts (nat_le (from + len) block.size) (test block) sound in
    let fits = leb-true (from + len) block.size parts.0 in
    bytes_at-within new block.at block.size from len fits
    ∙ ap (λ bs. take len (drop from bs)) (kept block parts.1)
    ∙ sym (bytes_at-within old block.at block.size from len fits)
piece_bytes-kept test old new kept (Zeros len) sound = refl

pub bytes_of-kept : (test : Block → Bool) (old new : List ℕ) → ((b : Block) → test b ≡ true → bytes_at new b.at b.size ≡ bytes_at old b.at b.size)
    → (pieces : List Piece) → are_sound test pieces ≡ true → bytes_of new pieces ≡ bytes_of old pieces
bytes_of-kept test old new kept [] sound = refl
bytes_of-kept test old new kept (piece ∷ pieces) sound =
    let parts = and_parts (is_sound test piece) (are_sound test pieces) sound in
    let here = piece_bytes-kept test old new kept piece parts.0 in
    let rest = bytes_of-kept test old new kept pieces parts.1 in
    λ i. here i ++ rest i
