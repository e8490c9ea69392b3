-- Digests of blocks: SipHash-1-3 under a key, as the disk takes it (https://www.aumasson.jp/siphash/siphash.pdf).
use Rattle.std.specs.Prelude.{◌≡◌, ◌<◌, ℕ, Bool, true, ◌==◌, slice_index_or, List, [], ◌∷◌, ◌++◌, All, length, take, drop, replicate}
use Rattle.std.specs.Int.{w64, to_le_bytes}
use Rattle.std.specs.declared.hash.DefaultHasher.{DefaultHasher}
use Rattle.std.specs.Hash.DefaultHasher as sip
use Rattle.sqlite_disk.specs.Digest.{digest}
use Rattle.dav_pieces.specs.declared.piece.Block.{Block}
use Rattle.dav_pieces.specs.declared.piece.Piece.{Piece}
use Rattle.dav_pieces.specs.declared.piece.Piece.TheVariants.{Part, Zeros}
use Rattle.dav_pieces.specs.Pieces.{bytes_at, are_sound}
use Rattle.dav_data.specs.declared.hash.Tail.{Tail}
use Rattle.dav_data.specs.Sip.{hasher_of}

-- the state of the hash after the key and these bytes
abbrev pub hashed : ℕ → List ℕ → DefaultHasher
hashed key bytes = sip.write (sip.write sip.initial (to_le_bytes w64 key)) bytes

-- a tail of no bytes
abbrev pub no_tail : Tail
no_tail = record { block = record { at = 0; size = 0; digest = 0 }; hash = record { v0 = 0; v1 = 0; v2 = 0; v3 = 0; tail = 0; length = 0 } }

-- the tail with this number has the place and the size of the block
pub record IsTailOf (block : Block) (index : ℕ) (tails : List Tail) : Type 0 where
  pub there : index < length tails
  pub place : (slice_index_or tails index no_tail).block.at ≡ block.at
  pub size : (slice_index_or tails index no_tail).block.size ≡ block.size

-- the block has the digest of the bytes that the data file has there
abbrev pub is_right : ℕ → List ℕ → Block → Bool
is_right key file block = digest key (bytes_at file block.at block.size) == block.digest

-- each block has its digest
abbrev pub are_right : ℕ → List ℕ → List Piece → Bool
are_right key file pieces = are_sound (is_right key file) pieces

-- the block of the tail is in use, and its hash is that of its bytes
pub record IsHashed (key : ℕ) (file : List ℕ) (in_use : ℕ → ℕ → Bool) (tail : Tail) : Type 0 where
  pub used : in_use tail.block.at tail.block.size ≡ true
  pub hash : hasher_of tail.hash ≡ hashed key (bytes_at file tail.block.at tail.block.size)

abbrev pub AreHashed : ℕ → List ℕ → (ℕ → ℕ → Bool) → List Tail → Type 0
AreHashed key file in_use tails = All (IsHashed key file in_use) tails

-- the bytes are a part of a block that has its digest
pub record IsPartOf (key : ℕ) (block : Block) (from len : ℕ) (part : List ℕ) : Type 0 where
  pub bytes : List ℕ
  pub size : length bytes ≡ block.size
  pub right : digest key bytes ≡ block.digest
  pub cut : part ≡ take len (drop from bytes)

abbrev pub IsChecked : ℕ → Piece → List ℕ → Type 0
IsChecked key (Part block from len) part = IsPartOf key block from len part
IsChecked key (Zeros len) part = part ≡ replicate len 0

-- the bytes are those of parts of blocks that have their digests, and zeros, as the pieces say
abbrev pub AreChecked : ℕ → List Piece → List ℕ → Type 0
AreChecked key [] found = found ≡ []
AreChecked key (piece ∷ pieces) found = (part : List ℕ) × (rest : List ℕ) × IsChecked key piece part × AreChecked key pieces rest × (found ≡ part ++ rest)
