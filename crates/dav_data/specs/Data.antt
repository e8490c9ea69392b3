-- What contracts see of a `DataFile`: this project's own choice.
use Rattle.std.specs.Prelude.{◌≡◌, ◌⊎◌, ◌≤◌, ◌<◌, ℕ, ◌+◌, ◌*◌, ◌^◌, Bool, true, false, ◌&&◌, ◌||◌, ◌==◌, ltb, nat_lt, nat_le, List, [], ◌∷◌, ◌++◌, length, take, slice_index_or, Option, Some, None, if◌then◌else◌, IfSome, Err}
use Rattle.sqlite_disk.specs.declared.Disk.{Ghosts}
use Rattle.sqlite_disk.specs.Disk.{MoreFaults}
use Rattle.sqlite_disk.specs.Digest.{digest}
use Rattle.sqlite_disk.specs.Tally.{CountsRefusal}
use Rattle.dav_store.specs.Calls.{bytes_from}
use Rattle.dav_pieces.specs.declared.piece.Piece.{Piece}
use Rattle.dav_pieces.specs.declared.piece.Piece.TheVariants.{Part}
use Rattle.dav_pieces.specs.declared.piece.Block.{Block}
use Rattle.dav_pieces.specs.Pieces.{bytes_at, piece_bytes, piece_len, bytes_of, size_of, is_sound, are_sound}
use Rattle.dav_data.specs.Runs.{run_passes, blocks_pass}
use Rattle.dav_pieces.specs.Growth.{IsGrown, growth, grown_bytes, is_grown_in}
use Rattle.std.specs.declared.io.Error.{Error}
use Rattle.dav_resource.specs.declared.error.FsError.{FsError}
use Rattle.dav_resource.specs.declared.error.FsError.TheVariants as errors
use Rattle.dav_space.specs.declared.range.TheConstants.{LIMIT}
use Rattle.dav_space.specs.Ranges.{is_covered}
use Rattle.dav_blocks.specs.declared.block_file.BlockFile.{BlockFile}
use Rattle.dav_blocks.specs.Blocks as blocks
use Rattle.dav_data.specs.Errors.{failure_of}
use Rattle.dav_data.specs.declared.data_file.DataFile.{DataFile}
use Rattle.dav_data.specs.declared.data_file.sweeping.TheConstants.{MAX_UNSWEPT}
use Rattle.dav_data.specs.declared.data_file.writing.Added.{Added}
use Rattle.dav_data.specs.declared.data_file.writing.Grown.{Grown}
use Rattle.dav_data.specs.declared.hash.Tail.{Tail}
use Rattle.dav_data.specs.Digests.{IsHashed, is_right, are_right, IsChecked, AreChecked, no_tail}
use Rattle.dav_data.specs.Collisions.{IsRightOrCollides}

-- the blocks of a body end at or before a place, and it has fewer than 2^63 bytes
abbrev pub is_below : ℕ → List Piece → Bool
is_below end body = ltb (size_of body) (2 ^ 63) && blocks_pass (λ at n. nat_le (at + n) end) body

-- a body of no bytes, which has a block of no bytes at a place
abbrev pub nothing_at : ℕ → List Piece
nothing_at place = Part (record { at = place; size = 0; digest = 0 }) 0 0 ∷ []

-- a body that has so many bytes at this place would have 2^63 bytes or more
pub record IsTooLong (place count : ℕ) (e : FsError) : Type 0 where
  pub long : 2 ^ 63 ≤ place + count
  pub is : e ≡ errors.InsufficientStorage

-- the same, or memory has run out
abbrev pub FailsToJoin : ℕ → ℕ → FsError → Type 0
FailsToJoin place count e = IsTooLong place count e ⊎ (e ≡ errors.Memory)

module _ {D : Type 0} {g : Ghosts D} where
  abbrev pub disk_of : DataFile D g → D
  disk_of it = blocks.disk_of it.file

  -- the contents of the data file
  abbrev pub data_of : DataFile D g → List ℕ
  data_of it = blocks.data_of it.file

  -- the n bytes from a place on have been written, and no other bytes will be written there
  abbrev pub in_use : DataFile D g → ℕ → ℕ → Bool
  in_use it at n = blocks.in_use it.file at n

  -- no wrong answer of the disk has been taken as true
  abbrev pub is_honest : DataFile D g → Bool
  is_honest it = blocks.is_honest it.file

  -- no sync has failed
  abbrev pub is_usable : DataFile D g → Bool
  is_usable it = blocks.is_usable it.file

  -- no sync has failed, the disk has counted no failure, and no wrong answer of it has been taken as true
  abbrev pub is_faultless : DataFile D g → Bool
  is_faultless it = is_usable it && (is_honest it && (g.faults (disk_of it) == 0))

  -- the contents that a crash leaves, if it leaves no others
  abbrev pub settled : DataFile D g → Option (List ℕ)
  settled it = if blocks.is_settled it.file then Some (data_of it) else None

  -- the contents that a crash at this moment may leave
  abbrev pub may_leave : DataFile D g → List ℕ → Type 0
  may_leave it = blocks.may_leave it.file

  -- the bytes of a body
  abbrev pub body_bytes : DataFile D g → List Piece → List ℕ
  body_bytes it body = bytes_of (data_of it) body

  -- the blocks of a body are in use, and it has fewer than 2^63 bytes
  abbrev pub is_held : DataFile D g → List Piece → Bool
  is_held it body = ltb (size_of body) (2 ^ 63) && blocks_pass (in_use it) body

  -- the same, and a crash leaves its bytes as they are
  abbrev pub is_synced : DataFile D g → List Piece → Bool
  is_synced it body = ltb (size_of body) (2 ^ 63) && blocks_pass (blocks.is_safe it.file) body

  -- a sweep that ends now does not give up these n bytes
  abbrev pub is_spared : DataFile D g → ℕ → ℕ → Bool
  is_spared it at n = it.keeps_all || is_covered it.marks.items at n

  -- a body is held, and a sweep that ends now does not give it up
  abbrev pub is_marked : DataFile D g → List Piece → Bool
  is_marked it body = is_held it body && blocks_pass (is_spared it) body

  -- what was spared still is
  abbrev pub SparesMore : DataFile D g → DataFile D g → Type 0
  SparesMore old new = (at n : ℕ) → is_spared old at n ≡ true → is_spared new at n ≡ true

  -- a block has its digest
  abbrev pub is_whole : DataFile D g → Block → Bool
  is_whole it block = is_right it.key (data_of it) block

  -- the block of a piece has its digest
  abbrev pub has_digest : DataFile D g → Piece → Bool
  has_digest it piece = is_sound (is_whole it) piece

  -- the blocks of a body have their digests
  abbrev pub has_digests : DataFile D g → List Piece → Bool
  has_digests it body = are_right it.key (data_of it) body

  -- the key of the digests
  abbrev pub key_of : DataFile D g → ℕ
  key_of it = it.key

  -- how many bytes are in use
  abbrev pub used_bytes : DataFile D g → ℕ
  used_bytes it = blocks.used_bytes it.file

  -- how many were in use after the last sweep that gave something up; 0 if the data file was opened since
  abbrev pub swept_bytes : DataFile D g → ℕ
  swept_bytes it = it.swept

  -- more bytes are in use than need no sweep, and more than twice as many as after the last sweep
  abbrev pub wants_sweep : DataFile D g → Bool
  wants_sweep it = nat_lt MAX_UNSWEPT (used_bytes it) && nat_lt (2 * swept_bytes it) (used_bytes it)

  -- where the body of no bytes was safe, it still is
  abbrev pub KeepsPlaces : DataFile D g → DataFile D g → Type 0
  KeepsPlaces old new = (place : ℕ) → is_synced old (nothing_at place) ≡ true → is_synced new (nothing_at place) ≡ true

  -- contents in which each safe body has the bytes that it has now
  abbrev pub LeavesBytes : DataFile D g → List ℕ → Type 0
  LeavesBytes it c = (body : List Piece) → is_synced it body ≡ true → bytes_of c body ≡ body_bytes it body

  -- contents in which the blocks of each safe body have their digests, if they have them now
  abbrev pub LeavesDigests : DataFile D g → List ℕ → Type 0
  LeavesDigests it c = (body : List Piece) → is_synced it body ≡ true → has_digests it body ≡ true → are_right it.key c body ≡ true

  -- contents that do not end before a safe body
  abbrev pub LeavesEnds : DataFile D g → List ℕ → Type 0
  LeavesEnds it c = (body : List Piece) → is_synced it body ≡ true → is_below (length c) body ≡ true

  -- each block that was in use still is, with the same bytes, and what was safe still is
  pub record Keeps (old new : DataFile D g) : Type 0 where
    pub blocks : blocks.KeepsBlocks old.file new.file
    pub key : new.key ≡ old.key
    pub usable : is_usable new ≡ is_usable old
    pub honest : is_honest new ≡ true → is_honest old ≡ true

  -- a call of the block file has failed, for a cause: an earlier sync has failed, or there is no place left below
  -- 2^63, or the disk has failed
  pub record HasCause (old new : DataFile D g) : Type 0 where
    pub before : BlockFile D g
    pub kept : blocks.KeepsBlocks old.file before
    pub usable : blocks.is_usable before ≡ is_usable old
    pub cause : blocks.HasCause before new.file

  -- an earlier sync has failed, or the disk has failed
  abbrev pub HasFailed : DataFile D g → DataFile D g → Type 0
  HasFailed old new = blocks.HasFailed old.file new.file

  -- an error says that there is no room if a write found none, or exactly if the disk counts that it has none
  abbrev pub TellsRoom : Error → BlockFile D g → BlockFile D g → Type 0
  TellsRoom e old new = blocks.TellsRoom e old new ⊎ CountsRefusal {T = Unit} (Err e) (blocks.tally_of old) (blocks.tally_of new)

  -- the error of a store where a call of the block file has failed for a cause, and whether it is that there is no room
  pub record IsDiskFailure (old new : DataFile D g) (e : FsError) : Type 0 where
    pub error : Error
    pub kind : e ≡ failure_of error
    pub cause : HasCause old new
    pub room : TellsRoom error cause.before new.file

  -- memory has run out, or a call of the block file has failed for a cause
  abbrev pub IsForced : DataFile D g → DataFile D g → FsError → Type 0
  IsForced old new e = (e ≡ errors.Memory) ⊎ IsDiskFailure old new e

  -- the bytes would end behind the limit of a body, or one of these
  abbrev pub FailsToWrite : ℕ → ℕ → DataFile D g → DataFile D g → FsError → Type 0
  FailsToWrite place count old new e = IsTooLong place count e ⊎ IsForced old new e

  -- a read of the block file has failed, for a cause: an earlier sync has failed, or the disk has
  pub record ReadFails (old new : DataFile D g) (e : FsError) : Type 0 where
    pub error : Error
    pub kind : e ≡ failure_of error
    pub before : BlockFile D g
    pub usable : blocks.is_usable before ≡ is_usable old
    pub cause : (blocks.is_usable before ≡ false) ⊎ MoreFaults (g.faults before.disk) (g.faults new.file.disk)

  -- a test of digests has failed that no read of the right bytes passes
  pub record IsDamage (passes : Bool) (new : DataFile D g) (e : FsError) : Type 0 where
    pub is : e ≡ errors.GeneralFailure
    pub wrong : is_honest new ≡ true → ¬ (passes ≡ true)

  -- memory has run out, or one of these
  abbrev pub IsUnread : Bool → DataFile D g → DataFile D g → FsError → Type 0
  IsUnread passes old new e = (e ≡ errors.Memory) ⊎ (ReadFails old new e ⊎ IsDamage passes new e)

  -- a sweep is under way, and nothing is marked
  pub record IsBegun (it : DataFile D g) : Type 0 where
    pub under_way : it.keeps_all ≡ false
    pub unmarked : it.marks.items ≡ []

  -- the sweep under way is as it was
  pub record KeepsSweep (old new : DataFile D g) : Type 0 where
    pub flag : new.keeps_all ≡ old.keeps_all
    pub marks : new.marks.items ≡ old.marks.items

  -- a sweep that ends now gives nothing up
  abbrev pub IsIdle : DataFile D g → Type 0
  IsIdle it = it.keeps_all ≡ true

  -- the end of a sweep gives nothing up
  pub record GivesUpNothing (old new : DataFile D g) : Type 0 where
    pub file : new.file ≡ old.file
    pub swept : swept_bytes new ≡ swept_bytes old

  -- it gives up each byte that is not spared, and notes how many are in use then
  pub record GivesUpUnspared (old new : DataFile D g) : Type 0 where
    pub rest : (i : ℕ) → i < LIMIT → is_spared old i 1 ≡ false → in_use new i 1 ≡ false
    pub swept : swept_bytes new ≡ used_bytes new

  -- each byte that is not spared is given up, or nothing is
  abbrev pub GivesUpRest : DataFile D g → DataFile D g → Type 0
  GivesUpRest old new = GivesUpNothing old new ⊎ GivesUpUnspared old new

  -- the key and the state of the disk are the same
  pub record KeepsDisk (old new : DataFile D g) : Type 0 where
    pub key : new.key ≡ old.key
    pub usable : is_usable new ≡ is_usable old

  -- new blocks with these bytes
  pub record AreAdded (bytes : List ℕ) (added : Added) (it : DataFile D g) : Type 0 where
    pub same : bytes_of (data_of it) added.pieces.items ≡ bytes
    pub sound : blocks_pass (in_use it) added.pieces.items ≡ true
    pub right : are_right it.key (data_of it) added.pieces.items ≡ true
    pub last : IfSome added.last (IsHashed it.key (data_of it) (in_use it))

  -- a new block with the first of these bytes
  pub record IsFirst (bytes : List ℕ) (tail : Tail) (it : DataFile D g) : Type 0 where
    pub some : 0 < tail.block.size
    pub most : tail.block.size ≤ length bytes
    pub same : bytes_at (data_of it) tail.block.at tail.block.size ≡ take tail.block.size bytes
    pub right : tail.block.digest ≡ digest it.key (take tail.block.size bytes)
    pub hashed : IsHashed it.key (data_of it) (in_use it) tail

  -- a block has grown by the first of these bytes, or there is none
  pub record HasGrown (last : Option Block) (bytes : List ℕ) (grown : Grown) (it : DataFile D g) : Type 0 where
    pub grows : IsGrown last grown.block
    pub most : grown.len ≤ length bytes
    pub len : growth last grown.block ≡ grown.len
    pub same : grown_bytes (data_of it) last grown.block ≡ take grown.len bytes
    pub used : is_grown_in (run_passes (in_use it)) grown.block ≡ true
    pub right : is_grown_in (is_right it.key (data_of it)) grown.block ≡ true

  -- the tail with this number
  abbrev pub tail_at : ℕ → DataFile D g → Tail
  tail_at index it = slice_index_or it.tails.items index no_tail

  -- the bytes of the piece are appended, which are parts of blocks that have their digests
  pub record IsReadTo (piece : Piece) (old : DataFile D g) (found : List ℕ) (new : DataFile D g) (more : List ℕ) : Type 0 where
    pub part : List ℕ
    pub appended : more ≡ found ++ part
    pub len : length part ≡ piece_len piece
    pub checked : IsChecked old.key piece part
    pub bytes : is_honest new ≡ true → part ≡ piece_bytes (data_of old) piece

  -- the bytes from a place of a body on, put together from parts of blocks that have their digests
  pub record IsReadChecked (it : DataFile D g) (body : List Piece) (place count : ℕ) (found : List ℕ) : Type 0 where
    pub pieces : List Piece
    pub cut : (file : List ℕ) → bytes_of file pieces ≡ bytes_from place count (bytes_of file body)
    pub sound : (test : Block → Bool) → are_sound test body ≡ true → are_sound test pieces ≡ true
    pub checked : AreChecked it.key pieces found

  -- the bytes from a place of a body on, or others where bytes collide with those of one of its blocks, whatever the disk has answered
  abbrev pub IsReadOrCollides : DataFile D g → List Piece → ℕ → ℕ → List ℕ → Type 0
  IsReadOrCollides it body place count found =
      IsRightOrCollides it.key (data_of it) body (bytes_from place count (body_bytes it body)) found

  -- unless a file ended before a place, each body below that has the bytes that it had there, whatever the disk has answered
  abbrev pub OpensBytes : ℕ → List ℕ → DataFile D g → Type 0
  OpensBytes end file it = end ≤ length file → (body : List Piece) → is_below end body ≡ true → body_bytes it body ≡ bytes_of file body

  -- and its blocks have their digests, if they had them there
  abbrev pub OpensDigests : ℕ → List ℕ → DataFile D g → Type 0
  OpensDigests end file it =
      end ≤ length file → (body : List Piece) → is_below end body ≡ true → are_right it.key file body ≡ true → has_digests it body ≡ true

  -- under each key, the blocks of a marked body have their digests, if they had them
  abbrev pub KeepsDigests : DataFile D g → DataFile D g → Type 0
  KeepsDigests old new =
      (key : ℕ) (body : List Piece) → is_marked old body ≡ true → are_right key (data_of old) body ≡ true → are_right key (data_of new) body ≡ true
