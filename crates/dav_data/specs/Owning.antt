-- What the store has to know of a data file's errors and bodies.
use Rattle.std.specs.Prelude.{◌≡◌, ℕ, ◌<◌, ◌^◌, true, ltb, List, length, refl}
use Rattle.std.proofs.lemmas.Bool.{and_parts, and_from, ltb-true}
use Rattle.std.proofs.Common.{subst, sym}
use Rattle.sqlite_disk.specs.declared.Disk.{Ghosts}
use Rattle.dav_resource.specs.declared.error.FsError.{FsError}
use Rattle.dav_resource.specs.declared.error.FsError.TheVariants as errors
use Rattle.dav_resource.specs.declared.record.Outcome.TheVariants.{Refused}
use Rattle.dav_tree.specs.MemoryCalls.{outcome_of}
use Rattle.dav_pieces.specs.declared.piece.Piece.{Piece}
use Rattle.dav_pieces.specs.Pieces.{size_of}
use Rattle.dav_pieces.proofs.PieceLaws.{length-bytes_of, are_sound-weaker}
use Rattle.dav_pieces.specs.declared.piece.Block.{Block}
use Rattle.dav_data.specs.declared.data_file.DataFile.{DataFile}
use Rattle.dav_data.specs.Errors.{is_own_error}
use Rattle.dav_data.specs.Runs.{run_passes, blocks_pass}
use Rattle.dav_space.specs.Space.{unused}
use Rattle.dav_blocks.specs.Blocks.{is_safe}
use Rattle.dav_blocks.proofs.Keeping.{in-use-kept}
use Rattle.dav_data.specs.Data.{data_of, in_use, is_held, is_synced, body_bytes}

-- its own errors bar no call
pub own_refused : (e : FsError) → is_own_error e ≡ true → outcome_of e ≡ Refused e
own_refused errors.GeneralFailure own = refl
own_refused errors.InsufficientStorage own = refl
own_refused errors.NotImplemented own = absurd cc
own_refused errors.Exists own = absurd cc
own_refused errors.NotFound own = absurd cc
own_refused errors.Forbidden own = absurd cc
own_refused errors.LoopDetected own = absurd cc
own_refused errors.PathTooLong own = absurd cc
own_refused errors.TooLarge own = absurd cc
own_refused errors.IsRemote own = absurd cc
own_refused errors.Memory own = absurd cc

-- a body that is safe is held
pub synced_held : {D : Type 0} {g : Ghosts D} (it : DataFile D g) (body : List Piece) → is_synced it body ≡ true → is_held it body ≡ true
synced_held it body safe =
    let file = it.file in
    let both = and_parts (ltb (size_of body) (2 ^ 63)) (blocks_pass (is_safe file) body) safe in
    let used : (b : Block) → run_passes (is_safe file) b ≡ true → run_passes (in_use it) b ≡ true = λ b is. in-use-kept (unused file.at_sync.value) (unused file.space) file.synced file.end b.at b.size file.before file.opened is in
    and_from _ _ both.0 (are_sound-weaker (run_passes (is_safe file)) (run_passes (in_use it)) used body both.1)

-- a body that it holds has fewer than 2^63 bytes
pub held_small : {D : Type 0} {g : Ghosts D} (it : DataFile D g) (body : List Piece) → is_held it body ≡ true → length (body_bytes it body) < 2 ^ 63
held_small it body held =
    let both = and_parts (ltb (size_of body) (2 ^ 63)) (blocks_pass (in_use it) body) held in
    let P : ℕ → Type 0 = λ n. n < 2 ^ 63 in
    subst P (sym (length-bytes_of (data_of it) body)) (ltb-true (size_of body) (2 ^ 63) both.0)
