-- From one run over a folder to the next: what the one leaves is what the other begins with, whatever a crash made of the files between them.
use Rattle.std.specs.Prelude.{◌≡◌, ◌⊎◌, ℕ, List, Option}
use Rattle.std.proofs.Common.{inl, inr}
use Rattle.std.proofs.Math.Logic.{∥∥₁_map}
use Rattle.dav_data.specs.Claimed.{file_of}
use Rattle.dav_data.specs.Data.{may_leave}
use Rattle.dav_data.specs.declared.claim.Claim as claim
use Rattle.dav_data.specs.declared.claimed_file.ClaimedFile.{ClaimedFile}
use Rattle.dav_folder.specs.Files.{KeptStore, kept_at, Hold, Leave, LeaveWhole, LeaveEither}
use Rattle.dav_folder.specs.Lasting.{At}
use Rattle.dav_last.specs.Batches.{number_of}
use Rattle.dav_last.specs.declared.last_batch.LastBatch.{LastBatch}
use Rattle.dav_pieces.specs.declared.piece.Piece.{Piece}
use Rattle.dav_server.specs.State.{Rules}
use Rattle.dav_tree.specs.declared.medium.Medium.{Ghosts}
use Rattle.sqlite.specs.Recovery as database
use Rattle.sqlite_disk.specs.declared.Disk as disk
use Rattle.sqlite_store.specs.FileStore.{view, state}
use Rattle.sqlite_store.specs.declared.store.FileStore.{FileStore}
use Rattle.sqlite_trees.specs.View.{IsClean}
use Rattle.davd.specs.Leaving.{BeginsWith, GoesOn, GoesOnAndStops, HeldAStore}
use Rattle.davd.specs.declared.folder.StartOptions.{StartOptions}

-- a crash at some moment after a run left this of the files of its database, whose disk was clean, and of its data file
pub record AreLeft {D E C : Type 0} {d : disk.Ghosts D} {e : disk.Ghosts E} {c : claim.Ghosts C} (files : FileStore D d × ClaimedFile E C e c)
    (left : database.Image) (file : List ℕ) : Type 0 where
  pub clean : IsClean (view files.0)
  pub database : (state files.0).may_leave left
  pub bytes : may_leave (file_of files.1) file

-- a run begins with this store
abbrev pub BeginsAt : {M : Type 0} {g : Ghosts M (List Piece)} → KeptStore → At g → Type 0
BeginsAt kept first = kept_at first ≡ kept

module _ {D E D' E' C : Type 0} {d : disk.Ghosts D} {e : disk.Ghosts E} {d' : disk.Ghosts D'} {e' : disk.Ghosts E'} {c : claim.Ghosts C}
    {g' : Ghosts (ClaimedFile E' C e' c) (List Piece)}
    (files : FileStore D d × ClaimedFile E C e c) (left : database.Image) (file : List ℕ) (are_left : AreLeft files left file)
    (next : FileStore D' d' × ClaimedFile E' C e' c) (start : StartOptions) (first : At g') (begins : BeginsWith left file next start first) (clean : IsClean (view next.0)) where
  at_held : (kept : KeptStore) → Hold c left file kept → BeginsAt kept first
  at_held kept hold = begins.kept kept clean hold

  -- the next run begins with what was left
  pub joined : (kept : KeptStore) → Leave files kept → ∥ BeginsAt kept first ∥₁
  joined kept leave = ∥∥₁_map (leave are_left.clean left file are_left.database are_left.bytes) (at_held kept)

  -- the next run begins with one of two stores of which one was left
  pub joined_either : (batch : ℕ) (one other : KeptStore) → LeaveEither files batch one other → ∥ BeginsAt one first ⊎ BeginsAt other first ∥₁
  joined_either batch one other leave = ∥∥₁_map (leave are_left.clean left file are_left.database are_left.bytes) (λ held. elim held [
    | inl hold ↦ inl (at_held one hold.0)
    | inr hold ↦ inr (at_held other hold.0)
  ])

  -- a run to the end of its input, over files that held a store or no table: the next one begins with what was in the server after the first ones of its
  -- batches, of which the later ones have changed nothing
  module _ {L : Type 0} {l : disk.Ghosts L} (held said : database.Image) (bytes : List ℕ) (number : LastBatch L l) (g : Ghosts (ClaimedFile E C e c) (List Piece)) (rules : Rules)
      (how : StartOptions) (input input' output output' : Option (List ℕ)) where
    pub after_a_run : (run : GoesOn held bytes files said number g rules how input input' output output') (had : HeldAStore held bytes files)
        → ∥ BeginsAt (kept_at (run.goes.leaves had).snapshot) first ∥₁
    after_a_run run had = let leaves = run.goes.leaves had in joined (kept_at leaves.snapshot) (leaves_both leaves.left.0)
      where
        leaves_both : {kept : KeptStore} → LeaveWhole files kept → Leave files kept
        leaves_both whole = λ clean_now image contents may also. ∥∥₁_map (whole clean_now image contents may also) (λ both. both.both)

  -- after a run that an error stopped, a power cut for one, the next begins with that, or with what was in the server at last
  module _ {L : Type 0} {l : disk.Ghosts L} (held said : database.Image) (bytes : List ℕ) (number : LastBatch L l) (g : Ghosts (ClaimedFile E C e c) (List Piece)) (rules : Rules)
      (how : StartOptions) (output output' : Option (List ℕ)) where
    pub after_a_stop : (run : GoesOnAndStops held bytes files said number g rules how output output') (had : HeldAStore held bytes files)
        → let leaves = run.stops.leaves had in ∥ BeginsAt (kept_at leaves.snapshot) first ⊎ BeginsAt (kept_at leaves.now) first ∥₁
    after_a_stop run had = let leaves = run.stops.leaves had in joined_either (number_of number) (kept_at leaves.snapshot) (kept_at leaves.now) leaves.left
