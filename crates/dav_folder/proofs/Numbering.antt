-- What is kept of a batch whose number is noted.
use Rattle.std.proofs.Common.{◌≡◌, ◌⊎◌, ◌≤◌, ℕ, List, Result, Ok, Err, inl, inr, sym, subst, arith}
use Rattle.std.specs.Prelude.{OnOk}
use base.Stored.{Gv}
use Rattle.dav_data.specs.declared.claim.Claim as claim
use Rattle.dav_last.specs.Batches.{number_of, Names}
use Rattle.dav_last.specs.declared.last_batch.LastBatch.{LastBatch}
use Rattle.dav_pieces.specs.declared.piece.Piece.{Piece}
use Rattle.dav_server.specs.Snapshots.{KeepsOne}
use Rattle.dav_tree.specs.declared.medium.Medium.{Ghosts}
use Rattle.sqlite_disk.specs.declared.Disk as disk
use Rattle.sqlite_trees.specs.declared.store.Store as store
use Rattle.dav_folder.specs.Folders.{batch_of}
use Rattle.dav_folder.specs.Lasting as folders
use Rattle.dav_folder.specs.Lasting.{At, Lasts, LastsEither, IsSameKept}
use Rattle.dav_folder.specs.declared.folder.Folder.{Folder}

-- what follows on Ok
pub on_ok : {T E A B : Type 0} (result : Result T E) → OnOk result A → (A → B) → OnOk result B
on_ok (Ok value) a f = f a
on_ok (Err e) a f = tt

-- the number of the last batch is named: it was noted now, or it was named before
pub still_named : {L : Type 0} {l : disk.Ghosts L} (old new noted : ℕ) (last last' : LastBatch L l) → noted ≡ new → number_of last ≤ old → old ≤ new → Names old last
    → Names noted last' ⊎ ((number_of last ≡ noted) × (last' ≡ last)) → Names new last'
still_named old new noted last last' is low rises named (inl now) = subst (λ n. Names n last') is now
still_named {L} {l} old new noted last last' is low rises named (inr (at, same)) =
    let eq : old ≡ new = omega (arith, low, rises, is, at) in
    subst (λ (it : LastBatch L l). Names new it) (sym same) (subst (λ n. Names n last) eq named)

module _ {S C M : Type 0} {rows : store.Ghosts S} (c : claim.Ghosts C) {g : Ghosts M (List Piece)} (folder : Folder S rows) (saved : Gv) (before now : At g)
    (keeps : KeepsOne (Lasts c) IsSameKept folder saved before now) where
  -- what the folder keeps is kept too if its number cannot be named
  pub either : LastsEither c folder saved before now
  either = elim keeps [
    | inl lasts ↦ folders.as_second c folder saved before now lasts
    | inr still ↦ folders.as_first c folder saved before now still.0
  ]

  -- a keeper that has named the number keeps it
  pub numbered : {L : Type 0} {l : disk.Ghosts L} (last : LastBatch L l) → Names (batch_of folder) last
      → (Lasts c folder saved now × Names (batch_of folder) last) ⊎ ((Lasts c folder saved before × Names (batch_of folder) last) × IsSameKept before now)
  numbered last named = elim keeps [
    | inl lasts ↦ inl (lasts, named)
    | inr still ↦ inr ((still.0, named), still.1)
  ]
