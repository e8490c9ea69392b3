-- A run over the files of a folder, with the options that the arguments say.
use Rattle.std.proofs.Common.{◌≡◌, ◌⊎◌, inl, inr, ℕ, List, Option, Some, Result, subst}
use Rattle.std.specs.Prelude.{OnOk, OnErr}
use Rattle.dav_data.specs.declared.claim.Claim as claim
use Rattle.dav_data.specs.declared.claimed_file.ClaimedFile.{ClaimedFile}
use Rattle.dav_last.specs.declared.last_batch.LastBatch.{LastBatch}
use Rattle.dav_pieces.specs.declared.piece.Piece.{Piece}
use Rattle.dav_tree.specs.declared.medium.Medium.{Ghosts}
use Rattle.sqlite.specs.Recovery as database
use Rattle.sqlite_disk.specs.declared.Disk as disk
use Rattle.sqlite_store.specs.declared.store.FileStore.{FileStore}
use Rattle.davd.proofs.Leaves.{on_ok, on_err}
use Rattle.davd.specs.Leaving.{GoesOn, GoesOnWithLog, GoesOnAndStops}
use Rattle.davd.specs.Options.{OptionsValue}
use Rattle.davd.specs.Program.{rules_in, start_of, ServesFolder, ServesWithLog, StopsInFolder}
use Rattle.davd.specs.declared.program.Stopped.{Stopped}

pub some_same : {X : Type 0} (x y : X) → Some x ≡ Some y → x ≡ y
some_same x y is = cc

module _ {D E C : Type 0} {d : disk.Ghosts D} {e : disk.Ghosts E} {c : claim.Ghosts C} (medium : Ghosts (ClaimedFile E C e c) (List Piece)) (left : database.Image) (file : List ℕ)
    (read options : OptionsValue) (is : read ≡ options) (files : FileStore D d × ClaimedFile E C e c) (result : Result (Unit {0}) Stopped) where
  pub serves_folder : {L : Type 0} {l : disk.Ghosts L} (said : database.Image) (number : LastBatch L l) (input input' output output' : Option (List ℕ))
      → OnOk result (GoesOn left file files said number medium (rules_in read) (start_of read) input input' output output')
      → OnOk result (ServesFolder d l medium left file said options input input' output output')
  serves_folder {l = l} said number input input' output output' goes =
      subst (λ o. OnOk result (ServesFolder d l medium left file said o input input' output output')) is
      (on_ok result goes (λ goes_on. record { files = files; number = number; goes_on = goes_on }))

  pub stops_in_folder : {L : Type 0} {l : disk.Ghosts L} (said : database.Image) (number : LastBatch L l) (Other : Type 0) (input input' output output' : Option (List ℕ))
      → OnErr result (GoesOnAndStops left file files said number medium (rules_in read) (start_of read) output output'
      ⊎ GoesOnWithLog left file files said number medium (rules_in read) (start_of read) input input' output output')
      → OnErr result (Other ⊎ (StopsInFolder d l medium left file said options output output' ⊎ ServesWithLog d l medium left file said options input input' output output'))
  stops_in_folder {l = l} said number Other input input' output output' stops =
      subst (λ o. OnErr result (Other ⊎ (StopsInFolder d l medium left file said o output output' ⊎ ServesWithLog d l medium left file said o input input' output output'))) is
      (on_err result stops (λ either. elim either [
        | inl goes_on ↦ inr (inl (record { files = files; number = number; stops = goes_on }))
        | inr runs ↦ inr (inr (record { files = files; number = number; goes_on = runs }))
      ]))
