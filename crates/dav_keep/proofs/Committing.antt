-- What the tables stand for after a commit, and what a crash leaves.
use Rattle.std.proofs.Common.{◌≡◌, ◌∙◌, ◌⊎◌, inl, inr, pos, List, [], ◌∷◌, ◌++◌, refl, sym, ap, subst, arith}
use Rattle.std.specs.Coded.{Coded}
use Rattle.std.specs.FinMap.{entries, insert}
use Rattle.std.specs.Prelude.{◌≤◌}
use base.Stored.{Gv}
use Rattle.sqlite.specs.Held.{state}
use Rattle.sqlite.specs.State.{State, HasCleanDisk}
use Rattle.sqlite_trees.specs.View.{doubt}
use Rattle.sqlite_trees.specs.declared.store.Store as store
use Rattle.dav_pieces.specs.declared.piece.Piece.{Piece}
use Rattle.dav_rows.proofs.SavingLemmas.{after-append}
use Rattle.dav_rows.specs.Changes.{after, state_entry}
use Rattle.dav_rows.specs.Contents.{Contents, Holds}
use Rattle.dav_rows.specs.Saving.{IsAt}
use Rattle.dav_rows.specs.declared.change.Change.TheVariants.{PutState}
use Rattle.dav_rows.specs.declared.change.Change.{Change}
use Rattle.dav_rows.specs.declared.state.StateRow.{StateRow}
use Rattle.dav_seal.specs.Seals.{AreSealsOf, seal_of, seal_row, sealed, sealed_after}
use Rattle.dav_seal.specs.SealRow.{row_with}
use Rattle.dav_seal.proofs.Unsealed.{sealed-seal}
use Rattle.dav_store.specs.declared.lock.DavLock.{DavLock}
use Rattle.dav_store_rows.proofs.SameTables.{same_saved}
use Rattle.dav_store_rows.specs.Stands.{KeepsTreeTables}
use Rattle.dav_store_rows.specs.Updates.{IsSavedIn}
use Rattle.dav_keep.specs.Images.{Image, values_of, StandForImage, HoldsImage}
use Rattle.dav_keep.specs.Keeping.{database, IsKnown, IsKept, Leaves, LeavesEither}
use Rattle.dav_keep.specs.Steps.{AreSavedIn, OnlyRowsDiffer, OnlyDatabaseDiffers, IsPrepared, saved_with, Follows, Commits, MayCommit}
use Rattle.dav_keep.specs.declared.keeping.Keeping.{Keeping}
use Rattle.dav_keep.specs.declared.numbers.Numbers.{Numbers}
use Rattle.dav_keep.proofs.Images.{Settles, put_both, left_at}

-- the changes, then the row of the numbers, and then that of the seal
pub saved_is : (changes all : List Change) (row : StateRow) (numbers : Numbers) → state_entry row ≡ (pos 0, values_of numbers) → all ≡ changes ++ PutState row ∷ []
    → (m : Contents) → sealed_after numbers.key all m ≡ saved_with changes numbers m
saved_is changes all row numbers is pushed m =
    let changed = after changes m in
    ap (sealed numbers.key)
    (ap (λ cs. after cs m) pushed ∙ after-append changes (PutState row ∷ []) m ∙ ap (λ e. record changed { states = insert changed.states e.0 e.1 }) is)

cleaner : (old new : State) → doubt old.is_clean ≤ doubt new.is_clean → HasCleanDisk new → HasCleanDisk old
cleaner old new less clean = omega (arith, less, clean)

module _ {S : Type 0} {rows : store.Ghosts S} where
  -- a crash leaves the image that is known
  pub leaves_known : Settles rows → (keeping next : Keeping S rows) (image : Image) → next.conn ≡ keeping.conn → IsKnown keeping image → Leaves (database next) image
  leaves_known settles keeping next image same known =
      subst (λ conn. Leaves (state rows conn) image) (sym same)
      (λ clean db may. record { contents = known.tables; holds = left_at rows settles keeping.conn known.tables (known.at clean) db may; stand = known.stand })

  module _ (body : Coded (List Piece)) (old prepared_keeper new : Keeping S rows) (before now : Gv) (locks : List DavLock) (changes : List Change) (numbers : Numbers)
      (image : Image) (kept : IsKept body old before image) (same : OnlyRowsDiffer old prepared_keeper) (other : OnlyDatabaseDiffers prepared_keeper new)
      (prepared : IsPrepared body old prepared_keeper before now locks changes) where
    -- the image that is to be kept
    abbrev pub next_image : Image
    next_image = record { tree = prepared.tree; locks = locks; numbers = numbers }

    abbrev was : Contents
    was = kept.known.tables

    abbrev next_tables : Contents
    next_tables = saved_with changes numbers was

    saved : AreSavedIn (after changes was) prepared.tree locks prepared_keeper.counts prepared_keeper.locks
    saved = prepared.saves image.tree was kept.tree (record { stands = kept.known.stand.resources; fits = kept.known.fits }) kept.known.locks

    resources : IsSavedIn next_tables prepared.tree prepared_keeper.counts
    resources =
        let keeps : KeepsTreeTables (after changes was) next_tables = record { resources = refl; extents = refl; properties = refl } in
        same_saved (after changes was) next_tables keeps prepared.tree prepared_keeper.counts saved.resources

    -- the same, before the row of the seal is put, which changes no seal
    abbrev dated : Contents
    dated = let changed = after changes was in record changed { states = insert changed.states (pos 0) (values_of numbers) }

    same_seal : seal_of numbers.key dated ≡ seal_of numbers.key next_tables
    same_seal = sym (sealed-seal numbers.key dated)

    pub next_stands : StandForImage next_tables next_image
    next_stands = record {
      resources = resources.stands;
      locks = saved.stand;
      state = put_both (after changes was).states (values_of image.numbers) (seal_row image.numbers.key was).1 (values_of numbers) (seal_row numbers.key dated).1
          (ap entries (prepared.states was kept.known.locks) ∙ kept.known.stand.state) ∙ ap (λ seal. (pos 0, values_of numbers) ∷ row_with seal ∷ []) same_seal;
    }

    pub next_key : numbers.key ≡ prepared_keeper.key → numbers.key ≡ image.numbers.key
    next_key is = is ∙ same.key ∙ kept.known.key

    -- the seals of the keeper are those of its tables
    was_sealed : numbers.key ≡ prepared_keeper.key → AreSealsOf numbers.key was prepared_keeper.seals
    was_sealed is = subst (AreSealsOf numbers.key was) (sym same.seals) (subst (λ key. AreSealsOf key was old.seals) (sym (next_key is)) kept.known.seals)

    was_clean : doubt (database prepared_keeper).is_clean ≤ doubt (database new).is_clean → HasCleanDisk (database new) → HasCleanDisk (database prepared_keeper)
    was_clean less clean = cleaner (database prepared_keeper) (database new) less clean

    was_at : HasCleanDisk (database prepared_keeper) → IsAt (database prepared_keeper) was
    was_at = subst (λ conn. HasCleanDisk (state rows conn) → IsAt (state rows conn) was) (sym same.conn) kept.known.at

    -- after the commit the keeper knows the next image
    pub next_known : doubt (database prepared_keeper).is_clean ≤ doubt (database new).is_clean
        → Commits prepared_keeper new changes numbers
        → Follows prepared_keeper new changes numbers
        → new.version ≡ numbers.counter → numbers.key ≡ prepared_keeper.key → IsKnown new next_image
    next_known less moves follows counted keyed = record {
      tables = next_tables;
      stand = next_stands;
      fits = (subst (λ counts. IsSavedIn next_tables prepared.tree counts) (sym other.counts) resources).fits;
      locks = saved.rows_are ∙ sym other.locks;
      version = counted;
      key = other.key ∙ sym keyed;
      seals = follows was (was_sealed keyed);
      at = λ clean. moves clean was (was_sealed keyed) (was_at (was_clean less clean));
    }

    -- a crash leaves the image before, or the next one
    pub next_left : doubt (database prepared_keeper).is_clean ≤ doubt (database new).is_clean
        → MayCommit prepared_keeper new changes numbers → numbers.key ≡ prepared_keeper.key
        → LeavesEither (database new) image next_image
    next_left less crash keyed clean db may = either (crash clean was (was_sealed keyed) (was_at (was_clean less clean)) db may)
      where
        either : Holds db was ⊎ Holds db next_tables → HoldsImage db image ⊎ HoldsImage db next_image
        either (inl holds) = inl (record { contents = was; holds = holds; stand = kept.known.stand })
        either (inr holds) = inr (record { contents = next_tables; holds = holds; stand = next_stands })
