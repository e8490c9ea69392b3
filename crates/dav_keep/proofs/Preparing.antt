-- Changes that bring the tables up to date.
use Rattle.std.proofs.Common.{◌≡◌, ◌∙◌, List, [], sym, ap, subst}
use Rattle.std.specs.Coded.{Coded}
use Rattle.std.specs.FinMap.{entries}
use base.Stored.{Gv}
use Rattle.sqlite_trees.specs.declared.store.Store as store
use Rattle.dav_nodes.specs.Tree.{Tree}
use Rattle.dav_nodes.specs.declared.changes.Changes.{Changes}
use Rattle.dav_pieces.specs.declared.piece.Piece.{Piece}
use Rattle.dav_rows.proofs.SavingLemmas.{after-append}
use Rattle.dav_rows.specs.Changes.{after}
use Rattle.dav_rows.specs.Contents.{Contents}
use Rattle.dav_rows.specs.declared.change.Change.{Change}
use Rattle.dav_store.specs.declared.lock.DavLock.{DavLock}
use Rattle.dav_store_rows.proofs.SameTables.{same_saved, locks_keep}
use Rattle.dav_store_rows.specs.LockRows.{LocksStand, LocksBecome, SavesLocks}
use Rattle.dav_store_rows.specs.Resources.{Kept}
use Rattle.dav_store_rows.specs.Updates.{Updates, IsSavedIn}
use Rattle.dav_tree.specs.Before.{entries_code, IsTreeIn, IsNotedBetween}
use Rattle.dav_keep.specs.Images.{IsSoundTree}
use Rattle.dav_keep.specs.Steps.{AreSavedIn, IsPrepared}
use Rattle.dav_keep.specs.declared.keeping.Keeping.{Keeping}

module _ {S : Type 0} {rows : store.Ghosts S} (body : Coded (List Piece)) (old new : Keeping S rows) (before now : Gv) (locks : List DavLock) (noted : Changes) (of_locks changes : List Change)
    (saves : SavesLocks locks old.locks [] new.locks of_locks) (updates : Updates body noted now old.counts of_locks new.counts changes) where
  in_order : (m : Contents) → after changes m ≡ after updates.more (after of_locks m)
  in_order m = ap (λ cs. after cs m) updates.is ∙ after-append of_locks updates.more m

  become : (m : Contents) → entries m.locks ≡ old.locks → LocksBecome new.locks m (after of_locks m)
  become m rows = subst (λ cs. LocksBecome new.locks m (after cs m)) (sym saves.brings.is) (saves.brings.makes m rows)

  -- the changes of the locks, and then those of the resources, bring the tables up to date
  pub prepared : (tree : Tree Kept) → IsNotedBetween body noted before now → entries_code body tree ≡ now → IsSoundTree tree
      → IsPrepared body old new before now locks changes
  prepared tree between is sound = record {
    tree = tree;
    is = is;
    sound = sound;
    saves = λ was m there saved rows. subst (λ m. AreSavedIn m tree locks new.counts new.locks) (sym (in_order m)) (both was m there saved rows);
    states = λ m rows. ap (λ (m : Contents). m.states) (in_order m) ∙ (updates.tables (after of_locks m)).states ∙ (become m rows).states;
  }
    where
      both : (was : Tree Kept) (m : Contents) → IsTreeIn before (entries_code body was) → IsSavedIn m was old.counts → entries m.locks ≡ old.locks
          → AreSavedIn (after updates.more (after of_locks m)) tree locks new.counts new.locks
      both was m there saved rows =
          let first = after of_locks m in
          let other = updates.tables first in
          let kept : IsSavedIn first was old.counts = same_saved m first (locks_keep new.locks m first (become m rows)) was old.counts saved in
          record {
            resources = updates.saved was tree first is (between.later was tree there is) kept;
            stand = subst (λ t. LocksStand t locks) (sym other.locks) (saves.stands first (become m rows).locks);
            rows_are = ap entries other.locks ∙ (become m rows).locks;
          }
