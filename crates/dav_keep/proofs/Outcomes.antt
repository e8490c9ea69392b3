-- What a call of the keeper comes to.
use Rattle.std.proofs.Common.{◌≡◌, ◌∙◌, inl, inr, ℕ, List, Option, Some, None, true, false, refl, sym, ap, subst}
use Rattle.std.specs.Prelude.{◌≤◌}
use base.Stored.{Gv}
use Rattle.sqlite.specs.Held.{state}
use Rattle.sqlite.specs.State.{HasCleanDisk}
use Rattle.sqlite_trees.specs.View.{doubt}
use Rattle.sqlite_trees.specs.declared.store.Store as store
use Rattle.dav_memls.specs.MemLs.{list_of}
use Rattle.dav_memls.specs.declared.memory_locks.MemLs.{MemLs}
use Rattle.dav_nodes.specs.Tree.{Tree}
use Rattle.dav_pieces.specs.declared.piece.Piece.{Piece}
use Rattle.dav_rows.specs.Saving.{IsAt}
use Rattle.dav_rows.specs.declared.change.Change.{Change}
use Rattle.dav_seal.specs.Seals.{AreSealsOf}
use Rattle.dav_store_rows.specs.Resources.{Kept}
use Rattle.dav_store_rows.specs.Saves.{Fits}
use Rattle.dav_tree.specs.Before.{entries_code, saved_code, IsSaved, IsTreeIn}
use Rattle.dav_tree.specs.Memory.{Resources}
use Rattle.dav_tree.specs.TreeFs.{memory_of, before_of, older_of, entries_of}
use Rattle.dav_tree.specs.declared.medium.Medium.{Ghosts}
use Rattle.dav_tree.specs.declared.tree_fs.TreeFs.{TreeFs}
use Rattle.dav_keep.specs.Images.{Image, IsSoundTree, IsSound, IsImageOf}
use Rattle.dav_keep.specs.Keeping.{database, IsKept, KeepsNow, Stops}
use Rattle.dav_keep.specs.Steps.{OnlyRowsDiffer, OnlyDatabaseDiffers, IsPrepared, IsUnchanged, IsAskedOrNot, Follows, Commits, MayCommit}
use Rattle.dav_keep.specs.declared.keeping.Keeping.{Keeping}
use Rattle.dav_keep.specs.declared.numbers.Numbers.{Numbers}
use Rattle.dav_keep.proofs.Images.{Settles, same_locks}
use Rattle.dav_keep.proofs.Committing.{leaves_known, next_known, next_left}

same_tree : (a b : Gv) (q r : Resources) → saved_code a q ≡ saved_code b r → a ≡ b
same_tree a b q r same = cc

module _ {M : Type 0} {g : Ghosts M (List Piece)} (store : TreeFs M (List Piece) g) (locks : MemLs) (now batch key : ℕ) where
  -- the numbers of this store
  abbrev pub numbers_now : Numbers
  numbers_now = record { counter = (memory_of store).version; time = now; batch = batch; key = key }

  -- the image of this store, if this is its tree
  abbrev pub image_now : Tree Kept → Image
  image_now tree = record { tree = tree; locks = list_of locks; numbers = numbers_now }

  module _ (tree : Tree Kept) (is : entries_code g.body_code tree ≡ entries_of store) (sound : IsSoundTree tree) where
    is_now : IsImageOf store locks (image_now tree)
    is_now = record { tree = is; locks_are = refl; counter = refl }

    sound_now : IsSound (image_now tree)
    sound_now = record { tree = sound; tokens = locks.distinct_tokens; compatible = locks.compatible }

    tree_now : IsSaved store.entries → IsTreeIn (before_of store) (entries_code g.body_code tree)
    tree_now saved = (store.entries.resources, ap (λ t. saved_code t store.entries.resources) is ∙ saved)

pub not_none : {A : Type 0} (o : Option A) (x : A) → o ≡ Some x → o ≡ None → ⊥
not_none o x some none = let e = sym some ∙ none in cc

module _ {S M : Type 0} {rows : store.Ghosts S} {g : Ghosts M (List Piece)} (settles : Settles rows) (old between new : Keeping S rows) (first last : TreeFs M (List Piece) g)
    (locks : MemLs) (now batch : ℕ) (image : Image) (kept : IsKept g.body_code old (before_of first) image) (same : OnlyRowsDiffer old between) where
  -- the changes cannot be prepared
  pub stops_early : IsAskedOrNot first last → Stops image between first last locks now batch
  stops_early (inl not) = inl (record { saved = not.saved; older = not.older; left = leaves_known settles old between image same.conn kept.known })
  stops_early (inr asked) = inr (record {
    image = image_now last locks now batch image.numbers.key asked.tree;
    is = is_now last locks now batch image.numbers.key asked.tree asked.is asked.sound;
    dated = record { time = refl; batch_is = refl; key = refl };
    sound = sound_now last locks now batch image.numbers.key asked.tree asked.is asked.sound;
    saved = asked.saved;
    older = asked.older;
    left = λ clean db may. inl (leaves_known settles old between image same.conn kept.known clean db may);
  })

  -- nothing has changed
  pub keeps_same : IsUnchanged g.body_code old between (before_of first) (entries_of last) (list_of locks) (memory_of last).version → before_of last ≡ before_of first
      → IsSaved last.entries → KeepsNow false image between last locks now batch
  keeps_same un before saved =
      let tables = kept.known.tables in
      let stand = un.stand tables kept.known.locks in
      record {
        image = image;
        kept = record {
          tree = subst (λ b. IsTreeIn b (entries_code g.body_code image.tree)) (sym before) kept.tree;
          sound = kept.sound;
          known = record {
            tables = tables;
            stand = kept.known.stand;
            fits = subst (λ counts. Fits counts tables) (sym un.counts) kept.known.fits;
            locks = kept.known.locks ∙ sym stand.1;
            version = same.version ∙ kept.known.version;
            key = same.key ∙ kept.known.key;
            seals = subst (AreSealsOf image.numbers.key tables) (sym same.seals) kept.known.seals;
            at = subst (λ conn. HasCleanDisk (state rows conn) → IsAt (state rows conn) tables) (sym same.conn) kept.known.at;
          };
        };
        is = record {
          tree = same_tree (entries_code g.body_code image.tree) (entries_of last) kept.tree.0 last.entries.resources (kept.tree.1 ∙ sym before ∙ sym saved);
          locks_are = same_locks tables.locks image.locks (list_of locks) kept.known.stand.locks stand.0;
          counter = sym kept.known.version ∙ un.version_is;
        };
        since = refl;
      }

  module _ (changes : List Change) (prepared : IsPrepared g.body_code old between (before_of first) (entries_of last) (list_of locks) changes)
      (other : OnlyDatabaseDiffers between new) (saved : IsSaved last.entries) (clean : doubt (database between).is_clean ≤ doubt (database new).is_clean) where
    abbrev numbers : Numbers
    numbers = numbers_now last locks now batch between.key

    keyed : numbers.key ≡ image.numbers.key
    keyed = same.key ∙ kept.known.key

    -- the changes are committed
    pub keeps_next : Commits between new changes numbers → Follows between new changes numbers → new.version ≡ numbers.counter
        → KeepsNow true image new last locks now batch
    keeps_next moves follows counted = record {
      image = image_now last locks now batch between.key prepared.tree;
      kept = record {
        tree = tree_now last locks now batch between.key prepared.tree prepared.is prepared.sound saved;
        sound = sound_now last locks now batch between.key prepared.tree prepared.is prepared.sound;
        known = next_known g.body_code old between new (before_of first) (entries_of last) (list_of locks) changes numbers image kept same other prepared clean moves follows counted refl;
      };
      is = is_now last locks now batch between.key prepared.tree prepared.is prepared.sound;
      since = record { time = refl; batch_is = refl; key = keyed };
    }

    -- the changes cannot be committed
    pub stops_late : MayCommit between new changes numbers → older_of last ≡ before_of first
        → Stops image new first last locks now batch
    stops_late crash older = inr (record {
      image = image_now last locks now batch between.key prepared.tree;
      is = is_now last locks now batch between.key prepared.tree prepared.is prepared.sound;
      dated = record { time = refl; batch_is = refl; key = keyed };
      sound = sound_now last locks now batch between.key prepared.tree prepared.is prepared.sound;
      saved = saved;
      older = older;
      left = next_left g.body_code old between new (before_of first) (entries_of last) (list_of locks) changes numbers image kept same other prepared clean crash refl;
    })
