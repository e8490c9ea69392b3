-- What is opened is kept.
use Rattle.std.proofs.Common.{◌≡◌, ◌∙◌, ℕ, Bool, true, false, ◌||◌, List, [], ◌∷◌, map, length, refl, sym, ap, ap₂}
use Rattle.std.specs.Prelude.{◌==◌}
use Rattle.sqlite_trees.specs.declared.store.Store as store
use Rattle.dav_cells.specs.Locks.{kept_lock}
use Rattle.dav_data.specs.declared.claim.Claim as claim
use Rattle.dav_keep.proofs.Committing.{leaves_known}
use Rattle.dav_keep.proofs.Images.{Settles}
use Rattle.dav_keep.specs.Images.{Image, IsSound, AreSameLocks}
use Rattle.dav_keep.specs.Keeping.{IsKnown}
use Rattle.dav_memls.specs.MemLs.{list_of}
use Rattle.dav_memls.specs.declared.memory_locks.MemLs.{MemLs}
use Rattle.dav_pieces.specs.declared.piece.Piece.{Piece}
use Rattle.dav_server.specs.Snapshots.{snapshot_at}
use Rattle.dav_store.specs.declared.lock.DavLock.{DavLock}
use Rattle.dav_tree.specs.Before.{entries_code, saved_code, IsSaved}
use Rattle.dav_tree.specs.Memory as memory
use Rattle.dav_tree.specs.TreeFs.{memory_of, before_of, entries_of}
use Rattle.dav_tree.specs.declared.medium.Medium.{Ghosts}
use Rattle.dav_tree.specs.declared.tree_fs.TreeFs.{TreeFs}
use Rattle.dav_folder.specs.Claims.{IsKeyed}
use Rattle.dav_folder.specs.Folders.{keeping_of, batch_of}
use Rattle.dav_folder.specs.Lasting.{Lasts}
use Rattle.dav_folder.specs.declared.folder.Folder.{Folder}

-- a lock that was kept is kept as it is
slash_twice : (slash root : Bool) → ((slash || root) || root) ≡ (slash || root)
slash_twice true root = refl
slash_twice false true = refl
slash_twice false false = refl

kept_once : (lock : DavLock) → kept_lock (kept_lock lock) ≡ kept_lock lock
kept_once lock = ap (λ slash. record lock { path = record lock.path { slash = slash } }) (slash_twice lock.path.slash (length lock.path.key == 0))

kept_again : (locks : List DavLock) → map kept_lock (map kept_lock locks) ≡ map kept_lock locks
kept_again [] = refl
kept_again (lock ∷ locks) = ap₂ ◌∷◌ (kept_once lock) (kept_again locks)

pub same_kept : (locks loaded : List DavLock) → loaded ≡ map kept_lock locks → AreSameLocks locks loaded
same_kept locks loaded is = sym (kept_again locks) ∙ sym (ap (map kept_lock) is)

module _ {C : Type 0} (c : claim.Ghosts C) {S M : Type 0} {rows : store.Ghosts S} {g : Ghosts M (List Piece)} (settles : Settles rows) (folder : Folder S rows) (store : TreeFs M (List Piece) g) (locks : MemLs)
    (now last : ℕ) (image : Image) where
  abbrev pub lasts : IsKnown (keeping_of folder) image → IsSound image → memory.IsSound (memory_of store).resources → entries_of store ≡ entries_code g.body_code image.tree → IsSaved store.entries → list_of locks ≡ map kept_lock image.locks
      → (memory_of store).version ≡ image.numbers.counter → now ≡ image.numbers.time → last ≡ image.numbers.batch → IsKeyed c image.numbers.key → batch_of folder ≡ last → Lasts c folder (before_of store) (snapshot_at store locks now last)
  lasts known sound resources entries saved locks_are counter time batch keyed number = record {
    image = image;
    at = record {
      is = record { tree = sym entries; locks_are = same_kept image.locks (list_of locks) locks_are; counter = sym counter };
      time = sym time;
      batch = sym batch;
      keyed = keyed;
      sound = sound;
      resources = resources;
      saved_is = saved;
    };
    kept = record { tree = (store.entries.resources, ap (λ t. saved_code t store.entries.resources) (sym entries) ∙ saved); sound = sound; known = known };
    left = leaves_known settles (keeping_of folder) (keeping_of folder) image refl known;
    number = number;
  }
