-- What a crash leaves of a store in a folder, and of its locks.
use Rattle.std.specs.Prelude.{◌≡◌, ◌≤◌, ◌⊎◌, List, refl}
use Rattle.std.proofs.Common.{arith, inl, inr}
use base.Stored.{Gv}
use Rattle.sqlite.specs.State.{HasCleanDisk}
use Rattle.sqlite_trees.specs.declared.store.Store as store
use Rattle.dav_data.specs.declared.claim.Claim as claim
use Rattle.dav_keep.specs.Images.{Image, IsSound, IsImageOf, AreSameLocks}
use Rattle.dav_keep.specs.Keeping.{database, IsKept, Leaves, LeavesEither}
use Rattle.dav_memls.specs.MemLs.{list_of}
use Rattle.dav_memls.specs.declared.memory_locks.MemLs.{MemLs}
use Rattle.dav_pieces.specs.declared.piece.Piece.{Piece}
use Rattle.dav_server.specs.Snapshots.{Snapshot}
use Rattle.dav_tree.specs.Before.{saved_code}
use Rattle.dav_tree.specs.Memory as memory
use Rattle.dav_tree.specs.TreeFs.{memory_of, entries_of, older_of}
use Rattle.dav_tree.specs.declared.medium.Medium.{Ghosts}
use Rattle.dav_tree.specs.declared.tree_fs.TreeFs.{TreeFs}
use Rattle.dav_folder.specs.Claims.{IsKeyed}
use Rattle.dav_folder.specs.Folders.{keeping_of, batch_of}
use Rattle.dav_folder.specs.declared.folder.Folder.{Folder}

-- a store over this medium and a lock system, with a time and the number of a batch
abbrev pub At : {M : Type 0} → Ghosts M (List Piece) → Type 0
At {M} g = Snapshot (TreeFs M (List Piece) g) MemLs

module _ {M : Type 0} {g : Ghosts M (List Piece)} where
  -- what is saved of a store if all that there is is saved
  abbrev pub all_of : TreeFs M (List Piece) g → Gv
  all_of store = saved_code (entries_of store) (memory_of store).resources

  -- The image is that of a snapshot, with its time and its number, and all that its store has is saved. It has the key of the claim.
  pub record IsImageAt {C : Type 0} (c : claim.Ghosts C) (saved : Gv) (snapshot : At g) (image : Image) : Type 0 where
    pub is : IsImageOf snapshot.store snapshot.locks image
    pub time : image.numbers.time ≡ snapshot.now
    pub batch : image.numbers.batch ≡ snapshot.last
    pub keyed : IsKeyed c image.numbers.key
    pub sound : IsSound image
    pub resources : memory.IsSound (memory_of snapshot.store).resources
    pub saved_is : all_of snapshot.store ≡ saved

  -- the snapshots have the same files with their bytes and properties, the same number of changes, and the same locks
  pub record IsSameKept (one other : At g) : Type 0 where
    pub resources : (memory_of other.store).resources ≡ (memory_of one.store).resources
    pub counter : (memory_of other.store).version ≡ (memory_of one.store).version
    pub locks_are : AreSameLocks (list_of one.locks) (list_of other.locks)

  pub same_as : (snapshot : At g) → IsSameKept snapshot snapshot
  same_as snapshot = record { resources = refl; counter = refl; locks_are = refl }

-- the disk of the folder's database is clean
abbrev pub HasCleanDatabase : {S : Type 0} {rows : store.Ghosts S} → Folder S rows → Type 0
HasCleanDatabase folder = HasCleanDisk (database (keeping_of folder))

module _ {C : Type 0} (c : claim.Ghosts C) {S M : Type 0} {rows : store.Ghosts S} {g : Ghosts M (List Piece)} where
  -- the folder keeps the image of a snapshot
  pub record Lasts (folder : Folder S rows) (saved : Gv) (snapshot : At g) : Type 0 where
    pub image : Image
    pub at : IsImageAt c saved snapshot image
    pub kept : IsKept g.body_code (keeping_of folder) saved image
    pub left : Leaves (database (keeping_of folder)) image
    pub number : batch_of folder ≡ snapshot.last

  -- a crash leaves the image of a snapshot, which is not of an earlier batch than the folder's last one
  pub record LastsAlone (folder : Folder S rows) (saved : Gv) (snapshot : At g) : Type 0 where
    pub image : Image
    pub at : IsImageAt c saved snapshot image
    pub left : Leaves (database (keeping_of folder)) image
    pub number : batch_of folder ≤ snapshot.last

  -- a crash leaves the image of the one snapshot, whose tree is still safe, or that of the other, which is of a later batch
  pub record LastsBetween (folder : Folder S rows) (saved : Gv) (one other : At g) : Type 0 where
    pub first : Image
    pub second : Image
    pub at_first : IsImageAt c (older_of other.store) one first
    pub at_second : IsImageAt c saved other second
    pub left : LeavesEither (database (keeping_of folder)) first second
    pub number : batch_of folder ≤ one.last
    pub rises : one.last ≤ other.last

  abbrev pub LastsEither : Folder S rows → Gv → At g → At g → Type 0
  LastsEither folder saved one other = LastsAlone folder saved one ⊎ LastsAlone folder saved other ⊎ LastsBetween folder saved one other

  pub alone : (folder : Folder S rows) (saved : Gv) (snapshot : At g) → Lasts folder saved snapshot → LastsAlone folder saved snapshot
  alone folder saved snapshot lasts = let is = lasts.number in record { image = lasts.image; at = lasts.at; left = lasts.left; number = omega (arith, is) }

  pub as_first : (folder : Folder S rows) (saved : Gv) (one other : At g) → Lasts folder saved one → LastsEither folder saved one other
  as_first folder saved one other lasts = inl (alone folder saved one lasts)

  pub as_second : (folder : Folder S rows) (saved : Gv) (one other : At g) → Lasts folder saved other → LastsEither folder saved one other
  as_second folder saved one other lasts = inr (inl (alone folder saved other lasts))
