-- What it is to keep a store: this project's own choice.
use Rattle.std.specs.Prelude.{◌≡◌, ◌⊎◌, ℕ, Bool, true, false, List}
use Rattle.std.specs.Coded.{Coded}
use Rattle.std.specs.FinMap.{entries}
use base.Stored.{Gv}
use Rattle.sqlite.specs.Held.{Held, state}
use Rattle.sqlite.specs.State.{State, HasCleanDisk}
use Rattle.sqlite.specs.Tree.{Trees}
use Rattle.sqlite_trees.specs.declared.store.Store as store
use Rattle.dav_memls.specs.declared.memory_locks.MemLs.{MemLs}
use Rattle.dav_pieces.specs.declared.piece.Piece.{Piece}
use Rattle.dav_rows.specs.Contents.{Contents}
use Rattle.dav_rows.specs.Saving.{IsAt}
use Rattle.dav_seal.specs.Seals.{AreSealsOf}
use Rattle.dav_store_rows.specs.Saves.{Fits}
use Rattle.dav_tree.specs.Before.{entries_code, IsSaved, IsTreeIn}
use Rattle.dav_tree.specs.TreeFs.{before_of, older_of}
use Rattle.dav_tree.specs.declared.medium.Medium.{Ghosts}
use Rattle.dav_tree.specs.declared.tree_fs.TreeFs.{TreeFs}
use Rattle.dav_keep.specs.Images.{Image, StandForImage, HoldsImage, IsSound, IsImageOf}
use Rattle.dav_keep.specs.declared.keeping.Keeping.{Keeping}
use Rattle.dav_keep.specs.declared.loading.Known.{Known}

-- ---- what is kept

-- what was loaded is known of tables that stand for an image: how many rows each resource has, the rows of the locks, the number of changes, the key, and
-- the seals
pub record Knows (known : Known) (image : Image) (tables : Contents) : Type 0 where
  pub stand : StandForImage tables image
  pub fits : Fits known.counts tables
  pub locks : entries tables.locks ≡ known.locks
  pub version : known.version ≡ image.numbers.counter
  pub key : known.key ≡ image.numbers.key
  pub seals : AreSealsOf image.numbers.key tables known.seals

module _ {S : Type 0} {rows : store.Ghosts S} where
  abbrev pub connection_of : Keeping S rows → Held S
  connection_of keeping = keeping.conn

  -- what the keeper's connection shows
  abbrev pub database : Keeping S rows → State
  database keeping = state rows (connection_of keeping)

  -- The keeper knows tables that stand for an image: how many rows each resource has, the rows of the locks, the number of changes, the key, and the
  -- seals. If the disk is clean, they are the tables of its database.
  pub record IsKnown (keeping : Keeping S rows) (image : Image) : Type 0 where
    pub tables : Contents
    pub stand : StandForImage tables image
    pub fits : Fits keeping.counts tables
    pub locks : entries tables.locks ≡ keeping.locks
    pub version : keeping.version ≡ image.numbers.counter
    pub key : keeping.key ≡ image.numbers.key
    pub seals : AreSealsOf image.numbers.key tables keeping.seals
    pub at : HasCleanDisk (database keeping) → IsAt (database keeping) tables

  -- the same, and the tree of the image is the one that is saved of a store
  pub record IsKept (body : Coded (List Piece)) (keeping : Keeping S rows) (saved : Gv) (image : Image) : Type 0 where
    pub tree : IsTreeIn saved (entries_code body image.tree)
    pub sound : IsSound image
    pub known : IsKnown keeping image

-- ---- what a call does

-- the image has this time, the number of this batch, and the key of the image before
pub record IsDated (now batch : ℕ) (before image : Image) : Type 0 where
  pub time : image.numbers.time ≡ now
  pub batch_is : image.numbers.batch ≡ batch
  pub key : image.numbers.key ≡ before.numbers.key

-- if anything has changed, the image is of this batch, and otherwise it is the one before
abbrev pub IsSince : Bool → ℕ → ℕ → Image → Image → Type 0
IsSince true now batch before image = IsDated now batch before image
IsSince false now batch before image = image ≡ before

-- if the disk is clean, a crash leaves tables that stand for the image
abbrev pub Leaves : State → Image → Type 0
Leaves s image = HasCleanDisk s → (db : Trees) → s.may_leave db → HoldsImage db image

-- the same, for one of two images
abbrev pub LeavesEither : State → Image → Image → Type 0
LeavesEither s one other = HasCleanDisk s → (db : Trees) → s.may_leave db → HoldsImage db one ⊎ HoldsImage db other

module _ {S M : Type 0} {rows : store.Ghosts S} {g : Ghosts M (List Piece)} where
  -- an image of what is in the store and the lock system now is kept
  pub record KeepsNow (changed : Bool) (before : Image) (keeping : Keeping S rows) (store : TreeFs M (List Piece) g) (locks : MemLs)
      (now batch : ℕ) : Type 0 where
    pub image : Image
    pub kept : IsKept g.body_code keeping (before_of store) image
    pub is : IsImageOf store locks image
    pub since : IsSince changed now batch before image

  -- nothing was saved: a crash leaves the image before, and what is saved of the store is what it was
  pub record StopsBefore (before : Image) (keeping : Keeping S rows) (old new : TreeFs M (List Piece) g) : Type 0 where
    pub saved : before_of new ≡ before_of old
    pub older : older_of new ≡ older_of old
    pub left : Leaves (database keeping) before

  -- a crash leaves the image before, whose tree is still safe, or an image of what is in the store and the lock system now
  pub record StopsBetween (before : Image) (keeping : Keeping S rows) (old new : TreeFs M (List Piece) g) (locks : MemLs)
      (now batch : ℕ) : Type 0 where
    pub image : Image
    pub is : IsImageOf new locks image
    pub dated : IsDated now batch before image
    pub sound : IsSound image
    pub saved : IsSaved new.entries
    pub older : older_of new ≡ before_of old
    pub left : LeavesEither (database keeping) before image

  abbrev pub Stops : Image → Keeping S rows → TreeFs M (List Piece) g → TreeFs M (List Piece) g → MemLs → ℕ → ℕ → Type 0
  Stops before keeping old new locks now batch = StopsBefore before keeping old new ⊎ StopsBetween before keeping old new locks now batch
