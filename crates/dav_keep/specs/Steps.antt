-- The steps of keeping: the changes are prepared, and then they are committed.
use Rattle.std.specs.Prelude.{◌≡◌, ◌⊎◌, ℕ, ℤ, pos, List, Option, Some, None, Vec}
use Rattle.std.specs.Coded.{Coded}
use Rattle.std.specs.FinMap.{entries, insert}
use Rattle.std.specs.declared.alloc.Global.{Global}
use base.Stored.{Gv}
use Rattle.sqlite.specs.State.{HasCleanDisk}
use Rattle.sqlite.specs.Tree.{Trees}
use Rattle.sqlite_trees.specs.declared.store.Store as store
use Rattle.dav_memls.specs.MemLs.{list_of}
use Rattle.dav_memls.specs.declared.memory_locks.MemLs.{MemLs}
use Rattle.dav_nodes.specs.Tree.{Tree}
use Rattle.dav_pieces.specs.declared.piece.Piece.{Piece}
use Rattle.dav_rows.specs.Changes.{after}
use Rattle.dav_rows.specs.Contents.{Contents, LockValues, Holds}
use Rattle.dav_rows.specs.Saving.{IsAt}
use Rattle.dav_rows.specs.declared.change.Change.{Change}
use Rattle.dav_seal.specs.Seals.{AreSealsOf, sealed}
use Rattle.dav_store.specs.declared.lock.DavLock.{DavLock}
use Rattle.dav_store_rows.specs.LockRows.{LocksStand}
use Rattle.dav_store_rows.specs.Resources.{Kept}
use Rattle.dav_store_rows.specs.Updates.{IsSavedIn}
use Rattle.dav_store_rows.specs.declared.saving.Counts.{Counts}
use Rattle.dav_tree.specs.Before.{entries_code, IsSaved, IsTreeIn}
use Rattle.dav_tree.specs.TreeFs.{memory_of, before_of, older_of, entries_of}
use Rattle.dav_tree.specs.declared.medium.Medium.{Ghosts}
use Rattle.dav_tree.specs.declared.tree_fs.TreeFs.{TreeFs}
use Rattle.dav_keep.specs.Keeping.{database}
use Rattle.dav_keep.specs.Images.{IsSoundTree, values_of}
use Rattle.dav_keep.specs.declared.keeping.Keeping.{Keeping}
use Rattle.dav_keep.specs.declared.numbers.Numbers.{Numbers}

-- ---- prepared changes

-- the tables stand for the tree and the locks, and have as many rows as are counted and these rows of locks
pub record AreSavedIn (m : Contents) (tree : Tree Kept) (locks : List DavLock) (counts : List Counts) (rows : List (ℤ × LockValues)) : Type 0 where
  pub resources : IsSavedIn m tree counts
  pub stand : LocksStand m.locks locks
  pub rows_are : entries m.locks ≡ rows

module _ {S : Type 0} {rows : store.Ghosts S} where
  -- the keepers differ in what they know of the tables
  pub record OnlyRowsDiffer (old new : Keeping S rows) : Type 0 where
    pub conn : new.conn ≡ old.conn
    pub version : new.version ≡ old.version
    pub key : new.key ≡ old.key
    pub seals : new.seals ≡ old.seals

  -- the keepers differ in the database, the seals and the number of changes
  pub record OnlyDatabaseDiffers (old new : Keeping S rows) : Type 0 where
    pub counts : new.counts ≡ old.counts
    pub locks : new.locks ≡ old.locks
    pub key : new.key ≡ old.key

  module _ (body : Coded (List Piece)) (old new : Keeping S rows) (before now : Gv) (locks : List DavLock) where
    -- the changes bring tables of the tree that was saved up to date with the tree of entries and the locks, and leave the state
    pub record IsPrepared (changes : List Change) : Type 0 where
      pub tree : Tree Kept
      pub is : entries_code body tree ≡ now
      pub sound : IsSoundTree tree
      pub saves : (was : Tree Kept) (m : Contents) → IsTreeIn before (entries_code body was) → IsSavedIn m was old.counts → entries m.locks ≡ old.locks
          → AreSavedIn (after changes m) tree locks new.counts new.locks
      pub states : (m : Contents) → entries m.locks ≡ old.locks → (after changes m).states ≡ m.states

    -- nothing has changed: tables of the tree that was saved have the locks already
    pub record IsUnchanged (version : ℕ) : Type 0 where
      pub counts : new.counts ≡ old.counts
      pub stand : (m : Contents) → entries m.locks ≡ old.locks → LocksStand m.locks locks × (new.locks ≡ old.locks)
      pub version_is : old.version ≡ version

    -- changes are prepared, or there are none
    abbrev pub PreparesFrom : ℕ → Option (Vec Change Global) → Type 0
    PreparesFrom version None = IsUnchanged version
    PreparesFrom version (Some changes) = IsPrepared changes.items

  -- the same, between these stores
  abbrev pub Prepares : {M : Type 0} {g : Ghosts M (List Piece)} → Keeping S rows → Keeping S rows → TreeFs M (List Piece) g → TreeFs M (List Piece) g
      → MemLs → Option (Vec Change Global) → Type 0
  Prepares {g = g} old new first last locks changes =
      PreparesFrom g.body_code old new (before_of first) (entries_of last) (list_of locks) (memory_of last).version changes

module _ {M : Type 0} {g : Ghosts M (List Piece)} where
  -- what is saved of the store is what it was
  pub record IsNotAsked (old new : TreeFs M (List Piece) g) : Type 0 where
    pub saved : before_of new ≡ before_of old
    pub older : older_of new ≡ older_of old

  -- what is saved of the store is all that there is now, and what was saved before is still safe
  pub record IsAsked (old new : TreeFs M (List Piece) g) : Type 0 where
    pub tree : Tree Kept
    pub is : entries_code g.body_code tree ≡ entries_of new
    pub sound : IsSoundTree tree
    pub saved : IsSaved new.entries
    pub older : older_of new ≡ before_of old

  abbrev pub IsAskedOrNot : TreeFs M (List Piece) g → TreeFs M (List Piece) g → Type 0
  IsAskedOrNot old new = IsNotAsked old new ⊎ IsAsked old new

-- ---- commits

-- what the tables are after the changes, with these numbers as the row of the state, and then sealed
abbrev pub saved_with : List Change → Numbers → Contents → Contents
saved_with changes numbers m =
    let changed = after changes m in
    sealed numbers.key (record changed { states = insert changed.states (pos 0) (values_of numbers) })

module _ {S : Type 0} {rows : store.Ghosts S} (old new : Keeping S rows) (changes : List Change) (numbers : Numbers) where
  -- the seals are those of the tables with the changes and these numbers, if they were those of the tables
  abbrev pub Follows : Type 0
  Follows = (m : Contents) → AreSealsOf numbers.key m old.seals → AreSealsOf numbers.key (saved_with changes numbers m) new.seals

  -- if the disk is clean, the tables of these seals are what they were, with the changes and these numbers
  abbrev pub Commits : Type 0
  Commits = HasCleanDisk (database new) → (m : Contents) → AreSealsOf numbers.key m old.seals → IsAt (database old) m
      → IsAt (database new) (saved_with changes numbers m)

  -- if the disk is clean, a crash leaves tables that are what they were, or that have the changes and these numbers
  abbrev pub MayCommit : Type 0
  MayCommit = HasCleanDisk (database new) → (m : Contents) → AreSealsOf numbers.key m old.seals → IsAt (database old) m → (db : Trees)
      → (database new).may_leave db → Holds db m ⊎ Holds db (saved_with changes numbers m)
