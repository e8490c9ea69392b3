-- What it is to save the changes of a store: the tables that stood for its old tree stand for its new one.
use Rattle.std.specs.Prelude.{◌≡◌, ◌≢◌, ℕ, ℤ, pos, List, ◌++◌, None, true}
use Rattle.std.specs.Coded.{Coded}
use Rattle.std.specs.FinMap.{get}
use Rattle.std.specs.BTreeSet.{BTreeSet}
use base.Stored.{Gv}
use Rattle.dav_nodes.specs.Tree.{Tree}
use Rattle.dav_nodes.specs.Rows.{Row, HasRow, AreDistinct, HasNoted, is_noted}
use Rattle.dav_nodes.specs.declared.changes.Changes.{Changes}
use Rattle.dav_nodes.specs.declared.changes.Changes.TheVariants.{Numbers}
use Rattle.dav_pieces.specs.declared.piece.Piece.{Piece}
use Rattle.dav_rows.specs.Contents.{Contents}
use Rattle.dav_rows.specs.Changes.{after}
use Rattle.dav_rows.specs.declared.change.Change.{Change}
use Rattle.dav_tree.specs.Before.{entries_code}
use Rattle.dav_store_rows.specs.declared.saving.Counts.{Counts}
use Rattle.dav_store_rows.specs.Parts.{HasOnlyParts}
use Rattle.dav_store_rows.specs.Resources.{Kept}
use Rattle.dav_store_rows.specs.Stands.{HasRows, HasNoRows, StandFor, KeepsOtherTables}
use Rattle.dav_store_rows.specs.Saves.{Fits}

-- the tables stand for the tree, and have at most as many rows as are counted
pub record IsSavedIn (m : Contents) (tree : Tree Kept) (counts : List Counts) : Type 0 where
  pub stands : StandFor m tree
  pub fits : Fits counts m

-- changes are appended that make tables that stood for a tree stand for the tree that there is now, if what is not noted is the same in both; they leave
-- the other tables as they were
pub record Updates (body : Coded (List Piece)) (noted : Changes) (now : Gv) (old_counts : List Counts) (before : List Change) (new_counts : List Counts)
    (changes : List Change) : Type 0 where
  pub more : List Change
  pub is : changes ≡ before ++ more
  pub saved : (old new : Tree Kept) (m : Contents) → entries_code body new ≡ now → HasNoted noted old new
      → IsSavedIn m old old_counts → IsSavedIn (after more m) new new_counts
  pub tables : (m : Contents) → KeepsOtherTables m (after more m)

-- ---- some numbers at a time

-- a number has the rows of its resource in the tree, or none if it has none
pub record StandsAt (m : Contents) (tree : Tree Kept) (number : ℕ) : Type 0 where
  pub kept : (row : Row Kept) → HasRow tree number row → HasRows m number row
  pub none : ((row : Row Kept) → HasRow tree number row → ⊥) → HasNoRows m number

-- the tables stand for the tree, except at numbers that are stale
pub record StandsBut (stale : ℕ → Type 0) (m : Contents) (tree : Tree Kept) (counts : List Counts) : Type 0 where
  pub others : (number : ℕ) → (stale number → ⊥) → StandsAt m tree number
  pub only_resources : (key : ℤ) → get m.resources key ≢ None → (number : ℕ) × (key ≡ pos number)
  pub only_extents : HasOnlyParts m.extents
  pub only_properties : HasOnlyParts m.properties
  pub fits : Fits counts m

module _ (body : Coded (List Piece)) (now : Gv) where
  -- changes are appended that leave no more numbers stale than the later ones
  pub record Freshens (stale later : ℕ → Type 0) (old_counts : List Counts) (before : List Change) (new_counts : List Counts)
      (changes : List Change) : Type 0 where
    pub more : List Change
    pub is : changes ≡ before ++ more
    pub does : (tree : Tree Kept) (m : Contents) → entries_code body tree ≡ now → AreDistinct tree
        → StandsBut stale m tree old_counts → StandsBut later (after more m) tree new_counts
    pub tables : (m : Contents) → KeepsOtherTables m (after more m)

  -- changes are appended that leave no number stale, if at first those that are noted are
  abbrev pub Renews : Changes → List Counts → List Change → List Counts → List Change → Type 0
  Renews noted old_counts before new_counts changes =
      Freshens (λ number. is_noted noted number ≡ true) (λ number. ⊥) old_counts before new_counts changes

  -- the same where these numbers are noted
  abbrev pub RenewsNumbers : BTreeSet ℕ → List Counts → List Change → List Counts → List Change → Type 0
  RenewsNumbers numbers old_counts before new_counts changes = Renews (Numbers numbers) old_counts before new_counts changes
