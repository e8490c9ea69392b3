-- What a crash leaves of the files of a folder, from what it leaves of its database.
use Rattle.std.proofs.Common.{◌≡◌, ◌∙◌, ◌⊎◌, ◌<◌, ◌≤◌, ◌^◌, ℕ, Bool, true, arith, inl, inr, List, [], length, refl, ap}
use Rattle.std.proofs.Math.Logic.{∥∥₁_map}
use Rattle.std.proofs.lemmas.Bool.{and_parts}
use base.Stored.{Gv}
use Rattle.sqlite.specs.Files.{HoldsDatabase}
use Rattle.sqlite.specs.Recovery as database
use Rattle.sqlite.specs.State.{State, HasCleanDisk}
use Rattle.sqlite_disk.specs.declared.Disk as disk
use Rattle.sqlite_store.specs.FileStore.{view}
use Rattle.sqlite_store.specs.declared.store.FileStore.{FileStore}
use Rattle.sqlite_trees.specs.Tree.{Trees}
use Rattle.sqlite_trees.specs.View.{IsClean}
use Rattle.dav_data.specs.Claimed.{file_of, bytes_in, meets_claim, is_safe, LeavesRight}
use Rattle.dav_data.specs.Data.{is_below, is_synced, may_leave, LeavesBytes}
use Rattle.dav_data.specs.Digests.{are_right}
use Rattle.dav_data.specs.declared.claim.Claim as claim
use Rattle.dav_data.specs.declared.claimed_file.ClaimedFile.{ClaimedFile}
use Rattle.dav_keep.specs.Images.{Image, HoldsImage, StandForImage}
use Rattle.dav_keep.specs.Keeping.{Leaves, LeavesEither}
use Rattle.dav_pieces.specs.Pieces.{bytes_of}
use Rattle.dav_pieces.specs.declared.piece.Piece.{Piece}
use Rattle.dav_rows.specs.Contents.{Contents}
use Rattle.dav_rows_files.specs.Starting.{Keeps, LeavesDatabases, LeavesWhole}
use Rattle.dav_tree.proofs.Keeping.{same-resources}
use Rattle.dav_tree.specs.Before.{saved_code, IsSafe, HasSaved}
use Rattle.dav_tree.specs.Entry.{is_held}
use Rattle.dav_tree.specs.TreeFs.{memory_of}
use Rattle.dav_tree.specs.declared.entry.Content.TheVariants.{File, Directory}
use Rattle.dav_tree.specs.declared.entry.Content.{Content}
use Rattle.dav_tree.specs.declared.medium.Medium.{Ghosts}
use Rattle.dav_folder.specs.Files.{KeptStore, Hold, HoldFrom, HoldWhole, Leave, LeaveEither, LeaveWhole, kept_at}
use Rattle.dav_folder.specs.Lasting.{At, IsImageAt}

-- ---- the database

-- the files of a database have tables that stand for an image
record KeepsImage (left : database.Image) (image : Image) : Type 0 where
  tables : Contents
  keeps : Keeps left tables
  stand : StandForImage tables image

keeps_image : (left : database.Image) (image : Image) (db : Trees) → HoldsDatabase left db → HoldsImage db image → KeepsImage left image
keeps_image left image db found holds =
    record { tables = holds.contents; keeps = record { db = db; database = found; holds = holds.holds }; stand = holds.stand }

-- ---- the data file

held_more : (one other : List Piece → Bool) → ((body : List Piece) → one body ≡ true → other body ≡ true) → (content : Content (List Piece)) → is_held one content ≡ true
    → is_held other content ≡ true
held_more one other more (File body) is = more body is
held_more one other more Directory is = refl

-- what a crash leaves of a data file: its safe bodies, which end before a place, and the digests that are claimed of them
pub record IsLeft {E C : Type 0} {h : disk.Ghosts E} {c : claim.Ghosts C} (medium : ClaimedFile E C h c) (end : ℕ) (file : List ℕ) : Type 0 where
  pub bytes : LeavesBytes (file_of medium) file
  pub long : end ≤ length file
  pub right : c.holds ≡ true → LeavesRight medium file

pub left_by : {E C : Type 0} {h : disk.Ghosts E} {c : claim.Ghosts C} (medium : ClaimedFile E C h c) (end : ℕ)
    → ((file : List ℕ) → may_leave (file_of medium) file → LeavesBytes (file_of medium) file)
    → ((file : List ℕ) → may_leave (file_of medium) file → end ≤ length file)
    → (c.holds ≡ true → (file : List ℕ) → may_leave (file_of medium) file → LeavesRight medium file)
    → (file : List ℕ) → may_leave (file_of medium) file → IsLeft medium end file
left_by medium end bytes long right file may = record { bytes = bytes file may; long = long file may; right = λ holds. right holds file may }

-- a data file, and the place up to which a crash leaves it
module _ {E C : Type 0} {h : disk.Ghosts E} {c : claim.Ghosts C} (medium : ClaimedFile E C h c) (end : ℕ)
    (below : (body : List Piece) → is_safe medium body ≡ true → is_below end body ≡ true) (small : end < 2 ^ 63) where
  -- it has the bytes of an image whose tree is safe
  holds : {M : Type 0} {g : Ghosts M (List Piece)} (saved : Gv) (snapshot : At g) (image : Image) (file : List ℕ) (left : database.Image)
      → HasSaved g.body_code (bytes_in medium) (is_safe medium) saved → IsImageAt c saved snapshot image → IsLeft medium end file → KeepsImage left image
      → Hold c left file (kept_at snapshot)
  holds {g = g} saved snapshot image file left has at is_left keeps =
      let resources = (memory_of snapshot.store).resources in
      let safe : IsSafe (bytes_in medium) (is_safe medium) image.tree resources = has image.tree resources (ap (λ tree. saved_code tree resources) at.is.tree ∙ at.saved_is) in
      let synced : (body : List Piece) → is_safe medium body ≡ true → is_synced (file_of medium) body ≡ true =
      λ body is. (and_parts (is_synced (file_of medium) body) (meets_claim medium body) is).0 in
      record {
        tables = keeps.tables;
        keeps = keeps.keeps;
        image = image;
        stand = keeps.stand;
        whole = record { sound = at.sound; end = end; small = small; below = λ key e here. held_more (is_safe medium) (is_below end) below e.content (safe.held key e here) };
        within = is_left.long;
        bytes =
            same-resources (bytes_in medium) (bytes_of file) (is_safe medium) (is_safe medium) (λ body is. is) (λ body is. is_left.bytes body (synced body is)) image.tree safe.held
            ∙ safe.bytes_are;
        claimed = λ up. record {
          keyed = at.keyed up;
          right = λ key e here. held_more (is_safe medium) (are_right c.key file) (is_left.right up) e.content (safe.held key e here);
        };
        sound = at.resources;
        counter = at.is.counter;
        locks_are = at.is.locks_are;
        time = at.time;
        batch_is = at.batch;
      }

  -- ---- both

  module _ {D : Type 0} {d : disk.Ghosts D} (files : FileStore D d) (s : State) (clean : IsClean (view files) → HasCleanDisk s) (leaves : LeavesWhole s files)
      (leaves_file : (file : List ℕ) → may_leave (file_of medium) file → IsLeft medium end file) {M : Type 0} {g : Ghosts M (List Piece)} where
    pub leave_whole : (saved : Gv) (snapshot : At g) (image : Image) → HasSaved g.body_code (bytes_in medium) (is_safe medium) saved → IsImageAt c saved snapshot image
        → Leaves s image → LeaveWhole (files, medium) (kept_at snapshot)
    leave_whole saved snapshot image has at left_image = λ is_clean left file may also.
        ∥∥₁_map (leaves is_clean left may) (λ found.
        let holds_in = λ (found_left : database.Image) (database : HoldsDatabase found_left found.0).
        holds saved snapshot image file found_left has at (leaves_file file also)
        (keeps_image found_left image found.0 database (left_image (clean is_clean) found.0 found.3)) in
        let whole : HoldWhole c left file (kept_at snapshot) = record { both = holds_in left found.1; alone = holds_in (record left { log = [] }) found.2 } in whole)

  module _ {D : Type 0} {d : disk.Ghosts D} (files : FileStore D d) (s : State) (clean : IsClean (view files) → HasCleanDisk s) (leaves : LeavesDatabases s files)
      (leaves_file : (file : List ℕ) → may_leave (file_of medium) file → IsLeft medium end file) {M : Type 0} {g : Ghosts M (List Piece)} where
    pub leave : (saved : Gv) (snapshot : At g) (image : Image) → HasSaved g.body_code (bytes_in medium) (is_safe medium) saved → IsImageAt c saved snapshot image → Leaves s image
        → Leave (files, medium) (kept_at snapshot)
    leave saved snapshot image has at left_image = λ is_clean left file may also.
        ∥∥₁_map (leaves is_clean left may)
        (λ found. holds saved snapshot image file left has at (leaves_file file also) (keeps_image left image found.0 found.1 (left_image (clean is_clean) found.0 found.2)))

    pub leave_either : (earlier saved : Gv) (one other : At g) (first second : Image) (batch : ℕ) → batch ≤ one.last → one.last ≤ other.last → HasSaved g.body_code (bytes_in medium) (is_safe medium) earlier
        → HasSaved g.body_code (bytes_in medium) (is_safe medium) saved → IsImageAt c earlier one first → IsImageAt c saved other second → LeavesEither s first second
        → LeaveEither (files, medium) batch (kept_at one) (kept_at other)
    leave_either earlier saved one other first second batch low rises has has_too at at_too left_images = λ is_clean left file may also.
        ∥∥₁_map (leaves is_clean left may) (λ found. either left file (leaves_file file also) found.0 found.1 (left_images (clean is_clean) found.0 found.2))
      where
        either : (left : database.Image) (file : List ℕ) → IsLeft medium end file → (db : Trees) → HoldsDatabase left db → HoldsImage db first ⊎ HoldsImage db second
            → HoldFrom c batch left file (kept_at one) ⊎ HoldFrom c batch left file (kept_at other)
        either left file is_left db found (inl is) = inl (holds earlier one first file left has at is_left (keeps_image left first db found is), low)
        either left file is_left db found (inr is) = inr (holds saved other second file left has_too at_too is_left (keeps_image left second db found is), omega (arith, low, rises))

-- ---- one of two stores

module _ {D E C : Type 0} {d : disk.Ghosts D} {h : disk.Ghosts E} {c : claim.Ghosts C} (files : FileStore D d) (medium : ClaimedFile E C h c) (batch : ℕ) (one other : KeptStore) where
  pub leave_first : batch ≤ one.batch → Leave (files, medium) one → LeaveEither (files, medium) batch one other
  leave_first low leaves = λ clean left file may also.
      ∥∥₁_map (leaves clean left file may also) (λ hold. let either : HoldFrom c batch left file one ⊎ HoldFrom c batch left file other = inl (hold, low) in either)

  pub leave_second : batch ≤ other.batch → Leave (files, medium) other → LeaveEither (files, medium) batch one other
  leave_second low leaves = λ clean left file may also.
      ∥∥₁_map (leaves clean left file may also) (λ hold. let either : HoldFrom c batch left file one ⊎ HoldFrom c batch left file other = inr (hold, low) in either)
