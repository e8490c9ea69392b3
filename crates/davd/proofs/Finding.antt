-- What a start finds of what was kept.
use Rattle.std.proofs.Common.{◌≡◌, ◌∙◌, ◌≤◌, ℕ, List, map, length, Option, Result, refl, sym, ap, subst, arith}
use Rattle.std.specs.Prelude.{IfOk}
use Rattle.dav_cells.specs.Locks.{kept_lock}
use Rattle.dav_data.specs.declared.claim.Claim as claim
use Rattle.dav_data.specs.declared.claimed_file.ClaimedFile.{ClaimedFile}
use Rattle.sqlite_disk.specs.declared.Disk as disk
use Rattle.dav_folder.specs.Files.{KeptStore}
use Rattle.dav_folder.specs.Lasting.{HasCleanDatabase}
use Rattle.dav_folder.specs.Opening.{Opens, OpensImage}
use Rattle.dav_folder.specs.Reading.{IsReadFrom, ReadsImage, IsEmptyIfHonest}
use Rattle.dav_folder.specs.declared.opening.Opened.{Opened}
use Rattle.dav_folder.specs.declared.reading.Found.{Found}
use Rattle.dav_keep.proofs.NewStore.{first_whole, first_end, first_resources}
use Rattle.dav_keep.specs.Images.{Image, StandForImage}
use Rattle.dav_keep.specs.Loading.{first_image, IsWholeImage}
use Rattle.dav_pieces.specs.Pieces.{bytes_of}
use Rattle.dav_pieces.specs.declared.piece.Piece.{Piece}
use Rattle.dav_rows.specs.Contents.{Contents}
use Rattle.dav_rows.specs.Creating.{first}
use Rattle.dav_rows.specs.declared.change.Change.{Change}
use Rattle.dav_rows_files.specs.Starting.{Keeps, IsVacant}
use Rattle.dav_tree.specs.Kept.{resources_by}
use Rattle.dav_tree.specs.TreeFs.{memory_of, honest_of}
use Rattle.dav_tree.specs.declared.medium.Medium.{Ghosts}
use Rattle.dav_tree.specs.declared.tree_fs.TreeFs.{TreeFs}
use Rattle.davd.specs.Folder.{IsFound, FindsHeld, FindsNew, MakesFirst, first_kept}
use Rattle.sqlite.specs.Recovery as files
use Rattle.sqlite_trees.specs.declared.store.Store as store

-- a new store has no file, so no data file ends before its files do
first_within : (key : ℕ) (file : List ℕ) → (first_whole key).end ≤ length file
first_within key file = let none = first_end key in omega (arith, none)

module _ {S E C : Type 0} {e : disk.Ghosts E} {c : claim.Ghosts C} {rows : store.Ghosts S} {g : Ghosts (ClaimedFile E C e c) (List Piece)} (limit : Option (Option ℕ)) (file : List ℕ) where
  -- the image of what was kept is opened, with the bytes in these contents of a data file
  found : (image : Image) (kept : KeptStore) (opened : Opened S (ClaimedFile E C e c) (List Piece) rows g) → resources_by (bytes_of file) image.tree ≡ kept.resources
      → image.numbers.counter ≡ kept.counter → map kept_lock image.locks ≡ kept.locks → image.numbers.time ≡ kept.time → image.numbers.batch ≡ kept.batch
      → Opens c image opened → (memory_of opened.store).resources ≡ resources_by (bytes_of file) image.tree
      → (memory_of opened.store).limit ≡ limit → IsFound limit kept opened
  found image kept opened resources counter locks_are time batch opens bytes limit_is =
      let at = opens.lasts.at in
      record {
        lasts = opens.lasts;
        is = λ i. record {
          resources = (bytes ∙ resources) i;
          counter = (sym at.is.counter ∙ ap (λ (m : Image). m.numbers.counter) opens.is ∙ counter) i;
          locks = (sym at.is.locks_are ∙ ap (λ (m : Image). map kept_lock m.locks) opens.is ∙ locks_are) i;
          time = (sym at.time ∙ ap (λ (m : Image). m.numbers.time) opens.is ∙ time) i;
          batch = (sym at.batch ∙ ap (λ (m : Image). m.numbers.batch) opens.is ∙ batch) i;
        };
        limit_is = limit_is;
      }

  -- What was read of the files is opened over them. `left` is what they held, and `now` what they hold when they are opened; `Clean` says that they have
  -- returned what was written.
  module _ (left now : files.Image) (same : now ≡ left) (Clean : Type 0) (read : Found (ClaimedFile E C e c) (List Piece) g) (opened : Opened S (ClaimedFile E C e c) (List Piece) rows g)
      (is_store : opened.store ≡ read.store) (was_clean : HasCleanDatabase opened.folder → Clean) where
    bytes_opened : (image : Image) (whole : IsWholeImage image) (tables : Contents) → ReadsImage file limit image whole tables read → whole.end ≤ length file
        → (memory_of opened.store).resources ≡ resources_by (bytes_of file) image.tree
    bytes_opened image whole tables reads within =
        subst (λ (s : TreeFs (ClaimedFile E C e c) (List Piece) g). (memory_of s).resources ≡ resources_by (bytes_of file) image.tree) (sym is_store) (reads.bytes within)

    limit_opened : (image : Image) (whole : IsWholeImage image) (tables : Contents) → ReadsImage file limit image whole tables read → (memory_of opened.store).limit ≡ limit
    limit_opened image whole tables reads = subst (λ (s : TreeFs (ClaimedFile E C e c) (List Piece) g). (memory_of s).limit ≡ limit) (sym is_store) reads.limit_is

    -- if the files held a store, it is found
    pub finds_held : ((image : Image) (tables : Contents) → Keeps left tables → StandForImage tables image → (whole : IsWholeImage image) → Clean → ReadsImage file limit image whole tables read)
        → ((image : Image) (tables : Contents) → Keeps now tables → (Clean → IsReadFrom image tables read) → OpensImage c image opened)
        → FindsHeld left file limit opened
    finds_held reads opens = λ kept hold clean.
        let read_image = reads hold.image hold.tables hold.keeps hold.stand hold.whole in
        let still : Keeps now hold.tables = subst (λ image. Keeps image hold.tables) (sym same) hold.keeps in
        let here = read_image (was_clean clean) in
        found hold.image kept opened hold.bytes hold.counter hold.locks_are hold.time hold.batch_is
        (opens hold.image hold.tables still (λ is. (read_image is).read) clean) (bytes_opened hold.image hold.whole hold.tables here hold.within) (limit_opened hold.image hold.whole hold.tables here)

    -- if they had no table, a new store is found, and the data file had no byte
    pub finds_new : (key : ℕ) (changes : List Change) → MakesFirst key changes
        → ((image : Image) → IsVacant left → StandForImage (first changes) image → (whole : IsWholeImage image) → Clean → ReadsImage file limit image whole (first changes) read)
        → ((image : Image) → IsVacant now → (Clean → IsReadFrom image (first changes) read) → OpensImage c image opened)
        → (IsVacant left → Clean → IsEmptyIfHonest read file) → opened.key ≡ read.key → FindsNew left file limit key opened
    finds_new key changes stand reads opens empty same_key = record {
      found = λ vacant clean.
          let image = first_image key in
          let tables = first changes in
          let read_image = reads image vacant stand (first_whole key) in
          let here = read_image (was_clean clean) in
          found image first_kept opened (first_resources (bytes_of file) key) refl refl refl refl
          (opens image (subst IsVacant (sym same) vacant) (λ is. (read_image is).read) clean) (bytes_opened image (first_whole key) tables here (first_within key file)) (limit_opened image (first_whole key) tables here);
      keyed = λ vacant clean. same_key ∙ (reads (first_image key) vacant stand (first_whole key) (was_clean clean)).read.key;
      empty = λ vacant clean honest. empty vacant (was_clean clean) (ap honest_of (sym is_store) ∙ honest);
    }

-- the same, by what the files held
module _ {S E C X : Type 0} {e : disk.Ghosts E} {c : claim.Ghosts C} {rows : store.Ghosts S} {g : Ghosts (ClaimedFile E C e c) (List Piece)} (result : Result (Opened S (ClaimedFile E C e c) (List Piece) rows g) X) (left held : files.Image) (file bytes : List ℕ)
    (limit other : Option (Option ℕ)) (same : left ≡ held) (same_bytes : file ≡ bytes) (same_limit : limit ≡ other) where
  pub held_as : IfOk result (FindsHeld left file limit) → IfOk result (FindsHeld held bytes other)
  held_as finds =
      subst (λ l. IfOk result (FindsHeld held bytes l)) same_limit
      (subst (λ b. IfOk result (FindsHeld held b limit)) same_bytes (subst (λ i. IfOk result (FindsHeld i file limit)) same finds))

  pub new_as : (key : ℕ) → IfOk result (FindsNew left file limit key) → IfOk result (FindsNew held bytes other key)
  new_as key finds =
      subst (λ l. IfOk result (FindsNew held bytes l key)) same_limit
      (subst (λ b. IfOk result (FindsNew held b limit key)) same_bytes (subst (λ i. IfOk result (FindsNew i file limit key)) same finds))
