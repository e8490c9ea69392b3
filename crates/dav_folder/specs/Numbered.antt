-- What contracts see of a keeper that notes how far its folder is.
use Rattle.std.specs.Prelude.{◌≡◌, List, refl}
use Rattle.std.proofs.Common.{◌∙◌}
use base.Stored.{Gv}
use Rattle.sqlite_disk.specs.declared.Disk as disk
use Rattle.sqlite_trees.specs.declared.store.Store as store
use Rattle.dav_data.specs.declared.claim.Claim as claim
use Rattle.dav_last.specs.Batches.{key_of, Names, HasCleanSlots}
use Rattle.dav_last.specs.declared.last_batch.LastBatch.{LastBatch}
use Rattle.dav_pieces.specs.declared.piece.Piece.{Piece}
use Rattle.dav_tree.specs.declared.medium.Medium.{Ghosts}
use Rattle.dav_folder.specs.Folders.{batch_of}
use Rattle.dav_folder.specs.Lasting as folders
use Rattle.dav_folder.specs.Lasting.{At, Lasts, LastsEither, HasCleanDatabase}
use Rattle.dav_folder.specs.declared.folder.Folder.{Folder}
use Rattle.dav_folder.specs.declared.numbered.Numbered.{Numbered}

module _ {S L : Type 0} {rows : store.Ghosts S} {l : disk.Ghosts L} where
  -- the folder that it keeps
  abbrev pub folder_of : Numbered S L rows l → Folder S rows
  folder_of keeper = keeper.folder

  -- the number that it notes
  abbrev pub last_of : Numbered S L rows l → LastBatch L l
  last_of keeper = keeper.last

  -- the disk of the folder's database is clean
  abbrev pub HasCleanFolder : Numbered S L rows l → Type 0
  HasCleanFolder keeper = HasCleanDatabase (folder_of keeper)

  -- the disks of the files of the number are clean
  abbrev pub HasCleanNumber : Numbered S L rows l → Type 0
  HasCleanNumber keeper = HasCleanSlots (last_of keeper)

  -- The second keeper comes of the first one by calls. A disk that is clean was clean before, and the number stays under its key.
  pub record Follows (old new : Numbered S L rows l) : Type 0 where
    pub folder : HasCleanFolder new → HasCleanFolder old
    pub number : HasCleanNumber new → HasCleanNumber old
    pub key : key_of (last_of new) ≡ key_of (last_of old)

  pub follows_same : (keeper : Numbered S L rows l) → Follows keeper keeper
  follows_same keeper = record { folder = λ clean. clean; number = λ clean. clean; key = refl }

  pub follows_both : (one two three : Numbered S L rows l) → Follows one two → Follows two three → Follows one three
  follows_both one two three first second =
      record { folder = λ clean. first.folder (second.folder clean); number = λ clean. first.number (second.number clean); key = second.key ∙ first.key }

  module _ {C : Type 0} (c : claim.Ghosts C) {M : Type 0} {g : Ghosts M (List Piece)} where
    -- its folder keeps the image of a snapshot, and the files of the number name that of the folder's last batch
    abbrev pub LastsNumbered : Numbered S L rows l → Gv → At g → Type 0
    LastsNumbered keeper saved snapshot = Lasts c (folder_of keeper) saved snapshot × Names (batch_of (folder_of keeper)) (last_of keeper)

    -- a crash leaves one of two snapshots of its folder
    abbrev pub LastsEitherNumbered : Numbered S L rows l → Gv → At g → At g → Type 0
    LastsEitherNumbered keeper saved one other = LastsEither c (folder_of keeper) saved one other

    pub as_first : (keeper : Numbered S L rows l) (saved : Gv) (one other : At g) → LastsNumbered keeper saved one → LastsEitherNumbered keeper saved one other
    as_first keeper saved one other lasts = folders.as_first c (folder_of keeper) saved one other lasts.0

    pub as_second : (keeper : Numbered S L rows l) (saved : Gv) (one other : At g) → LastsNumbered keeper saved other → LastsEitherNumbered keeper saved one other
    as_second keeper saved one other lasts = folders.as_second c (folder_of keeper) saved one other lasts.0
