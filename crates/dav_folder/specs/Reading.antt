-- What is read of a folder.
use Rattle.std.specs.Prelude.{◌≡◌, ◌≤◌, ℕ, ◌+◌, true, List, [], length, map, Option, Result, IfOk}
use Rattle.dav_cells.specs.Locks.{kept_lock}
use Rattle.dav_keep.specs.Images.{Image, IsSound, StandForImage}
use Rattle.dav_keep.specs.Keeping.{Knows}
use Rattle.dav_keep.specs.Loading.{IsWholeImage, AreRowsOfImage}
use Rattle.dav_memls.specs.MemLs.{list_of}
use Rattle.dav_pieces.specs.Pieces.{bytes_of}
use Rattle.dav_pieces.specs.declared.piece.Piece.{Piece}
use Rattle.dav_rows.specs.Contents.{Contents}
use Rattle.dav_rows.specs.declared.loading.Rows.{Rows}
use Rattle.dav_tree.specs.Before.{entries_code, IsSaved}
use Rattle.dav_tree.specs.Kept.{resources_by}
use Rattle.dav_tree.specs.Memory as memory
use Rattle.dav_tree.specs.TreeFs.{memory_of, entries_of, honest_of}
use Rattle.dav_tree.specs.declared.medium.Medium.{Ghosts}
use Rattle.dav_folder.specs.declared.reading.Found.{Found}

-- how many rows there are in all tables
abbrev pub row_count : Rows → ℕ
row_count rows =
    length rows.resources.items + length rows.extents.items + length rows.properties.items + length rows.locks.items + length rows.states.items + length rows.notes.items

module _ {M : Type 0} {g : Ghosts M (List Piece)} where
  -- what was read is an image: its entries, its locks and its numbers, and what is known of the tables that stand for it
  pub record IsReadFrom (image : Image) (tables : Contents) (found : Found M (List Piece) g) : Type 0 where
    pub knows : Knows found.known image tables
    pub sound : IsSound image
    pub entries : entries_of found.store ≡ entries_code g.body_code image.tree
    pub resources : memory.IsSound (memory_of found.store).resources
    pub saved : IsSaved found.store.entries
    pub locks_are : list_of found.locks ≡ map kept_lock image.locks
    pub counter : (memory_of found.store).version ≡ image.numbers.counter
    pub time : found.now ≡ image.numbers.time
    pub batch : found.last ≡ image.numbers.batch
    pub key : found.key ≡ image.numbers.key

  -- unless these contents of the data file end before the files of an image, the store has the resources of the image with the bytes in them
  abbrev pub HasReadBytes : List ℕ → (image : Image) → IsWholeImage image → Found M (List Piece) g → Type 0
  HasReadBytes file image whole found = whole.end ≤ length file → (memory_of found.store).resources ≡ resources_by (bytes_of file) image.tree

  -- an image is read, with the bytes in these contents of the data file, and this limit is set
  pub record ReadsImage (file : List ℕ) (limit : Option (Option ℕ)) (image : Image) (whole : IsWholeImage image) (tables : Contents) (found : Found M (List Piece) g) : Type 0 where
    pub read : IsReadFrom image tables found
    pub bytes : HasReadBytes file image whole found
    pub limit_is : (memory_of found.store).limit ≡ limit

  -- rows that are those of an image are read as that image, with the bytes in these contents of the data file
  abbrev pub ReadsBytesOf : {X : Type 0} → Rows → List ℕ → Result (Found M (List Piece) g) X → Type 0
  ReadsBytesOf rows file result = (image : Image) (tables : Contents) (are : AreRowsOfImage rows image tables) → IfOk result (HasReadBytes file image are.whole)

  -- if these tables stand for this image, and what is asked beside that holds, it is read with the bytes in these contents of the data file
  abbrev pub ReadsAs : {X : Type 0} → List ℕ → Option (Option ℕ) → Type 0 → Image → Contents → Result (Found M (List Piece) g) X → Type 0
  ReadsAs file limit Asked image tables result =
      StandForImage tables image → (whole : IsWholeImage image) → IfOk result (λ found. Asked → ReadsImage file limit image whole tables found)

  -- if the data file is honest, it had no byte
  abbrev pub IsEmptyIfHonest : Found M (List Piece) g → List ℕ → Type 0
  IsEmptyIfHonest found file = honest_of found.store ≡ true → file ≡ []
