-- The steps of a copy that keeps a list of open directories: this project's own choice.
use Rattle.std.specs.Prelude.{◌≡◌, ◌⊎◌, ◌<◌, ◌+◌, Bool, true, false, List, [], ◌∷◌, ◌++◌, length, get_or, Option, Some, None, Result, Ok, Err}
use Rattle.dav_key.specs.Key.{Key}
use Rattle.dav_resource.specs.PathText.{PathValue}
use Rattle.dav_resource.specs.Errors.{fs_status}
use Rattle.dav_resource.specs.declared.meta.Meta.{Meta}
use Rattle.dav_resource.specs.declared.meta.DirEntry.{DirEntry}
use Rattle.dav_resource.specs.declared.error.FsError.{FsError}
use Rattle.dav_resource.specs.declared.request.Depth.{Depth}
use Rattle.dav_store.specs.Logged.{Logged}
use Rattle.dav_store.specs.Store.{Store, Contents}
use Rattle.dav_store.specs.Calls.{Call, Grants, metadata_call, IsMetaAt, create_dir_call, IsMadeAt}
use Rattle.dav_store.specs.Members.{read_dir_call, Lists}
use Rattle.dav_store.specs.Transfers.{copy_call, IsCopiedTo}
use Rattle.dav_messages.specs.Multistatus.{Item}
use Rattle.dav_walks.specs.declared.copy_frame.CopyFrame.{CopyFrame}
use Rattle.dav_walks.specs.Frames.{NamesRefusal, IsCut, path_of_entry}
use Rattle.dav_walks.specs.Copied.{CopiesAll, StopsCopy}

-- one call is granted with its effect, or it is declined and the path is reported
abbrev pub Makes : Call → (Contents → Contents → Type 0) → PathValue → Store → Store → List Item → List Item → Bool → Type 0
Makes call Effect path old new had has true = Grants call Effect old new × (has ≡ had)
Makes call Effect path old new had has false = NamesRefusal call path old new had has

-- ---- the start of a key's copy

-- a lookup of a path
abbrev pub LooksUpAt : PathValue → Store → Store → List Item → List Item → Option Meta → Type 0
LooksUpAt path old new had has (Some meta) = Grants (metadata_call old.contents path.key) (IsMetaAt path.key meta) old new × (has ≡ had)
LooksUpAt path old new had has None = NamesRefusal (metadata_call old.contents path.key) path old new had has

abbrev pub CopiesFile : PathValue → PathValue → Store → Store → List Item → List Item → Bool → Type 0
CopiesFile source dest old = Makes (copy_call old.contents source.key dest.key) (IsCopiedTo source.key dest.key) source old

abbrev pub MakesPlace : PathValue → Store → Store → List Item → List Item → Bool → Type 0
MakesPlace dest old = Makes (create_dir_call old.contents dest.key) (IsMadeAt dest.key) dest old

-- the directory is listed, and the copy of its members may begin
pub record OpensCopy (source dest : PathValue) (old new : Store) (had has : List Item) (frame : CopyFrame) : Type 0 where
  pub lists : Lists source.key old frame.listing.items new
  pub unnamed : has ≡ had
  pub at_source : frame.source ≡ source
  pub at_dest : frame.dest ≡ dest
  pub first : frame.next ≡ 0

abbrev pub ListsSource : PathValue → PathValue → Store → Store → List Item → List Item → Option CopyFrame → Type 0
ListsSource source dest old new had has (Some frame) = OpensCopy source dest old new had has frame
ListsSource source dest old new had has None = NamesRefusal (read_dir_call old.contents source.key) source old new had has

-- the lookup of the source is granted, and it is a directory or not
pub record Finds (dir : Bool) (source : PathValue) (old new : Store) : Type 0 where
  pub meta : Meta
  pub kind : meta.dir ≡ dir
  pub looked : Grants (metadata_call old.contents source.key) (IsMetaAt source.key meta) old new

-- the source is a directory, and one was made at its destination
pub record MakesPlaceOf (source dest : PathValue) (old new : Store) : Type 0 where
  pub mid : Store
  pub found : Finds true source old mid
  pub made : Grants (create_dir_call mid.contents dest.key) (IsMadeAt dest.key) mid new

-- The source is looked up. Then a file is copied, or a directory is made at the destination and the source is listed. The first call that is declined
-- ends this, and is reported.
pub data EntersCopy (source dest : PathValue) (old new : Store) (had has : List Item) : Option CopyFrame → Type 0 where
  unlooked : LooksUpAt source old new had has None → EntersCopy source dest old new had has None
  filed : (mid : Store) (done : Bool) → Finds false source old mid → CopiesFile source dest mid new had has done → EntersCopy source dest old new had has None
  unmade : (mid : Store) → Finds true source old mid → MakesPlace dest mid new had has false → EntersCopy source dest old new had has None
  after_made : (mid : Store) (opened : Option CopyFrame) → MakesPlaceOf source dest old mid → ListsSource source dest mid new had has opened → EntersCopy source dest old new had has opened

-- memory ran out at one of these calls
pub data IsCutCopy (source dest : PathValue) (old new : Store) : Type 0 where
  at_look : IsCut (metadata_call old.contents source.key) old new → IsCutCopy source dest old new
  at_file : (mid : Store) → Finds false source old mid → IsCut (copy_call mid.contents source.key dest.key) mid new → IsCutCopy source dest old new
  at_place : (mid : Store) → Finds true source old mid → IsCut (create_dir_call mid.contents dest.key) mid new → IsCutCopy source dest old new
  at_listing : (mid : Store) → MakesPlaceOf source dest old mid → IsCut (read_dir_call mid.contents source.key) mid new → IsCutCopy source dest old new

-- ---- a directory's next member

-- the next item of the listing
abbrev pub IsNextOf : CopyFrame → Result DirEntry FsError → Type 0
IsNextOf frame shown = (frame.next < length frame.listing.items) × (get_or frame.listing.items frame.next shown ≡ shown)

-- A member that the store does not list reports the directory and ends its copy: the members after it are not visited. The top destination is
-- skipped. Every other member is entered.
pub data VisitsMember (frame : CopyFrame) (top : Key) (after : CopyFrame) (old new : Store) (had has : List Item) : Option CopyFrame → Type 0 where
  unshown : (e : FsError) → IsNextOf frame (Err e) → new ≡ old → has ≡ had ++ (frame.source, fs_status e) ∷ [] → after ≡ record frame { next = length frame.listing.items }
      → VisitsMember frame top after old new had has None
  skipped : (entry : DirEntry) → IsNextOf frame (Ok entry) → (path_of_entry frame.source entry).key ≡ top → new ≡ old → has ≡ had → after ≡ record frame { next = frame.next + 1 }
      → VisitsMember frame top after old new had has None
  entered : (entry : DirEntry) (opened : Option CopyFrame) → IsNextOf frame (Ok entry) → ((path_of_entry frame.source entry).key ≡ top → ⊥)
      → EntersCopy (path_of_entry frame.source entry) (path_of_entry frame.dest entry) old new had has opened → after ≡ record frame { next = frame.next + 1 }
      → VisitsMember frame top after old new had has opened

-- memory ran out: the store is unchanged, or it ran out while the next member was entered
abbrev pub IsCutMember : CopyFrame → Key → Store → Store → Type 0
IsCutMember frame top old new =
    (new ≡ old) ⊎ ((entry : DirEntry) × IsNextOf frame (Ok entry) × ((path_of_entry frame.source entry).key ≡ top → ⊥) × IsCutCopy (path_of_entry frame.source entry) (path_of_entry frame.dest entry) old new)

-- ---- the whole

-- the copy of this depth came to its end
pub record CopiesWhole (depth : Depth) (source dest : PathValue) (top : Key) (old new : Store) (had has : List Item) : Type 0 where
  pub records : List Logged
  pub recorded : new.log ≡ old.log ++ records
  pub fixed : new.facts ≡ old.facts
  pub names : List Item
  pub added : has ≡ had ++ names
  pub copies : CopiesAll depth source dest top old.contents new.contents records names

-- the copy of this depth was stopped because memory ran out
pub record BreaksOffCopy (depth : Depth) (source dest : PathValue) (top : Key) (old new : Store) (had has : List Item) : Type 0 where
  pub records : List Logged
  pub recorded : new.log ≡ old.log ++ records
  pub fixed : new.facts ≡ old.facts
  pub stops : StopsCopy depth source dest top old.contents new.contents records had has
