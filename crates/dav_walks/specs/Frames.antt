-- The steps of a deletion that keeps a list of open directories: this project's own choice.
use Rattle.std.specs.Prelude.{◌≡◌, ◌⊎◌, ◌<◌, ◌+◌, ◌&&◌, Bool, true, false, List, [], ◌∷◌, ◌++◌, length, get_or, Option, Some, None, Result, Ok, Err}
use Rattle.dav_key.specs.Key.{Key}
use Rattle.dav_resource.specs.PathText.{PathValue}
use Rattle.dav_resource.specs.PathForms.{member_path}
use Rattle.dav_resource.specs.Errors.{fs_status}
use Rattle.dav_resource.specs.declared.meta.DirEntry.{DirEntry}
use Rattle.dav_resource.specs.declared.error.FsError.{FsError}
use Rattle.dav_resource.specs.declared.request.Depth.{Depth}
use Rattle.dav_store.specs.Logged.{Logged}
use Rattle.dav_store.specs.Store.{Store, Contents}
use Rattle.dav_store.specs.Calls.{Call, Grants, Declines}
use Rattle.dav_store.specs.Members.{IsRemovedAt, remove_file_call, remove_dir_call, read_dir_call, Lists}
use Rattle.dav_messages.specs.Multistatus.{Item}
use Rattle.dav_walks.specs.declared.frame.Frame.{Frame}
use Rattle.dav_walks.specs.declared.frame.Entered.{Entered}
use Rattle.dav_walks.specs.declared.frame.Entered.TheVariants.{Over, Opened}
use Rattle.dav_walks.specs.Deletion.{Removes, StopsRemoval}

-- the call is declined, and the path is reported with the status of the error
pub record NamesRefusal (call : Call) (path : PathValue) (old new : Store) (had has : List Item) : Type 0 where
  pub error : FsError
  pub declined : Declines call error old new
  pub named : has ≡ had ++ (path, fs_status error) ∷ []

-- memory ran out: the store is unchanged, or the call was declined and could not be reported
abbrev pub IsCut : Call → Store → Store → Type 0
IsCut call old new = (new ≡ old) ⊎ ((e : FsError) × Declines call e old new)

-- ---- a removal

-- the call that removes a directory (`true`) or a file
abbrev pub removal_by : Bool → Contents → Key → Call
removal_by true old key = remove_dir_call old key
removal_by false old key = remove_file_call old key

-- the node at the path is removed, or the call is declined and the path reported
abbrev pub RemovesOne : Bool → PathValue → Store → Store → List Item → List Item → Bool → Type 0
RemovesOne dir path old new had has true = Grants (removal_by dir old.contents path.key) (IsRemovedAt path.key) old new × (has ≡ had)
RemovesOne dir path old new had has false = NamesRefusal (removal_by dir old.contents path.key) path old new had has

-- ---- the start of a path's walk

-- the directory is listed, and the walk of its members may begin
pub record OpensFrame (path : PathValue) (old new : Store) (had has : List Item) (frame : Frame) : Type 0 where
  pub lists : Lists path.key old frame.listing.items new
  pub unnamed : has ≡ had
  pub at_path : frame.path ≡ path
  pub first : frame.next ≡ 0
  pub untouched : frame.clean ≡ true

-- the first call on a path: a directory is listed, a file is removed
abbrev pub entering_call : Bool → Contents → Key → Call
entering_call true old key = read_dir_call old key
entering_call false old key = remove_file_call old key

-- A file is removed, or reported. A directory is listed, or reported.
abbrev pub Enters : Bool → PathValue → Store → Store → List Item → List Item → Entered → Type 0
Enters false path old new had has (Over clean) = RemovesOne false path old new had has clean
Enters false path old new had has (Opened frame) = ⊥
Enters true path old new had has (Over clean) = (clean ≡ false) × NamesRefusal (read_dir_call old.contents path.key) path old new had has
Enters true path old new had has (Opened frame) = OpensFrame path old new had has frame

-- the path of a directory's member, with a trailing slash for a directory
abbrev pub path_of_entry : PathValue → DirEntry → PathValue
path_of_entry path entry = record (member_path path entry.name) { slash = entry.meta.dir }

-- ---- a directory's next entry

-- the next item of the listing
abbrev pub IsNext : Frame → Result DirEntry FsError → Type 0
IsNext frame shown = (frame.next < length frame.listing.items) × (get_or frame.listing.items frame.next shown ≡ shown)

-- the directory that was opened, if one was
abbrev pub opened_in : Entered → Option Frame
opened_in (Over clean) = None
opened_in (Opened inner) = Some inner

-- the directory after an entry: it stays clean, unless the member's walk is over and was not clean
abbrev pub passed : Frame → Entered → Frame
passed frame (Over clean) = record frame { next = frame.next + 1; clean = frame.clean && clean }
passed frame (Opened inner) = record frame { next = frame.next + 1 }

-- A member that the store does not list reports the directory. Every other member is entered.
abbrev pub VisitsShown : Result DirEntry FsError → Frame → Frame → Store → Store → List Item → List Item → Option Frame → Type 0
VisitsShown (Err e) frame after old new had has opened =
    (opened ≡ None) × (new ≡ old) × (has ≡ had ++ (frame.path, fs_status e) ∷ []) × (after ≡ record frame { next = frame.next + 1; clean = false })
VisitsShown (Ok entry) frame after old new had has opened =
    (entered : Entered) × Enters entry.meta.dir (path_of_entry frame.path entry) old new had has entered × (opened ≡ opened_in entered) × (after ≡ passed frame entered)

-- the next entry is visited, and this may open a directory
abbrev pub Visits : Frame → Frame → Store → Store → List Item → List Item → Option Frame → Type 0
Visits frame after old new had has opened = (shown : Result DirEntry FsError) × IsNext frame shown × VisitsShown shown frame after old new had has opened

-- memory ran out: the store is unchanged, or it ran out at the first call on the next member
abbrev pub IsCutNext : Frame → Store → Store → Type 0
IsCutNext frame old new = (new ≡ old) ⊎ ((entry : DirEntry) × IsNext frame (Ok entry) × IsCut (entering_call entry.meta.dir old.contents (path_of_entry frame.path entry).key) old new)

-- ---- the end of a directory's walk

-- a directory in which something failed is not removed, and no call is made
abbrev pub Closes : Bool → PathValue → Store → Store → List Item → List Item → Bool → Type 0
Closes false path old new had has removed = (removed ≡ false) × (new ≡ old) × (has ≡ had)
Closes true path old new had has removed = RemovesOne true path old new had has removed

-- ---- the whole

-- the deletion of this depth came to its end
pub record RemovesAll (depth : Depth) (path : PathValue) (old new : Store) (had has : List Item) : Type 0 where
  pub records : List Logged
  pub recorded : new.log ≡ old.log ++ records
  pub fixed : new.facts ≡ old.facts
  pub names : List Item
  pub added : has ≡ had ++ names
  pub removes : Removes depth path old.contents new.contents records names

-- the deletion of this depth was stopped because memory ran out
pub record BreaksOff (depth : Depth) (path : PathValue) (old new : Store) (had has : List Item) : Type 0 where
  pub records : List Logged
  pub recorded : new.log ≡ old.log ++ records
  pub fixed : new.facts ≡ old.facts
  pub stops : StopsRemoval depth path old.contents new.contents records had has
