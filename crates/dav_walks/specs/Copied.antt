-- COPY (RFC 4918, section 9.8) of each depth: only the resource at the source, or everything below it too.
use Rattle.std.specs.Prelude.{◌≡◌, ◌≢◌, ◌⊎◌, List, [], ◌∷◌, ◌++◌, Option, Some, None, Result, Err, map}
use Rattle.std.specs.FinMap.{get}
use Rattle.dav_key.specs.Key.{Key}
use Rattle.dav_resource.specs.PathText.{PathValue}
use Rattle.dav_resource.specs.Errors.{fs_status}
use Rattle.dav_resource.specs.declared.request.Depth.{Depth}
use Rattle.dav_resource.specs.declared.request.Depth.TheVariants.{Zero}
use Rattle.dav_resource.specs.declared.record.Outcome.{Outcome}
use Rattle.dav_resource.specs.declared.record.Outcome.TheVariants.{Granted, Barred, Refused}
use Rattle.dav_resource.specs.declared.error.FsError.{FsError}
use Rattle.dav_resource.specs.declared.error.FsError.TheVariants.{Exists}
use Rattle.dav_resource.specs.declared.error.DavError.{DavError}
use Rattle.dav_resource.specs.declared.error.DavError.TheVariants.{Memory}
use Rattle.dav_store.specs.Logged.{Logged}
use Rattle.dav_store.specs.Store.{Store, Contents, Node, File, Directory}
use Rattle.dav_store.specs.Calls.{Call, record_of, IsLawful, error_of, metadata_call, create_dir_call, IsMadeAt}
use Rattle.dav_store.specs.Transfers.{copy_call, IsCopiedTo}
use Rattle.dav_messages.specs.Multistatus.{Item}
use Rattle.dav_walks.specs.Deletion.{AreSomeOf, first_failure}
use Rattle.dav_walks.specs.Copying.{CopyStep, logged_step, snapshot, names_of_copy, IsLawfulCopy, CopiesTree}

-- ---- only the resource at the source

-- the call that makes the copy: a directory is made, a file is copied
abbrev pub placing_call : Contents → Key → Key → Call
placing_call old s d = by_node (get old.tree s)
  where
    by_node : Option Node → Call
    by_node (Some Directory) = create_dir_call old d
    by_node (Some (File bytes)) = copy_call old s d
    by_node None = copy_call old s d

abbrev pub IsPlaced : Key → Key → Contents → Contents → Type 0
IsPlaced s d old new = by_node (get old.tree s)
  where
    by_node : Option Node → Type 0
    by_node (Some Directory) = IsMadeAt d old new
    by_node (Some (File bytes)) = IsCopiedTo s d old new
    by_node None = IsCopiedTo s d old new

-- What is reported if that call is not granted: the destination for a directory, else the source. If something exists at a directory's destination
-- (`Exists`), nothing is reported.
abbrev pub refusal_names : PathValue → PathValue → Option Node → FsError → List Item
refusal_names source dest (Some Directory) Exists = []
refusal_names source dest (Some Directory) e = (dest, fs_status e) ∷ []
refusal_names source dest _ e = (source, fs_status e) ∷ []

-- the effect of each outcome of that call, and what is reported
abbrev pub EndsAlone : PathValue → PathValue → Contents → Contents → List Item → Outcome → Type 0
EndsAlone source dest old new names Granted = IsPlaced source.key dest.key old new × (names ≡ [])
EndsAlone source dest old new names (Barred e) = (new ≡ old) × (names ≡ refusal_names source dest (get old.tree source.key) e)
EndsAlone source dest old new names (Refused e) = (new ≡ old) × (names ≡ refusal_names source dest (get old.tree source.key) e)

-- the lookup of the source is granted, and the call that makes the copy follows
pub record PlacesAlone (source dest : PathValue) (old new : Contents) (records : List Logged) (names : List Item) : Type 0 where
  pub outcome : Outcome
  pub called : records ≡ record_of (metadata_call old source.key) Granted ∷ record_of (placing_call old source.key dest.key) outcome ∷ []
  pub there : get old.tree source.key ≢ None
  pub lawful : IsLawful (placing_call old source.key dest.key).bar outcome
  pub ended : EndsAlone source dest old new names outcome

-- the lookup is not granted, the source is reported, and nothing changes
pub record IsUnlookedAlone (source : PathValue) (old new : Contents) (records : List Logged) (names : List Item) : Type 0 where
  pub outcome : Outcome
  pub error : FsError
  pub cause : error_of outcome ≡ Some error
  pub called : records ≡ record_of (metadata_call old source.key) outcome ∷ []
  pub lawful : IsLawful (metadata_call old source.key).bar outcome
  pub same : new ≡ old
  pub named : names ≡ (source, fs_status error) ∷ []

abbrev pub CopiesAlone : PathValue → PathValue → Contents → Contents → List Logged → List Item → Type 0
CopiesAlone source dest old new records names = IsUnlookedAlone source old new records names ⊎ PlacesAlone source dest old new records names

-- ---- either depth

-- the copy of this depth, with these records and these reported items
abbrev pub CopiesAll : Depth → PathValue → PathValue → Key → Contents → Contents → List Logged → List Item → Type 0
CopiesAll Zero source dest top old new records names = CopiesAlone source dest old new records names
CopiesAll depth source dest top old new records names = (steps : List CopyStep) × (records ≡ map (logged_step source.key dest.key) steps) × CopiesTree source dest top old new steps names

-- with Depth 0 nothing was copied yet: at most the lookup was made, and it was granted
abbrev pub IsUnplaced : PathValue → Contents → Contents → List Logged → Type 0
IsUnplaced source old new records = ((records ≡ []) ⊎ (records ≡ record_of (metadata_call old source.key) Granted ∷ [])) × (new ≡ old)

-- a copy that may be incomplete: it was not begun, it was stopped because memory ran out, or it came to its end
abbrev pub CopiesInPart : Depth → PathValue → PathValue → Key → Contents → Contents → List Logged → Type 0
CopiesInPart Zero source dest top old new records = IsUnplaced source old new records ⊎ ((names : List Item) × CopiesAlone source dest old new records names)
CopiesInPart depth source dest top old new records = (steps : List CopyStep) × (records ≡ map (logged_step source.key dest.key) steps) × IsLawfulCopy source.key top dest.key old new steps

-- What such a copy has reported: with Depth 0 nothing, else items that the steps report, each at most as often as they report it. Some may be
-- missing.
abbrev pub CopyNamesInPart : Depth → PathValue → PathValue → Key → Contents → List Logged → List Item → Type 0
CopyNamesInPart Zero source dest top old records names = names ≡ []
CopyNamesInPart depth source dest top old records names =
    (steps : List CopyStep) × (records ≡ map (logged_step source.key dest.key) steps) × AreSomeOf names (names_of_copy source dest (snapshot old.tree source.key top) steps)

-- it was stopped because memory ran out: with Depth 0 nothing was copied, and some reported items may be missing
pub record StopsCopy (depth : Depth) (source dest : PathValue) (top : Key) (old new : Contents) (records : List Logged) (had has : List Item) : Type 0 where
  pub part : CopiesInPart depth source dest top old new records
  pub alone : depth ≡ Zero → new ≡ old
  pub names : List Item
  pub added : has ≡ had ++ names
  pub named : CopyNamesInPart depth source dest top old records names

-- it came to its end and added these items, or it was stopped because memory ran out
abbrev pub CopiesOrStops : Depth → PathValue → PathValue → Key → Contents → Contents → List Logged → List Item → List Item → Result (Unit {0}) DavError → Type 0
CopiesOrStops depth source dest top old new records had has answer =
    ((names : List Item) × (has ≡ had ++ names) × CopiesAll depth source dest top old new records names × (answer ≡ first_failure names))
    ⊎ ((answer ≡ Err Memory) × StopsCopy depth source dest top old new records had has)

-- the same between two stores, with the reported items before it (`had`) and after it (`has`)
pub record Copying (depth : Depth) (source dest : PathValue) (top : Key) (old new : Store) (had has : List Item) (answer : Result (Unit {0}) DavError) : Type 0 where
  pub records : List Logged
  pub recorded : new.log ≡ old.log ++ records
  pub fixed : new.facts ≡ old.facts
  pub done : CopiesOrStops depth source dest top old.contents new.contents records had has answer
