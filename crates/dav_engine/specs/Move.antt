-- MOVE (RFC 4918, section 9.9): moves a resource, with everything below it, to another path.
use Rattle.std.specs.Prelude.{◌≡◌, ◌⊎◌, List, [], ◌∷◌, ◌++◌, Some, None, is_some, Result, Err}
use Rattle.std.specs.FinMap.{get}
use Rattle.dav_resource.specs.Errors.{fs_status}
use Rattle.dav_key.specs.Key.{Key, parent}
use Rattle.dav_resource.specs.PathText.{PathValue}
use Rattle.dav_resource.specs.declared.profile.Profile.{Profile}
use Rattle.dav_resource.specs.declared.error.DavError.{DavError}
use Rattle.dav_resource.specs.declared.error.DavError.TheVariants.{Memory}
use Rattle.dav_resource.specs.declared.error.FsError.{FsError}
use Rattle.dav_resource.specs.declared.record.Outcome.{Outcome}
use Rattle.dav_resource.specs.declared.record.Outcome.TheVariants.{Granted}
use Rattle.dav_resource.specs.declared.request.DavRequest.{DavRequest}
use Rattle.dav_key.specs.Below.{AreApart}
use Rattle.dav_store.specs.Calls.{IsLawful, error_of, record_of}
use Rattle.dav_store.specs.Logged.{Logged}
use Rattle.dav_store.specs.Store.{Store, Contents, Directory}
use Rattle.dav_store.specs.Transfers.{rename_call, IsRenamedTo}
use Rattle.dav_messages.specs.Multistatus.{Item}
use Rattle.dav_messages.specs.Reply.{Answer}
use Rattle.dav_walks.specs.Deletion.{first_failure}
use Rattle.dav_engine.specs.State.{State}
use Rattle.dav_engine.specs.Delete.{LeavesLocks}
use Rattle.dav_engine.specs.Transferring.{Replaces, ReplacesInPart, source_path, TransferWork}
use Rattle.dav_engine.specs.declared.transfer.Transfer.{Transfer}

-- ---- the one call

-- one `rename` call: it is granted and moves the source with everything below it; or it fails, changes nothing, and the source is reported with its
-- status
pub record RenamesAlone (source destination : PathValue) (old new : Contents) (records : List Logged) (names : List Item) : Type 0 where
  pub outcome : Outcome
  pub called : records ≡ record_of (rename_call old source.key destination.key) outcome ∷ []
  pub lawful : IsLawful (rename_call old source.key destination.key).bar outcome
  pub granted : outcome ≡ Granted → IsRenamedTo source.key destination.key old new × (names ≡ [])
  pub refused : (e : FsError) → error_of outcome ≡ Some e → (new ≡ old) × (names ≡ (source, fs_status e) ∷ [])

-- memory ran out before the call, or after a failed call, before that was reported; nothing changes
abbrev pub RenamesInPart : PathValue → PathValue → Contents → Contents → List Logged → Type 0
RenamesInPart source destination old new records =
    (new ≡ old) × ((records ≡ []) ⊎ ((item : Item) × RenamesAlone source destination old new records (item ∷ [])))

-- The call was made and appended `names` to the reported failures; the result is success if `names` is empty, else the status of the failure. Or
-- memory ran out, and no failure was appended.
abbrev pub RenamesOrStops : PathValue → PathValue → Contents → Contents → List Logged → List Item → List Item → Result (Unit {0}) DavError → Type 0
RenamesOrStops source destination old new records had has answer =
    ((names : List Item) × (has ≡ had ++ names) × RenamesAlone source destination old new records names × (answer ≡ first_failure names))
    ⊎ ((answer ≡ Err Memory) × RenamesInPart source destination old new records × (has ≡ had))

-- the same from store to store: the log gained the records
pub record Renaming (source destination : PathValue) (old new : Store) (had has : List Item) (answer : Result (Unit {0}) DavError) : Type 0 where
  pub records : List Logged
  pub recorded : new.log ≡ old.log ++ records
  pub fixed : new.facts ≡ old.facts
  pub done : RenamesOrStops source destination old.contents new.contents records had has answer

-- ---- the work

-- What the rules have established: the source exists, neither it nor the destination is at or below the other, the parent of the destination is a
-- directory, and `there` is the metadata of the destination, if something exists there.
pub record MayMove (source : Key) (found : Transfer) (contents : Contents) : Type 0 where
  pub source_there : contents.metas source ≡ Some found.meta
  pub apart : AreApart source found.destination.key
  pub above : get contents.tree (parent found.destination.key) ≡ Some Directory
  pub known : contents.metas found.destination.key ≡ found.there

-- the source is renamed by a call that nothing bars; if it does not fail, the locks at or below the source are removed (`LeavesLocks`)
pub record MovesSource (source destination : PathValue) (old : State) (records : List Logged) (names : List Item) (new : State) : Type 0 where
  pub free : (rename_call old.contents source.key destination.key).bar ≡ None
  pub renamed : RenamesAlone source destination old.contents new.contents records names
  pub locks : LeavesLocks names source old new

-- memory ran out before the call, or after it
abbrev pub MovesInPart : PathValue → PathValue → State → List Logged → State → Type 0
MovesInPart source destination old records new = ((records ≡ []) × (new ≡ old)) ⊎ ((names : List Item) × MovesSource source destination old records names new)

-- what exists at the destination is removed; if no failure was reported, the source is moved there
abbrev pub Moves : PathValue → Transfer → State → List Logged → List Item → State → Type 0
Moves source found = Replaces (MovesSource source found.destination) (is_some found.there) found.destination

-- memory ran out in the removal at the destination, in the renaming, or after it
abbrev pub MovesSoFar : PathValue → Transfer → State → List Logged → State → Type 0
MovesSoFar source found = ReplacesInPart (MovesInPart source found.destination) (is_some found.there) found.destination

-- what exists at the destination is removed and the source is moved, as far as the store allows (`Moves`), and the result reports the failures
abbrev pub MoveWork : Profile → DavRequest → Transfer → State → List Logged → Answer → State → Type 0
MoveWork profile request found = TransferWork profile (Moves (source_path request found) found) (source_path request found) found.there

-- what a MOVE leaves when memory runs out
abbrev pub MoveCut : DavRequest → Transfer → State → List Logged → State → Type 0
MoveCut request found = MovesSoFar (source_path request found) found
