-- COPY (RFC 4918, section 9.8): copies a resource and, with Depth infinity, everything below it.
use Rattle.std.specs.Prelude.{◌≡◌, ◌≢◌, true, false, not, ◌||◌, if◌then◌else◌, List, Option, Some, None, is_some}
use Rattle.std.specs.FinMap.{get}
use Rattle.dav_key.specs.Key.{Key, parent}
use Rattle.dav_resource.specs.PathText.{PathValue}
use Rattle.dav_resource.specs.declared.profile.Profile.{Profile}
use Rattle.dav_resource.specs.declared.meta.Meta.{Meta}
use Rattle.dav_resource.specs.declared.request.Depth.{Depth}
use Rattle.dav_resource.specs.declared.request.DavRequest.{DavRequest}
use Rattle.dav_key.specs.Below.{is_at_or_below}
use Rattle.dav_store.specs.Logged.{Logged}
use Rattle.dav_store.specs.Store.{Contents, Directory}
use Rattle.dav_messages.specs.Multistatus.{Item}
use Rattle.dav_messages.specs.Reply.{Answer}
use Rattle.dav_walks.specs.Copied.{CopiesAll, CopiesInPart}
use Rattle.dav_engine.specs.State.{State, LocksStay}
use Rattle.dav_engine.specs.Rules.{depth_or_all, is_directory, is_deep}
use Rattle.dav_engine.specs.Transferring.{Replaces, ReplacesInPart, source_path, TransferWork}
use Rattle.dav_engine.specs.declared.transfer.Transfer.{Transfer}

-- what is removed first: everything at the destination, but with Depth 0 no directory, which may stay
abbrev pub replaced : Depth → Option Meta → Option Meta
replaced depth there = if is_deep depth || not (is_directory there) then there else None

-- What the rules have established: the source exists, and is not the destination nor, unless Depth is 0, below it. The parent of the destination is a
-- directory, and `there` is the metadata of the destination, if something exists there.
pub record MayCopy (depth : Depth) (source : Key) (found : Transfer) (contents : Contents) : Type 0 where
  pub source_there : contents.metas source ≡ Some found.meta
  pub other : source ≢ found.destination.key
  pub apart : is_deep depth ≡ true → is_at_or_below source found.destination.key ≡ false
  pub above : get contents.tree (parent found.destination.key) ≡ Some Directory
  pub known : contents.metas found.destination.key ≡ found.there

-- the source is copied, as far as the store allows, and no lock changes
pub record CopiesSource (depth : Depth) (source destination : PathValue) (old : State) (records : List Logged) (names : List Item) (new : State) : Type 0 where
  pub copied : CopiesAll depth source destination destination.key old.contents new.contents records names
  pub locks : LocksStay old new

-- memory ran out in the copy: what was copied stays, and no lock changes
pub record CopiesSourceInPart (depth : Depth) (source destination : PathValue) (old : State) (records : List Logged) (new : State) : Type 0 where
  pub copied : CopiesInPart depth source destination destination.key old.contents new.contents records
  pub locks : LocksStay old new

-- what exists at the destination is removed (`replaced`); if no failure was reported, the source is copied there
abbrev pub Copies : Depth → PathValue → Transfer → State → List Logged → List Item → State → Type 0
Copies depth source found = Replaces (CopiesSource depth source found.destination) (is_some (replaced depth found.there)) found.destination

-- memory ran out in the removal at the destination, in the copy, or after it
abbrev pub CopiesSoFar : Depth → PathValue → Transfer → State → List Logged → State → Type 0
CopiesSoFar depth source found = ReplacesInPart (CopiesSourceInPart depth source found.destination) (is_some (replaced depth found.there)) found.destination

-- what exists at the destination is removed and the source is copied, as far as the store allows (`Copies`), and the result reports the failures
abbrev pub CopyWork : Profile → DavRequest → Transfer → State → List Logged → Answer → State → Type 0
CopyWork profile request found = TransferWork profile (Copies (depth_or_all request) (source_path request found) found) (source_path request found) found.there

-- what a COPY leaves when memory runs out
abbrev pub CopyCut : DavRequest → Transfer → State → List Logged → State → Type 0
CopyCut request found = CopiesSoFar (depth_or_all request) (source_path request found) found
