-- Which failures the response to a DELETE, a MOVE or a COPY reports, read from the log (RFC 4918, sections 9.6.1, 9.8.5, 9.9.4 and 13). `records` are
-- the records of the request in the log, in order.
use Rattle.std.specs.Prelude.{◌≡◌, Bool, true, false, not, ◌&&◌, ◌||◌, if◌then◌else◌, List, [], ◌∷◌, ◌++◌, filter_map, option_map, Option, Some, None, Ok, IsPermutation}
use Rattle.std.specs.FinMap.{get}
use Rattle.std.specs.List.{cons_option}
use Rattle.dav_resource.specs.Errors.{fs_status}
use Rattle.dav_key.specs.Key.{Key, parent}
use Rattle.dav_resource.specs.PathText.{PathValue}
use Rattle.dav_resource.specs.declared.profile.Profile.{Profile}
use Rattle.dav_resource.specs.declared.error.FsError.{FsError}
use Rattle.dav_resource.specs.declared.error.FsError.TheVariants.{Exists}
use Rattle.dav_resource.specs.declared.record.Op.{Op}
use Rattle.dav_resource.specs.declared.record.Op.TheVariants.{Metadata, CreateDir, Copy, Rename, Entry}
use Rattle.dav_resource.specs.declared.record.Outcome.{Outcome}
use Rattle.dav_resource.specs.declared.request.Depth.{Depth}
use Rattle.dav_resource.specs.declared.request.Depth.TheVariants.{Zero}
use Rattle.dav_resource.specs.declared.request.DavRequest.{DavRequest}
use Rattle.dav_headers.specs.Destination.{destination_of}
use Rattle.dav_key.specs.Below.{is_at_or_below}
use Rattle.dav_store.specs.Calls.{error_of}
use Rattle.dav_store.specs.Logged.{Logged}
use Rattle.dav_store.specs.Store.{Tree}
use Rattle.dav_messages.specs.Dialogue.{Passed, LeadsTo}
use Rattle.dav_messages.specs.Multistatus.{Item, multi_answer}
use Rattle.dav_messages.specs.Reply.{Reply, Answer}
use Rattle.dav_walks.specs.Copying.{is_directory_node}
use Rattle.dav_walks.specs.Deletion.{path_at, named_path, is_call}
use Rattle.dav_engine.specs.Delete.{reported_items}
use Rattle.dav_engine.specs.Rules.{depth_or_all, fixed_path}
use Rattle.dav_engine.specs.Settings.{Settings}
use Rattle.dav_engine.specs.State.{State}
use Rattle.dav_engine.specs.Transferring.{transfer_rules, transferred_items}
use Rattle.dav_engine.specs.declared.transfer.Transfer.{Transfer}

-- ---- one record

-- the key in a record; in that of a copy or a rename, the key of the source
abbrev pub first_key : List Key → Key
first_key [] = []
first_key (key ∷ keys) = key

-- this path with the status of the error, if the call was not granted
abbrev pub failure : PathValue → Outcome → Option Item
failure path outcome = option_map (λ e. (path, fs_status e)) (error_of outcome)

-- the path of the request, with a trailing slash if a directory is at it
abbrev pub own_path : DavRequest → State → PathValue
own_path request old = fixed_path request.path (old.contents.metas request.path.key)

-- ---- the response

-- The response reports each of these failures once, in some order, and nothing else. `shown` says what it reports if there are none.
pub record Reports (profile : Profile) (path : PathValue) (failures : List Item) (shown : List Item → List Item) (reply : Reply) : Type 0 where
  pub names : List Item
  pub each : IsPermutation failures names
  pub answered : multi_answer profile path (shown names) ≡ Ok reply

-- ---- DELETE

-- a lookup
abbrev pub is_lookup : Op → Bool
is_lookup Metadata = true
is_lookup _ = false

-- Each call that was not granted, except a lookup, is reported by the path of its key. A member that the store did not list (`Entry`) is reported by
-- the path of the directory above it (`named_path`).
abbrev pub removal_item : PathValue → Logged → Option Item
removal_item path call = if is_lookup call.op then None else failure (named_path path call.op (first_key call.keys)) call.outcome

-- a response to a DELETE reports the failures of the removal, or 204 if there are none
abbrev pub DeleteReports : Settings → DavRequest → State → List Logged → Answer → Type 0
DeleteReports settings request old records answer =
    let path = own_path request old in
    (reply : Reply) → answer ≡ Ok reply → Reports settings.profile path (filter_map (removal_item path) records) (reported_items path) reply

-- ---- MOVE

abbrev pub is_rename : Op → Bool
is_rename Rename = true
is_rename _ = false

-- the rename, if it was not granted, is reported by the path of the source; the removal of what was at the destination as in a DELETE
abbrev pub move_item : PathValue → PathValue → Logged → Option Item
move_item source destination call = if is_rename call.op then failure source call.outcome else removal_item destination call

-- what a response to a MOVE reports: these failures or, if there are none, 204 or 201
pub record IsMoveReport (settings : Settings) (request : DavRequest) (old : State) (records : List Logged) (reply : Reply) : Type 0 where
  pub destination : PathValue
  pub named : destination_of request.headers settings.prefix ≡ Ok destination
  pub reports :
      Reports settings.profile (own_path request old) (filter_map (move_item (own_path request old) destination) records)
      (transferred_items (own_path request old) (old.contents.metas destination.key)) reply

abbrev pub MoveReports : Settings → DavRequest → State → List Logged → Answer → Type 0
MoveReports settings request old records answer = (reply : Reply) → answer ≡ Ok reply → IsMoveReport settings request old records reply

-- ---- COPY

-- the key that is reported: of a member that the store did not list, that of the directory above it
abbrev pub reported_key : Op → Key → Key
reported_key Entry key = parent key
reported_key _ key = key

-- the call is on the destination or below it; a lookup and the copy of a file count as calls on the source
abbrev pub is_destination_call : PathValue → Op → Key → Bool
is_destination_call destination Metadata key = false
is_destination_call destination Copy key = false
is_destination_call destination op key = is_at_or_below (reported_key op key) destination.key

-- a member of a directory at the source or below it that the store did not list
abbrev pub is_unlisted : PathValue → Logged → Bool
is_unlisted destination call = not (is_call call.op) && not (is_destination_call destination call.op (first_key call.keys))

-- with Depth 0, to make a directory where something exists is no failure
abbrev pub is_excused : Op → Depth → Option FsError → Bool
is_excused CreateDir Zero (Some Exists) = true
is_excused _ _ _ = false

-- `tree` is what the store had before the request
module _ (depth : Depth) (source destination : PathValue) (tree : Tree) where
  -- by which path a call is reported: at the destination as in a DELETE, at the source with a trailing slash if a directory was there
  abbrev pub copy_path : Op → Key → PathValue
  copy_path op key =
      if is_destination_call destination op key then named_path destination op key
      else path_at source (is_directory_node (get tree (reported_key op key))) (reported_key op key)

  -- Each call that was not granted is reported. Of unlisted members one behind another only the first is (`after_unlisted`: the record before is of such a
  -- member).
  abbrev pub copy_item : Bool → Logged → Option Item
  copy_item after_unlisted call =
      if is_excused call.op depth (error_of call.outcome) || (after_unlisted && is_unlisted destination call) then None
      else failure (copy_path call.op (first_key call.keys)) call.outcome

  abbrev pub copy_items : Bool → List Logged → List Item
  copy_items after_unlisted [] = []
  copy_items after_unlisted (call ∷ calls) = cons_option (copy_item after_unlisted call) (copy_items (is_unlisted destination call) calls)

-- what a response to a COPY reports: the failures in the records behind those of the rules (`rest`) or, if there are none, 204 or 201
pub record IsCopyReport (settings : Settings) (request : DavRequest) (old : State) (records : List Logged) (reply : Reply) : Type 0 where
  pub head : List Logged
  pub rest : List Logged
  pub cut : records ≡ head ++ rest
  pub found : Transfer
  pub passed : LeadsTo (transfer_rules false settings request old) head (Passed found)
  pub named : destination_of request.headers settings.prefix ≡ Ok found.destination
  pub reports :
      Reports settings.profile (own_path request old) (copy_items (depth_or_all request) (own_path request old) found.destination old.contents.tree false rest)
      (transferred_items (own_path request old) (old.contents.metas found.destination.key)) reply

abbrev pub CopyReports : Settings → DavRequest → State → List Logged → Answer → Type 0
CopyReports settings request old records answer = (reply : Reply) → answer ≡ Ok reply → IsCopyReport settings request old records reply
