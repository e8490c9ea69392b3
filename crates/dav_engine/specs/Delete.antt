-- DELETE (RFC 4918, section 9.6): removes a resource and everything below it.
use Rattle.std.specs.Prelude.{◌≡◌, ◌⊎◌, true, List, [], ◌∷◌, Some}
use Rattle.dav_resource.specs.PathText.{PathValue}
use Rattle.dav_resource.specs.declared.profile.Profile.{Profile}
use Rattle.dav_resource.specs.declared.meta.Meta.{Meta}
use Rattle.dav_resource.specs.declared.request.DavRequest.{DavRequest}
use Rattle.dav_store.specs.Logged.{Logged}
use Rattle.dav_messages.specs.Dialogue.{Dialogue, ◌>>=◌}
use Rattle.dav_messages.specs.Multistatus.{Item, multi_answer}
use Rattle.dav_messages.specs.Reply.{Answer}
use Rattle.dav_walks.specs.Deletion.{Removes, RemovesInPart}
use Rattle.dav_engine.specs.State.{State, LocksStay, DropsLocks}
use Rattle.dav_engine.specs.Rules.{judged, must_find, own_conditions, is_permitted, where_permitted, depth_or_all, depth_verdict, fixed_path}

-- ---- the rules

-- in order: the Depth, a lookup of the path that must succeed, the conditions, and the locks that cover the path or are below it (423)
abbrev pub delete_rules : DavRequest → State → Dialogue Meta
delete_rules request state =
    judged (depth_verdict (depth_or_all request)) >>= λ _.
    must_find state.contents request.path.key >>= λ meta.
    own_conditions request state (Some meta) >>= λ _.
    where_permitted 423 (is_permitted request state request.path.key true) meta

-- ---- the work

-- what the result reports: the reported failures or, if there are none, 204 for the path
abbrev pub reported_items : PathValue → List Item → List Item
reported_items path [] = (path, 204) ∷ []
reported_items path (item ∷ names) = item ∷ names

-- if no failure is reported, the locks at or below the path are removed (`DropsLocks`); otherwise the locks are unchanged
abbrev pub LeavesLocks : List Item → PathValue → State → State → Type 0
LeavesLocks [] path old new = DropsLocks path.key old new
LeavesLocks (item ∷ names) path old new = LocksStay old new

-- The resource and, unless Depth is 0, everything below it are removed as far as the store allows. Each failure is reported with its status. The
-- locks are as in `LeavesLocks`.
pub record DeleteWork (profile : Profile) (request : DavRequest) (meta : Meta) (old : State) (records : List Logged) (answer : Answer) (new : State) : Type 0 where
  pub names : List Item
  pub removed : Removes (depth_or_all request) (fixed_path request.path (Some meta)) old.contents new.contents records names
  pub locks : LeavesLocks names request.path old new
  pub answered : answer ≡ multi_answer profile (fixed_path request.path (Some meta)) (reported_items (fixed_path request.path (Some meta)) names)

-- Memory ran out: what was removed stays removed. The locks are unchanged; or the whole removal was done without a failure, and the locks at or below
-- the path are removed too (`DropsLocks`).
pub record DeleteCut (request : DavRequest) (meta : Meta) (old : State) (records : List Logged) (new : State) : Type 0 where
  pub removed : RemovesInPart (depth_or_all request) (fixed_path request.path (Some meta)) old.contents new.contents records
  pub locks : LocksStay old new ⊎ (Removes (depth_or_all request) (fixed_path request.path (Some meta)) old.contents new.contents records [] × DropsLocks request.path.key old new)
