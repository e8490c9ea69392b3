-- What a server does, one event after the other. What each event does is this project's own choice, except that requests are served by the engine.
use Rattle.std.specs.Prelude.{◌≡◌, ◌⊎◌, ℕ, true, false, List, [], ◌∷◌, flat_map, Option, Some, None, Result, Ok, Err}
use Rattle.std.specs.Option.{option_map_or}
use Rattle.dav_key.specs.Key.{Key}
use Rattle.dav_resource.specs.Errors.{dav_status, fs_status}
use Rattle.dav_resource.specs.Methods.{method_of}
use Rattle.dav_resource.specs.PathText.{PathValue, read_path}
use Rattle.dav_resource.specs.declared.error.DavError.{DavError}
use Rattle.dav_resource.specs.declared.error.DavError.TheVariants.{Memory, Status}
use Rattle.dav_resource.specs.declared.error.FsError.{FsError}
use Rattle.dav_resource.specs.declared.request.DavRequest.{DavRequest}
use Rattle.dav_store.specs.Calls.{Reads}
use Rattle.dav_store.specs.BodyCalls.{StartsBody, AddsToBody, with_body}
use Rattle.dav_store.specs.Store.{Store, AreTagged}
use Rattle.dav_memls.specs.Expiry.{earliest_expiry}
use Rattle.dav_access.specs.Reading.{RevealsOnly, sight_by}
use Rattle.dav_rights.specs.Access.{explanation_by, rights_under}
use Rattle.dav_rights.specs.declared.rule.Rule.{Rule}
use Rattle.dav_rights.specs.declared.rules.WrittenRule.{WrittenRule}
use Rattle.dav_rules.specs.Rules.{HasRules, HasNoRules}
use Rattle.dav_messages.specs.Reply.{Answer}
use Rattle.dav_engine.specs.State.{Seen}
use Rattle.dav_engine.specs.Step.{Serves}
use Rattle.dav_wire.specs.Frames.{RequestValue, ReadValue, ExplainValue, UnlockValue, ModifiedValue, FrameValue}
use Rattle.dav_wire.specs.Frames as frames
use Rattle.dav_wire.specs.Replies.{ReplyValue, ExplainedValue}
use Rattle.dav_wire.specs.Replies as replies
use Rattle.dav_server.specs.Operating.{ListsLocks, RemovesAsked, ChangesAsked}
use Rattle.dav_server.specs.Owners.{is_forbidden}
use Rattle.dav_server.specs.Parts.{ReadsFile}
use Rattle.dav_server.specs.Replies.{response_of, IsHeld}
use Rattle.dav_server.specs.Requests.{IsRequest, IsUnfit}
use Rattle.dav_server.specs.State.{Rules, ServerState, seen_for, seen_at_rest, settings_at, locks_at, with_store, after_expiry}

-- what is done for a frame
pub data Action : Type 0 where
  -- the frame cannot be read
  Malformed : Action
  -- memory runs out before anything is called
  OutOfMemory : Option FrameValue → Action
  -- a body is started, gets more bytes (or is removed, if it does not), or is removed
  BodyStarted : Result ℕ FsError → Action
  BodyExtended : ℕ → List ℕ → Result (Unit {0}) FsError → Action
  BodyDropped : ℕ → Action
  -- a part of a file is read
  FileRead : ReadValue → ReplyValue → Action
  -- the time of the next expiry is returned, and how much is held
  ExpiryReturned : Option ℕ → Action
  HeldReturned : ReplyValue → Action
  -- a backup begins, or ends
  BackupBegun : Action
  BackupEnded : Action
  -- the access rules of this text are to be served by
  RightsRead : List ℕ → ReplyValue → Action
  -- what the access rules allow is explained
  RightsExplained : ExplainValue → ReplyValue → Action
  -- the locks are returned, a lock is removed, or a resource gets another time of modification
  LocksListed : ReplyValue → Action
  LockRemoved : UnlockValue → ReplyValue → Action
  ModifiedSet : ModifiedValue → ReplyValue → Action
  -- a request is rejected before the engine, or served by the engine
  Rejected : RequestValue → DavError → Action
  Served : RequestValue → DavRequest → Answer → Action

-- expired locks are removed, or a frame's action is done
pub data Event : Type 0 where
  LocksExpired : Event
  Does : Action → Event

-- ---- the frame of an action, and its reply

-- the frame, if it can be read
abbrev pub frame_of : Action → Option FrameValue
frame_of Malformed = None
frame_of (OutOfMemory frame) = frame
frame_of (BodyStarted result) = Some frames.StartBody
frame_of (BodyExtended number more result) = Some (frames.AddToBody number more)
frame_of (BodyDropped number) = Some (frames.DropBody number)
frame_of (FileRead asked reply) = Some (frames.Read asked)
frame_of (ExpiryReturned time) = Some frames.NextExpiry
frame_of (HeldReturned reply) = Some frames.Held
frame_of BackupBegun = Some frames.BeginBackup
frame_of BackupEnded = Some frames.EndBackup
frame_of (RightsRead text reply) = Some (frames.SetRights text)
frame_of (RightsExplained asked reply) = Some (frames.Explain asked)
frame_of (LocksListed reply) = Some frames.ListLocks
frame_of (LockRemoved asked reply) = Some (frames.RemoveLock asked)
frame_of (ModifiedSet asked reply) = Some (frames.SetModified asked)
frame_of (Rejected frame e) = Some (frames.Request frame)
frame_of (Served frame request answer) = Some (frames.Request frame)

-- the reply to `start_body` and to `add_to_body`
abbrev pub started_reply : Result ℕ FsError → ReplyValue
started_reply (Ok number) = replies.BodyStarted number
started_reply (Err e) = replies.Failed (fs_status e)

abbrev pub extended_reply : Result (Unit {0}) FsError → ReplyValue
extended_reply (Ok done) = replies.Done
extended_reply (Err e) = replies.Failed (fs_status e)

-- the reply
abbrev pub reply_of : Action → ReplyValue
reply_of Malformed = replies.Failed 400
reply_of (OutOfMemory frame) = replies.Failed 507
reply_of (BodyStarted result) = started_reply result
reply_of (BodyExtended number more result) = extended_reply result
reply_of (BodyDropped number) = replies.Done
reply_of (FileRead asked reply) = reply
reply_of (ExpiryReturned time) = replies.NextExpiry time
reply_of (HeldReturned reply) = reply
reply_of BackupBegun = replies.Done
reply_of BackupEnded = replies.Done
reply_of (RightsRead text reply) = reply
reply_of (RightsExplained asked reply) = reply
reply_of (LocksListed reply) = reply
reply_of (LockRemoved asked reply) = reply
reply_of (ModifiedSet asked reply) = reply
reply_of (Rejected frame e) = replies.Response (response_of (Err e))
reply_of (Served frame request answer) = replies.Response (response_of answer)

-- ---- what an action does

-- bytes are added to a body; if that fails, the body is removed, so that no request can use it without these bytes
abbrev pub AddsPiece : ℕ → List ℕ → Store → Result (Unit {0}) FsError → Store → Type 0
AddsPiece number more store (Ok done) after = AddsToBody number more store (Ok done) after
AddsPiece number more store (Err e) after = AddsToBody number more store (Err e) store × (after ≡ with_body store number None)

-- a call of the store on a body, which changes nothing else
pub record OnStore (Change : Store → Store → Type 0) (old new : ServerState) : Type 0 where
  pub change : Change old.seen.store new.seen.store
  pub same : new ≡ with_store old new.seen.store

-- the access rules are those of the text; or it has none, or memory runs out, and nothing changes
abbrev pub ReadsRights : List ℕ → ReplyValue → ServerState → ServerState → Type 0
ReadsRights text replies.Done old new = (rules : List WrittenRule) × HasRules text rules × (new ≡ record old { rights = Some rules })
ReadsRights text (replies.Refused reason) old new = HasNoRules text × (new ≡ old)
ReadsRights text (replies.Failed status) old new = (status ≡ 507) × (new ≡ old)
ReadsRights text _ old new = ⊥

-- what these rules allow at a key, and the number of the rule that decides
abbrev pub explained_by : Option (List Rule) → Key → ExplainedValue
explained_by rights key =
    let is = explanation_by rights key in
    record { rule = is.rule; list = is.allowed.list; read = is.allowed.read; write = is.allowed.write }

-- the reply to such a question; its path may be no path of this server, which has the status of that error; or memory runs out (507)
abbrev pub Explains : Result PathValue DavError → Option (List WrittenRule) → ExplainValue → ReplyValue → Type 0
Explains (Ok path) rights asked reply = (reply ≡ replies.Explained (explained_by (rights_under rights asked.principal) path.key)) ⊎ (reply ≡ replies.Failed 507)
Explains (Err e) rights asked reply = (reply ≡ replies.Failed (dav_status e)) ⊎ (reply ≡ replies.Failed 507)

-- the request of the frame names a lock of another principal, or is for a lock that the access rights do not allow
pub record AsksForbidden (rules : Rules) (state : ServerState) (frame : RequestValue) : Type 0 where
  pub request : DavRequest
  pub is : IsRequest rules.prefix state.now frame request
  pub forbidden : is_forbidden rules state request ≡ true

-- why a request is rejected before the engine: memory runs out, the frame carries no request, or it asks what is forbidden (403)
abbrev pub IsRejected : Rules → ServerState → RequestValue → DavError → Type 0
IsRejected rules state frame e = (e ≡ Memory) ⊎ IsUnfit rules.prefix frame e ⊎ ((e ≡ Status 403) × AsksForbidden rules state frame)

-- the engine serves the request (`Serves`) on what its principal sees of the store, which reveals to it nothing else than its rules let it see (`RevealsOnly`);
-- each entity tag then begins as the facts of the store say; and the log is emptied
pub record Executes (rules : Rules) (request : DavRequest) (answer : Answer) (old new : ServerState) : Type 0 where
  pub after : Seen
  pub served : Serves (method_of request.method) (settings_at rules (seen_for old request.principal)) (seen_for old request.principal) request answer after
  pub reveals : RevealsOnly (sight_by (rights_under old.rights request.principal)) (settings_at rules (seen_for old request.principal)) (seen_for old request.principal) (request ∷ []) (answer ∷ []) after
  pub tagged : AreTagged after.store
  pub emptied : new ≡ record old { seen = seen_at_rest after }

-- the request of the frame, at the server's time, asks nothing that is forbidden, and is executed
pub record ServesRequest (rules : Rules) (frame : RequestValue) (request : DavRequest) (answer : Answer) (old new : ServerState) : Type 0 where
  pub is : IsRequest rules.prefix old.now frame request
  pub allowed : is_forbidden rules old request ≡ false
  pub executes : Executes rules request answer old new

-- a request is rejected before the engine and nothing changes, or the engine serves it
abbrev pub AnswersRequest : Rules → RequestValue → ServerState → Answer → ServerState → Type 0
AnswersRequest rules frame old answer new =
    ((e : DavError) × (answer ≡ Err e) × (new ≡ old) × IsRejected rules old frame e)
    ⊎ ((request : DavRequest) × ServesRequest rules frame request answer old new)

-- `see_store` and `says` are what contracts see of the store, and what it says of its reads
module _ {F : Type 0} (see_store : F → Store) (says : F → Reads) where
  abbrev pub Acts : Rules → Action → ServerState → ServerState → Type 0
  Acts rules Malformed old new = new ≡ old
  Acts rules (OutOfMemory frame) old new = new ≡ old
  Acts rules (BodyStarted result) old new = OnStore (λ store after. StartsBody store result after) old new
  Acts rules (BodyExtended number more result) old new = OnStore (λ store after. AddsPiece number more store result after) old new
  Acts rules (BodyDropped number) old new = new ≡ with_store old (with_body old.seen.store number None)
  Acts rules (FileRead asked reply) old new = (new ≡ old) × ReadsFile see_store says rules old asked reply
  Acts rules (ExpiryReturned time) old new = (new ≡ old) × (time ≡ option_map_or earliest_expiry (locks_at old) None)
  Acts rules (HeldReturned reply) old new = (new ≡ old) × IsHeld old reply
  Acts rules BackupBegun old new = new ≡ old
  Acts rules BackupEnded old new = new ≡ old
  Acts rules (RightsRead text reply) old new = ReadsRights text reply old new
  Acts rules (RightsExplained asked reply) old new = (new ≡ old) × Explains (read_path asked.path rules.prefix) old.rights asked reply
  Acts rules (LocksListed reply) old new = (new ≡ old) × ListsLocks old reply
  Acts rules (LockRemoved asked reply) old new = RemovesAsked (read_path asked.path rules.prefix) asked old reply new
  Acts rules (ModifiedSet asked reply) old new = ChangesAsked (read_path asked.path rules.prefix) asked old reply new
  Acts rules (Rejected frame e) old new = (new ≡ old) × IsRejected rules old frame e
  Acts rules (Served frame request answer) old new = ServesRequest rules frame request answer old new

  -- ---- events in order

  abbrev pub Happens : Rules → Event → ServerState → ServerState → Type 0
  Happens rules LocksExpired old new = new ≡ after_expiry old
  Happens rules (Does action) old new = Acts rules action old new

  -- one after the other
  abbrev pub Happen : Rules → List Event → ServerState → ServerState → Type 0
  Happen rules [] old new = new ≡ old
  Happen rules (event ∷ events) old new = (mid : ServerState) × Happens rules event old mid × Happen rules events mid new

-- the events of frames: before each action, the locks that have expired are removed
abbrev pub events_of : List Action → List Event
events_of actions = flat_map (λ action. LocksExpired ∷ Does action ∷ []) actions
