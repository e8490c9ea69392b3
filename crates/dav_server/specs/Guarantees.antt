-- What holds of a list of actions, in one batch or in many: what a PUT wrote is what a later read returns.
use Rattle.std.specs.Prelude.{◌≡◌, ◌≢◌, ◌⊎◌, ℕ, Bool, true, false, List, [], ◌∷◌, ◌++◌, ◌||◌, map, length, flat_map, Option, Some, None, Ok, Err}
use Rattle.std.specs.List.{AllZip, list_any}
use Rattle.dav_key.specs.Key.{Key, is_same_key}
use Rattle.dav_resource.specs.Methods.{method_of}
use Rattle.dav_resource.specs.PathText.{PathValue, read_path}
use Rattle.dav_resource.specs.declared.method.DavMethod.{DavMethod}
use Rattle.dav_resource.specs.declared.method.DavMethod.TheVariants.{Put, Patch, Copy, Move, Delete}
use Rattle.dav_resource.specs.declared.request.DavRequest.{DavRequest}
use Rattle.dav_headers.specs.Range.{content_range_of}
use Rattle.dav_store.specs.BodyCalls.{put_body, stored_bytes}
use Rattle.dav_store.specs.Calls.{Reads, bytes_from}
use Rattle.dav_store.specs.Locks.{is_at_or_below}
use Rattle.dav_store.specs.Store.{Store, Bodies}
use Rattle.dav_messages.specs.Reply.{Answer}
use Rattle.dav_engine.specs.Bounds.{is_at_destination}
use Rattle.dav_engine.specs.Laws.{is_transferred}
use Rattle.dav_engine.specs.Put.{new_bytes}
use Rattle.dav_engine.specs.Settings.{Settings}
use Rattle.dav_wire.specs.Batches.{batch}
use Rattle.dav_wire.specs.Codec.{decode}
use Rattle.dav_wire.specs.Frames.{RequestValue, ReadValue, frame}
use Rattle.dav_wire.specs.Replies.{PartValue, ReplyValue, Part, Failed}
use Rattle.dav_server.specs.Batches.{Exchange}
use Rattle.dav_server.specs.Events.{Action, BodyStarted, BodyExtended, BodyDropped, FileRead, Served, frame_of, reply_of, Acts}
use Rattle.dav_server.specs.Frames.{IsSent}
use Rattle.dav_server.specs.Parts.{IsStoresStatus}
use Rattle.dav_server.specs.State.{Rules, ServerState, settings_at}

-- ---- the actions of exchanges

-- the batch was served: there is one action for each frame, in order, and its reply was sent
pub record ActFor (exchange : Exchange) (actions : List Action) : Type 0 where
  pub status : exchange.answer.status ≡ 200
  pub frames : List (List ℕ)
  pub read : decode batch exchange.content ≡ Some frames
  pub of : map frame_of actions ≡ map (decode frame) frames
  pub sent : AllZip IsSent (map reply_of actions) exchange.answer.replies

-- the batch was not served: there is no action for it
pub record NoneFor (exchange : Exchange) (actions : List Action) : Type 0 where
  pub status : exchange.answer.status ≢ 200
  pub none : actions ≡ []

-- the actions for the batch of an exchange
abbrev pub AreFor : Exchange → List Action → Type 0
AreFor exchange actions = ActFor exchange actions ⊎ NoneFor exchange actions

-- ---- the bodies that the store holds

-- the bodies after an action: one is started without bytes, gets more bytes, or is removed
abbrev pub bodies_by : Action → Bodies → Bodies
bodies_by (BodyStarted (Ok number)) held = put_body held number (Some [])
bodies_by (BodyExtended number more (Ok done)) held = put_body held number (Some (stored_bytes held number ++ more))
bodies_by (BodyExtended number more (Err e)) held = put_body held number None
bodies_by (BodyDropped number) held = put_body held number None
bodies_by action held = held

-- the bodies after these actions
abbrev pub bodies_after : List Action → Bodies → Bodies
bodies_after [] held = held
bodies_after (action ∷ actions) held = bodies_after actions (bodies_by action held)

-- ---- a file that is written and read

-- The request may change a file that exists at the key: it is a PUT or PATCH of the file, a DELETE or MOVE of it or of a collection above it, or a
-- COPY or MOVE with a `Destination` at or above it. A LOCK, MKCOL or PROPPATCH changes no file that exists.
abbrev pub may_rewrite : Option DavMethod → Settings → DavRequest → Key → Bool
may_rewrite (Some Put) settings request key = is_same_key key request.path.key
may_rewrite (Some Patch) settings request key = is_same_key key request.path.key
may_rewrite (Some Delete) settings request key = is_at_or_below key request.path.key
may_rewrite (Some Copy) settings request key = is_at_destination settings request key
may_rewrite (Some Move) settings request key = is_at_or_below key request.path.key || is_at_destination settings request key
may_rewrite _ settings request key = false

-- the action is such a request
abbrev pub rewrites : Settings → Key → Action → Bool
rewrites settings key (Served asked request answer) = may_rewrite (method_of request.method) settings request key
rewrites settings key action = false

-- a PUT of a whole file, answered 201 or 204
pub record WritesWhole (put : DavRequest) (answer : Answer) : Type 0 where
  pub method : method_of put.method ≡ Some Put
  pub no_range : content_range_of put.headers ≡ Ok None
  pub transferred : is_transferred answer ≡ true

-- among these actions, a PUT of a whole file was answered 201 or 204, and the file was read later; no request between them may change it
pub record WritesAndReads (settings : Settings) (actions : List Action) : Type 0 where
  pub before : List Action
  pub frame : RequestValue
  pub put : DavRequest
  pub answer : Answer
  pub between : List Action
  pub asked : ReadValue
  pub reply : ReplyValue
  pub after : List Action
  pub in_order : actions ≡ before ++ Served frame put answer ∷ (between ++ FileRead asked reply ∷ after)
  pub whole : WritesWhole put answer
  pub path : PathValue
  pub read : read_path asked.path settings.prefix ≡ Ok path
  pub same : path.key ≡ put.path.key
  pub unchanged : list_any (rewrites settings put.path.key) between ≡ false

-- the part that was asked for, of a file with these bytes: as many bytes, and as the store says of them
pub record IsPartOf (said : Reads) (bytes : List ℕ) (asked : ReadValue) (part : PartValue) : Type 0 where
  pub whole : part.length ≡ length bytes
  pub count : length part.bytes ≡ length (bytes_from asked.place asked.length bytes)
  pub answer : said.reading bytes asked.place asked.length part.bytes

-- the reply to a read of a file with these bytes: the part that was asked for; or the file has another version than an earlier part (412), the
-- store fails for its own reasons, or memory runs out
abbrev pub IsReplyFrom : Reads → List ℕ → ReadValue → ReplyValue → Type 0
IsReplyFrom said bytes asked (Part part) = IsPartOf said bytes asked part
IsReplyFrom said bytes asked (Failed status) = ((status ≡ 412) × (asked.version ≢ None)) ⊎ IsStoresStatus status
IsReplyFrom said bytes asked _ = ⊥

-- what a PUT among these actions wrote: its body, which may be one that the store held
abbrev pub written_by : (settings : Settings) (actions : List Action) → WritesAndReads settings actions → List ℕ
written_by settings actions h = new_bytes (bodies_after h.before settings.facts.bodies) h.put.body

-- what such a read returns is what such a PUT wrote, as the store says of what it reads, right after that
abbrev pub ReadsBack : {F : Type 0} → (F → Reads) → Settings → List Action → Type 0
ReadsBack {F} says settings actions = (h : WritesAndReads settings actions) → (store : F) × IsReplyFrom (says store) (written_by settings actions h) h.asked h.reply

-- ---- a run

-- the actions of all exchanges, in order
abbrev pub joined : List (List Action) → List Action
joined actions = flat_map (λ each. each) actions

-- the access rights stay as they are, and the store as `Stays` says
pub record IsQuiet (Stays : Store → Store → Type 0) (old new : ServerState) : Type 0 where
  pub store : Stays old.seen.store new.seen.store
  pub rights : new.rights ≡ old.rights

-- the store stays as it is
abbrev pub IsSameStore : Store → Store → Type 0
IsSameStore old new = new ≡ old

-- `Stays` says how the store may differ where no action is done
module _ {F : Type 0} (see_store : F → Store) (says : F → Reads) (Stays : Store → Store → Type 0) where
  -- actions in order; before, between and after them the time, the number of the last batch and the locks may change, and the store as `Stays` says, but
  -- not the access rights
  abbrev pub ActInOrder : Rules → List Action → ServerState → ServerState → Type 0
  ActInOrder rules [] old new = IsQuiet Stays old new
  ActInOrder rules (action ∷ actions) old new =
      (before after : ServerState) × IsQuiet Stays old before × Acts see_store says rules action before after × ActInOrder rules actions after new

  -- the exchanges as one list of actions, for each exchange its own, in which what a PUT wrote is what a later read returns
  pub record AreOneRun (rules : Rules) (exchanges : List Exchange) (old new : ServerState) : Type 0 where
    pub actions : List (List Action)
    pub of : AllZip AreFor exchanges actions
    pub in_order : ActInOrder rules (joined actions) old new
    pub reads_back : ReadsBack says (settings_at rules old.seen) (joined actions)
