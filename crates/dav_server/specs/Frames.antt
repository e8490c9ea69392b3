-- Frames served in order, each answered by a reply.
use Rattle.std.specs.Prelude.{◌≡◌, ◌⊎◌, ℕ, List, map, Option, Some, None, ⊤}
use Rattle.std.specs.List.{AllZip}
use Rattle.dav_store.specs.Calls.{Reads}
use Rattle.dav_store.specs.Store.{Store}
use Rattle.dav_wire.specs.Codec.{decode}
use Rattle.dav_wire.specs.Frames.{FrameValue, frame}
use Rattle.dav_wire.specs.Replies.{ReplyValue, reply, Failed}
use Rattle.dav_wire.specs.Writes.{IsEncoding}
use Rattle.dav_server.specs.Events.{Action, frame_of, reply_of, Acts, Happen, events_of}
use Rattle.dav_server.specs.State.{Rules, ServerState, after_expiry}

-- the bytes are the encoding of this reply, or there are none because memory runs out or the reply's tree is too deep
abbrev pub Encodes : ReplyValue → Option (List ℕ) → Type 0
Encodes value None = ⊤
Encodes value (Some bytes) = IsEncoding reply value bytes

-- the bytes are the encoding of this reply; or 507, if memory runs out or the reply's tree is too deep
abbrev pub IsSent : ReplyValue → List ℕ → Type 0
IsSent value bytes = IsEncoding reply value bytes ⊎ IsEncoding reply (Failed 507) bytes

module _ {F : Type 0} (see_store : F → Store) (says : F → Reads) where
  -- an action for this frame (`None`: one that cannot be read), whose reply is encoded
  pub record Reacts (rules : Rules) (frame : Option FrameValue) (old : ServerState) (sent : Option (List ℕ)) (new : ServerState) : Type 0 where
    pub action : Action
    pub of : frame_of action ≡ frame
    pub acts : Acts see_store says rules action old new
    pub encoded : Encodes (reply_of action) sent

  -- the locks that have expired are removed, and then the action for the frame is done
  abbrev pub ServesFrame : Rules → List ℕ → ServerState → Option (List ℕ) → ServerState → Type 0
  ServesFrame rules bytes old sent new = Reacts rules (decode frame bytes) (after_expiry old) sent new

  -- each frame has one action, in order, and each action is answered by its reply
  pub record ServesFrames (rules : Rules) (old : ServerState) (frames replies : List (List ℕ)) (new : ServerState) : Type 0 where
    pub actions : List Action
    pub read : map frame_of actions ≡ map (decode frame) frames
    pub happen : Happen see_store says rules (events_of actions) old new
    pub sent : AllZip IsSent (map reply_of actions) replies
