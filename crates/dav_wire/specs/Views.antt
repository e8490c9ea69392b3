-- What contracts see of frames and replies: the borrowed parts as lists of bytes.
use Rattle.std.specs.Prelude.{ℕ, List, Option, map, option_map, string_bytes}
use denote.Ref.{Bor}
use Rattle.dav_wire.specs.declared.frame.RequestFrame.{RequestFrame}
use Rattle.dav_wire.specs.declared.frame.ReadFrame.{ReadFrame}
use Rattle.dav_wire.specs.declared.frame.ExplainFrame.{ExplainFrame}
use Rattle.dav_wire.specs.declared.frame.UnlockFrame.{UnlockFrame}
use Rattle.dav_wire.specs.declared.frame.ModifiedFrame.{ModifiedFrame}
use Rattle.dav_wire.specs.declared.frame.Frame.{Frame}
use Rattle.dav_wire.specs.declared.frame.Frame.TheVariants as given
use Rattle.dav_wire.specs.declared.reply.ResponseFrame.{ResponseFrame}
use Rattle.dav_wire.specs.declared.reply.FilePart.{FilePart}
use Rattle.dav_wire.specs.declared.reply.HeldFrame.{HeldFrame}
use Rattle.dav_wire.specs.declared.reply.ExplainedFrame.{ExplainedFrame}
use Rattle.dav_wire.specs.declared.reply.LockFrame.{LockFrame}
use Rattle.dav_wire.specs.declared.reply.Reply.{Reply}
use Rattle.dav_wire.specs.declared.reply.Reply.TheVariants as answer
use Rattle.dav_wire.specs.Frames.{RequestValue, ReadValue, ExplainValue, UnlockValue, ModifiedValue, FrameValue}
use Rattle.dav_wire.specs.Frames as frames
use Rattle.dav_wire.specs.Replies.{ResponseValue, PartValue, HeldValue, ExplainedValue, LockValue, ReplyValue}
use Rattle.dav_wire.specs.Replies as replies

-- what an optional reference points to
abbrev pub behind : {A : Type 0} → Option (Bor A) → Option A
behind o = option_map (λ x. x.now) o

-- the name and the value of a header field
abbrev pub field_of : Bor (List ℕ) × Bor (List ℕ) → List ℕ × List ℕ
field_of p = (p.0.now, p.1.now)

-- the number of a body, and the bytes to add to it
abbrev pub addition_of : ℕ × Bor (List ℕ) → ℕ × List ℕ
addition_of p = (p.0, p.1.now)

abbrev pub request_frame_of : RequestFrame → RequestValue
request_frame_of r =
    record {
      method = r.method.now;
      path = r.path.now;
      principal = behind r.principal;
      token = r.token.now;
      fields = map field_of r.fields.items;
      body = r.body;
    }

abbrev pub read_frame_of : ReadFrame → ReadValue
read_frame_of r =
    record {
      principal = behind r.principal;
      path = r.path.now;
      place = r.place;
      length = r.length;
      version = behind r.version;
    }

abbrev pub explain_frame_of : ExplainFrame → ExplainValue
explain_frame_of r = record { principal = behind r.principal; path = r.path.now }

abbrev pub unlock_frame_of : UnlockFrame → UnlockValue
unlock_frame_of r = record { path = r.path.now; token = r.token.now }

abbrev pub modified_frame_of : ModifiedFrame → ModifiedValue
modified_frame_of r = record { path = r.path.now; time = r.time }

abbrev pub frame_of : Frame → FrameValue
frame_of (given.Request r) = frames.Request (request_frame_of r)
frame_of given.StartBody = frames.StartBody
frame_of (given.AddToBody n bytes) = frames.AddToBody n bytes.now
frame_of (given.DropBody n) = frames.DropBody n
frame_of (given.Read r) = frames.Read (read_frame_of r)
frame_of given.NextExpiry = frames.NextExpiry
frame_of given.Held = frames.Held
frame_of given.BeginBackup = frames.BeginBackup
frame_of given.EndBackup = frames.EndBackup
frame_of (given.SetRights rules) = frames.SetRights rules.now
frame_of (given.Explain r) = frames.Explain (explain_frame_of r)
frame_of given.ListLocks = frames.ListLocks
frame_of (given.RemoveLock r) = frames.RemoveLock (unlock_frame_of r)
frame_of (given.SetModified r) = frames.SetModified (modified_frame_of r)

abbrev pub response_frame_of : ResponseFrame → ResponseValue
response_frame_of r =
    record {
      status = r.status;
      close = r.close;
      fields = map field_of r.fields.items;
      tree = behind r.tree;
    }

abbrev pub file_part_of : FilePart → PartValue
file_part_of p =
    record {
      length = p.length;
      modified = p.modified;
      version = behind p.version;
      media_type = p.media_type.now;
      bytes = p.bytes.now;
    }

abbrev pub held_frame_of : HeldFrame → HeldValue
held_frame_of h = record { locks = h.locks; quota = h.quota }

abbrev pub explained_frame_of : ExplainedFrame → ExplainedValue
explained_frame_of x = record { rule = x.rule; list = x.list; read = x.read; write = x.write }

abbrev pub lock_frame_of : LockFrame → LockValue
lock_frame_of l =
    record {
      token = l.token.now;
      path = string_bytes l.path;
      principal = behind l.principal;
      deep = l.deep;
      shared = l.shared;
      expires = l.expires;
    }

abbrev pub reply_of : Reply → ReplyValue
reply_of (answer.Response r) = replies.Response (response_frame_of r)
reply_of (answer.BodyStarted n) = replies.BodyStarted n
reply_of answer.Done = replies.Done
reply_of (answer.Part p) = replies.Part (file_part_of p)
reply_of answer.Collection = replies.Collection
reply_of (answer.NextExpiry t) = replies.NextExpiry t
reply_of (answer.Held h) = replies.Held (held_frame_of h)
reply_of (answer.Failed status) = replies.Failed status
reply_of (answer.Refused reason) = replies.Refused reason.now
reply_of (answer.Explained x) = replies.Explained (explained_frame_of x)
reply_of (answer.Locks ls) = replies.Locks (map lock_frame_of ls.items)
