-- How many levels of elements frames and replies have, and which have too many.
use Rattle.std.specs.Prelude.{ℕ, ◌<◌, Option, Some, None}
use Rattle.dav_resource.specs.Tree.{Tree}
use Rattle.dav_resource.specs.declared.request.ReqBody.{ReqBody}
use Rattle.dav_resource.specs.declared.request.ReqBody.TheVariants as body
use Rattle.dav_wire.specs.TreeLaws.{tree_levels}
use Rattle.dav_wire.specs.Bodies.{request_levels}
use Rattle.dav_wire.specs.Frames.{FrameValue}
use Rattle.dav_wire.specs.Frames as frames
use Rattle.dav_wire.specs.Replies.{ReplyValue, reply_levels}
use Rattle.dav_wire.specs.Replies as replies

abbrev pub body_levels : ReqBody → ℕ
body_levels (body.Tree t) = tree_levels t
body_levels x = 0

abbrev pub frame_levels : FrameValue → ℕ
frame_levels (frames.Request r) = body_levels r.body
frame_levels x = 0

abbrev pub optional_levels : Option Tree → ℕ
optional_levels (Some t) = tree_levels t
optional_levels None = 0

abbrev pub answer_levels : ReplyValue → ℕ
answer_levels (replies.Response r) = optional_levels r.tree
answer_levels x = 0

-- the element of a request's body is deeper than a reader accepts
abbrev pub IsBodyTooDeep : ReqBody → Type 0
IsBodyTooDeep x = request_levels < body_levels x

abbrev pub IsFrameTooDeep : FrameValue → Type 0
IsFrameTooDeep x = request_levels < frame_levels x

-- the element of a response is deeper than a reader accepts
abbrev pub IsTreeTooDeep : Option Tree → Type 0
IsTreeTooDeep o = reply_levels < optional_levels o

abbrev pub IsReplyTooDeep : ReplyValue → Type 0
IsReplyTooDeep x = reply_levels < answer_levels x
