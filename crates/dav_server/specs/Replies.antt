-- What a frame is answered with.
use Rattle.std.specs.Prelude.{◌≡◌, ◌⊎◌, ℕ, Bool, true, false, List, [], map, length, Option, Some, None, Result, Ok, Err, IfOk, IfErr}
use Rattle.std.specs.Option.{option_map_or}
use Rattle.http_header.specs.FieldValue.{FieldValue}
use Rattle.http_header.specs.HeaderMap.{pairs}
use Rattle.dav_resource.specs.Errors.{dav_status, fs_status}
use Rattle.dav_resource.specs.Tree.{Tree}
use Rattle.dav_resource.specs.declared.error.DavError.{DavError}
use Rattle.dav_resource.specs.declared.error.DavError.TheVariants.{StatusClose}
use Rattle.dav_resource.specs.declared.request.Body.{Body}
use Rattle.dav_resource.specs.declared.request.Body.TheVariants as body
use Rattle.dav_messages.specs.Reply.{Answer}
use Rattle.dav_resource.specs.declared.error.FsError.{FsError}
use Rattle.dav_resource.specs.declared.error.FsError.TheVariants.{Memory, NotImplemented}
use Rattle.dav_store.specs.Calls.{IsOwn}
use Rattle.dav_wire.specs.Replies.{ResponseValue, ReplyValue, Held, Failed}
use Rattle.dav_server.specs.State.{ServerState, locks_at}

-- ---- responses

-- the root of a body's tree, if there is one
abbrev pub tree_of : Body → Option Tree
tree_of body.Empty = None
tree_of (body.Tree tree) = Some tree

-- the connection must be closed after a response with this error
abbrev pub is_closing : DavError → Bool
is_closing (StatusClose status) = true
is_closing _ = false

-- the name and the bytes of a header field's value
abbrev pub field_of : List ℕ × FieldValue → List ℕ × List ℕ
field_of field = (field.0, field.1.bytes)

-- the result of a request: a response with its header fields and its tree, or the status of an error with neither
abbrev pub response_of : Answer → ResponseValue
response_of (Ok reply) = record { status = reply.status; close = false; fields = map field_of (pairs reply.headers); tree = tree_of reply.body }
response_of (Err e) = record { status = dav_status e; close = is_closing e; fields = []; tree = None }

-- ---- how much is held

-- the reply with this number of locks and with what the store returned: without a quota if it has none, or with the status of its error
abbrev pub reply_with : ℕ → Result (ℕ × Option ℕ) FsError → ReplyValue
reply_with locks (Ok quota) = Held (record { locks = locks; quota = Some quota })
reply_with locks (Err NotImplemented) = Held (record { locks = locks; quota = None })
reply_with locks (Err e) = Failed (fs_status e)

-- the reply has the number of locks and what a call of `get_quota` returned
pub record IsHeld (state : ServerState) (reply : ReplyValue) : Type 0 where
  pub quota : Result (ℕ × Option ℕ) FsError
  pub returned : IfOk quota (λ q. state.seen.store.contents.quota ≡ Some (record { used = q.0; total = q.1 }))
  pub failed : IfErr quota (λ e. (e ≡ Memory) ⊎ IsOwn e)
  pub is : reply ≡ reply_with (option_map_or length (locks_at state) 0) quota
