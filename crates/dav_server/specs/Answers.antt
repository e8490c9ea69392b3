-- The answers of batches, as contracts see them.
use Rattle.std.specs.Prelude.{ℕ, List, [], ◌∷◌, map, Option, Some, None, Vec}
use Rattle.std.specs.declared.alloc.Global.{Global}
use Rattle.dav_server.specs.Batches.{BatchAnswer}
use Rattle.dav_server.specs.declared.batch.BatchReply.{BatchReply}

-- the bytes that are sent for a reply that cannot be encoded: a failure with status 507
abbrev pub not_encoded : List ℕ
not_encoded = 7 ∷ 0 ∷ 0 ∷ 0 ∷ 0 ∷ 0 ∷ 0 ∷ 1 ∷ 251 ∷ []

-- the bytes that are sent for a reply
abbrev pub sent_bytes : Option (Vec ℕ Global) → List ℕ
sent_bytes (Some bytes) = bytes.items
sent_bytes None = not_encoded

abbrev pub answer_of : BatchReply → BatchAnswer
answer_of reply = record { number = reply.number; status = reply.status; replies = map sent_bytes reply.replies.items }
