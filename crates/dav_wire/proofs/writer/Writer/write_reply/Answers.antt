use Rattle.std.proofs.Common.{refl, true, [], ◌∷◌, map}
use Rattle.std.proofs.lemmas.Bool.{and_from}
use Rattle.dav_wire.specs.Numbers.{byte, number}
use Rattle.dav_wire.specs.Values.{optional, utf8_text}
use Rattle.dav_wire.specs.Levels.{IsTreeTooDeep}
use Rattle.dav_wire.specs.Replies.{reply, response, part, held, explained, locks}
use Rattle.dav_wire.specs.Replies as replies
use Rattle.dav_wire.specs.Views.{response_frame_of, file_part_of, held_frame_of, explained_frame_of, lock_frame_of}
use Rattle.dav_wire.proofs.WriteLemmas.{appends_as, appends_after, writes_unless_after}
use Rattle.dav_wire.proofs.writer.Writer.write_reply.Goals as goal

pub returns-in-Response : goal.returns-in-Response
unfolding reply
returns-in-Response c =
    let x = response_frame_of c.in-Response.response in
    rw c.in-Response.is
    (writes_unless_after (IsTreeTooDeep x.tree) (IsTreeTooDeep x.tree) response reply x (replies.Response x) c.args.self.now c.write_u8.new.self c.write_response.new.self (0 ∷ []) c.write_response.result
    c.in_ok-write_u8-in-Response.ensures.is (λ ok. and_from (response.is_valid x) true ok refl) (λ why. why) refl c.write_response.ensures)

pub returns-in_ok-write_number-in-BodyStarted : goal.returns-in_ok-write_number-in-BodyStarted
unfolding reply
returns-in_ok-write_number-in-BodyStarted c =
    rw c.in-BodyStarted.is
    (appends_after number reply c.in-BodyStarted.number (replies.BodyStarted c.in-BodyStarted.number) c.args.self.now c.write_u8-in-BodyStarted.new.self c.write_number.new.self (1 ∷ [])
    c.in_ok-write_u8-in-BodyStarted.ensures.is (λ ok. and_from (number.is_valid c.in-BodyStarted.number) true ok refl) refl (rw c.as_u64.ensures at c.in_ok-write_number-in-BodyStarted.ensures))

pub returns-in_ok-write_u8-in-Done : goal.returns-in_ok-write_u8-in-Done
unfolding reply
returns-in_ok-write_u8-in-Done c =
    rw c.in-Done.is
    (appends_as byte reply 2 replies.Done c.args.self.now c.write_u8-in-Done.new.self (λ ok. refl) refl c.in_ok-write_u8-in-Done.ensures)

pub returns-in_ok-write_part-in-Part : goal.returns-in_ok-write_part-in-Part
unfolding reply
returns-in_ok-write_part-in-Part c =
    rw c.in-Part.is
    (appends_after part reply (file_part_of c.in-Part.part) (replies.Part (file_part_of c.in-Part.part)) c.args.self.now c.write_u8-in-Part.new.self c.write_part.new.self (3 ∷ [])
    c.in_ok-write_u8-in-Part.ensures.is (λ ok. and_from (part.is_valid (file_part_of c.in-Part.part)) true ok refl) refl c.in_ok-write_part-in-Part.ensures)

pub returns-in_ok-write_u8-in-Collection : goal.returns-in_ok-write_u8-in-Collection
unfolding reply
returns-in_ok-write_u8-in-Collection c =
    rw c.in-Collection.is
    (appends_as byte reply 4 replies.Collection c.args.self.now c.write_u8-in-Collection.new.self (λ ok. refl) refl c.in_ok-write_u8-in-Collection.ensures)

pub returns-in_ok-write_optional_number-in-NextExpiry : goal.returns-in_ok-write_optional_number-in-NextExpiry
unfolding reply
returns-in_ok-write_optional_number-in-NextExpiry c =
    rw c.in-NextExpiry.is
    (appends_after (optional number) reply c.in-NextExpiry.time (replies.NextExpiry c.in-NextExpiry.time) c.args.self.now c.write_u8-in-NextExpiry.new.self c.write_optional_number.new.self (5 ∷ [])
    c.in_ok-write_u8-in-NextExpiry.ensures.is (λ ok. and_from ((optional number).is_valid c.in-NextExpiry.time) true ok refl) refl c.in_ok-write_optional_number-in-NextExpiry.ensures)

pub returns-in_ok-write_held-in-Held : goal.returns-in_ok-write_held-in-Held
unfolding reply
returns-in_ok-write_held-in-Held c =
    rw c.in-Held.is
    (appends_after held reply (held_frame_of c.in-Held.held) (replies.Held (held_frame_of c.in-Held.held)) c.args.self.now c.write_u8-in-Held.new.self c.write_held.new.self (6 ∷ [])
    c.in_ok-write_u8-in-Held.ensures.is (λ ok. and_from (held.is_valid (held_frame_of c.in-Held.held)) true ok refl) refl c.in_ok-write_held-in-Held.ensures)

pub returns-in_ok-write_number-in-Failed : goal.returns-in_ok-write_number-in-Failed
unfolding reply
returns-in_ok-write_number-in-Failed c =
    rw c.in-Failed.is
    (appends_after number reply c.in-Failed.status (replies.Failed c.in-Failed.status) c.args.self.now c.write_u8-in-Failed.new.self c.write_number-in-Failed.new.self (7 ∷ [])
    c.in_ok-write_u8-in-Failed.ensures.is (λ ok. and_from (number.is_valid c.in-Failed.status) true ok refl) refl (rw c.from.ensures at c.in_ok-write_number-in-Failed.ensures))

pub returns-in_ok-write_str-in-Refused : goal.returns-in_ok-write_str-in-Refused
unfolding reply
returns-in_ok-write_str-in-Refused c =
    rw c.in-Refused.is
    (appends_after utf8_text reply c.in-Refused.reason.now (replies.Refused c.in-Refused.reason.now) c.args.self.now c.write_u8-in-Refused.new.self c.write_str.new.self (8 ∷ [])
    c.in_ok-write_u8-in-Refused.ensures.is (λ ok. and_from (utf8_text.is_valid c.in-Refused.reason.now) true ok refl) refl c.in_ok-write_str-in-Refused.ensures)

pub returns-in_ok-write_explained-in-Explained : goal.returns-in_ok-write_explained-in-Explained
unfolding reply
returns-in_ok-write_explained-in-Explained c =
    rw c.in-Explained.is
    (appends_after explained reply (explained_frame_of c.in-Explained.allowed) (replies.Explained (explained_frame_of c.in-Explained.allowed)) c.args.self.now c.write_u8-in-Explained.new.self c.write_explained.new.self (9 ∷ [])
    c.in_ok-write_u8-in-Explained.ensures.is (λ ok. and_from (explained.is_valid (explained_frame_of c.in-Explained.allowed)) true ok refl) refl c.in_ok-write_explained-in-Explained.ensures)

pub returns-in_ok-write_locks-in-Locks : goal.returns-in_ok-write_locks-in-Locks
unfolding reply
returns-in_ok-write_locks-in-Locks c =
    let held = map lock_frame_of c.in-Locks.locks.items in
    rw c.in-Locks.is
    (appends_after locks reply held (replies.Locks held) c.args.self.now c.write_u8-in-Locks.new.self c.write_locks.new.self (10 ∷ [])
    c.in_ok-write_u8-in-Locks.ensures.is (λ ok. and_from (locks.is_valid held) true ok refl) refl (rw c.deref.ensures.value at c.in_ok-write_locks-in-Locks.ensures))
