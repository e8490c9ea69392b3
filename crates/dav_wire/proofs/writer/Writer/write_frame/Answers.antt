use Rattle.std.proofs.Common.{refl, true, [], ◌∷◌}
use Rattle.std.proofs.lemmas.Bool.{and_from}
use Rattle.dav_wire.specs.Numbers.{byte, number}
use Rattle.dav_wire.specs.Values.{utf8_text}
use Rattle.dav_wire.specs.Frames.{frame, request, read, explain, unlock, modified, add}
use Rattle.dav_wire.specs.Frames as frames
use Rattle.dav_wire.specs.Levels.{IsBodyTooDeep}
use Rattle.dav_wire.specs.Views.{request_frame_of, read_frame_of, explain_frame_of, unlock_frame_of, modified_frame_of}
use Rattle.dav_wire.proofs.WriteLemmas.{appends_as, appends_after, writes_unless_after}
use Rattle.dav_wire.proofs.writer.Writer.write_frame.Goals as goal

pub returns-in-Request : goal.returns-in-Request
unfolding frame
returns-in-Request c =
    let x = request_frame_of c.in-Request.request in
    rw c.in-Request.is
    (writes_unless_after (IsBodyTooDeep x.body) (IsBodyTooDeep x.body) request frame x (frames.Request x) c.args.self.now c.write_u8.new.self c.write_request.new.self (0 ∷ []) c.write_request.result
    c.in_ok-write_u8-in-Request.ensures.is (λ ok. and_from (request.is_valid x) true ok refl) (λ why. why) refl c.write_request.ensures)

pub returns-in_ok-write_u8-in-StartBody : goal.returns-in_ok-write_u8-in-StartBody
unfolding frame
returns-in_ok-write_u8-in-StartBody c =
    rw c.in-StartBody.is
    (appends_as byte frame 1 frames.StartBody c.args.self.now c.write_u8-in-StartBody.new.self (λ ok. refl) refl c.in_ok-write_u8-in-StartBody.ensures)

pub returns-in_ok-write_addition-in-AddToBody : goal.returns-in_ok-write_addition-in-AddToBody
unfolding frame
returns-in_ok-write_addition-in-AddToBody c =
    rw c.in-AddToBody.is
    (appends_after add frame (c.in-AddToBody.number, c.in-AddToBody.bytes.now) (frames.AddToBody c.in-AddToBody.number c.in-AddToBody.bytes.now) c.args.self.now c.write_u8-in-AddToBody.new.self c.write_addition.new.self (2 ∷ [])
    c.in_ok-write_u8-in-AddToBody.ensures.is (λ ok. and_from (add.is_valid (c.in-AddToBody.number, c.in-AddToBody.bytes.now)) true ok refl) refl (rw c.as_u64.ensures at c.in_ok-write_addition-in-AddToBody.ensures))

pub returns-in_ok-write_number-in-DropBody : goal.returns-in_ok-write_number-in-DropBody
unfolding frame
returns-in_ok-write_number-in-DropBody c =
    rw c.in-DropBody.is
    (appends_after number frame c.in-DropBody.number (frames.DropBody c.in-DropBody.number) c.args.self.now c.write_u8-in-DropBody.new.self c.write_number.new.self (3 ∷ [])
    c.in_ok-write_u8-in-DropBody.ensures.is (λ ok. and_from (number.is_valid c.in-DropBody.number) true ok refl) refl (rw c.as_u64-in-DropBody.ensures at c.in_ok-write_number-in-DropBody.ensures))

pub returns-in_ok-write_read-in-Read : goal.returns-in_ok-write_read-in-Read
unfolding frame
returns-in_ok-write_read-in-Read c =
    rw c.in-Read.is
    (appends_after read frame (read_frame_of c.in-Read.part) (frames.Read (read_frame_of c.in-Read.part)) c.args.self.now c.write_u8-in-Read.new.self c.write_read.new.self (4 ∷ [])
    c.in_ok-write_u8-in-Read.ensures.is (λ ok. and_from (read.is_valid (read_frame_of c.in-Read.part)) true ok refl) refl c.in_ok-write_read-in-Read.ensures)

pub returns-in_ok-write_u8-in-NextExpiry : goal.returns-in_ok-write_u8-in-NextExpiry
unfolding frame
returns-in_ok-write_u8-in-NextExpiry c =
    rw c.in-NextExpiry.is
    (appends_as byte frame 5 frames.NextExpiry c.args.self.now c.write_u8-in-NextExpiry.new.self (λ ok. refl) refl c.in_ok-write_u8-in-NextExpiry.ensures)

pub returns-in_ok-write_u8-in-Held : goal.returns-in_ok-write_u8-in-Held
unfolding frame
returns-in_ok-write_u8-in-Held c =
    rw c.in-Held.is
    (appends_as byte frame 6 frames.Held c.args.self.now c.write_u8-in-Held.new.self (λ ok. refl) refl c.in_ok-write_u8-in-Held.ensures)

pub returns-in_ok-write_u8-in-BeginBackup : goal.returns-in_ok-write_u8-in-BeginBackup
unfolding frame
returns-in_ok-write_u8-in-BeginBackup c =
    rw c.in-BeginBackup.is
    (appends_as byte frame 7 frames.BeginBackup c.args.self.now c.write_u8-in-BeginBackup.new.self (λ ok. refl) refl c.in_ok-write_u8-in-BeginBackup.ensures)

pub returns-in_ok-write_u8-in-EndBackup : goal.returns-in_ok-write_u8-in-EndBackup
unfolding frame
returns-in_ok-write_u8-in-EndBackup c =
    rw c.in-EndBackup.is
    (appends_as byte frame 8 frames.EndBackup c.args.self.now c.write_u8-in-EndBackup.new.self (λ ok. refl) refl c.in_ok-write_u8-in-EndBackup.ensures)

pub returns-in_ok-write_str-in-SetRights : goal.returns-in_ok-write_str-in-SetRights
unfolding frame
returns-in_ok-write_str-in-SetRights c =
    rw c.in-SetRights.is
    (appends_after utf8_text frame c.in-SetRights.rules.now (frames.SetRights c.in-SetRights.rules.now) c.args.self.now c.write_u8-in-SetRights.new.self c.write_str.new.self (9 ∷ [])
    c.in_ok-write_u8-in-SetRights.ensures.is (λ ok. and_from (utf8_text.is_valid c.in-SetRights.rules.now) true ok refl) refl c.in_ok-write_str-in-SetRights.ensures)

pub returns-in_ok-write_question-in-Explain : goal.returns-in_ok-write_question-in-Explain
unfolding frame
returns-in_ok-write_question-in-Explain c =
    rw c.in-Explain.is
    (appends_after explain frame (explain_frame_of c.in-Explain.question) (frames.Explain (explain_frame_of c.in-Explain.question)) c.args.self.now c.write_u8-in-Explain.new.self c.write_question.new.self (10 ∷ [])
    c.in_ok-write_u8-in-Explain.ensures.is (λ ok. and_from (explain.is_valid (explain_frame_of c.in-Explain.question)) true ok refl) refl c.in_ok-write_question-in-Explain.ensures)

pub returns-in_ok-write_u8-in-ListLocks : goal.returns-in_ok-write_u8-in-ListLocks
unfolding frame
returns-in_ok-write_u8-in-ListLocks c =
    rw c.in-ListLocks.is
    (appends_as byte frame 11 frames.ListLocks c.args.self.now c.write_u8-in-ListLocks.new.self (λ ok. refl) refl c.in_ok-write_u8-in-ListLocks.ensures)

pub returns-in_ok-write_unlock-in-RemoveLock : goal.returns-in_ok-write_unlock-in-RemoveLock
unfolding frame
returns-in_ok-write_unlock-in-RemoveLock c =
    rw c.in-RemoveLock.is
    (appends_after unlock frame (unlock_frame_of c.in-RemoveLock.asked) (frames.RemoveLock (unlock_frame_of c.in-RemoveLock.asked)) c.args.self.now c.write_u8-in-RemoveLock.new.self c.write_unlock.new.self (12 ∷ [])
    c.in_ok-write_u8-in-RemoveLock.ensures.is (λ ok. and_from (unlock.is_valid (unlock_frame_of c.in-RemoveLock.asked)) true ok refl) refl c.in_ok-write_unlock-in-RemoveLock.ensures)

pub returns-in_ok-write_modified-in-SetModified : goal.returns-in_ok-write_modified-in-SetModified
unfolding frame
returns-in_ok-write_modified-in-SetModified c =
    rw c.in-SetModified.is
    (appends_after modified frame (modified_frame_of c.in-SetModified.asked) (frames.SetModified (modified_frame_of c.in-SetModified.asked)) c.args.self.now c.write_u8-in-SetModified.new.self c.write_modified.new.self (13 ∷ [])
    c.in_ok-write_u8-in-SetModified.ensures.is (λ ok. and_from (modified.is_valid (modified_frame_of c.in-SetModified.asked)) true ok refl) refl c.in_ok-write_modified-in-SetModified.ensures)
