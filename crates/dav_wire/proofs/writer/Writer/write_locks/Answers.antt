use Rattle.std.proofs.Common.{◌≡◌, length, map, sym, take, arith}
use Rattle.std.proofs.lemmas.List.{length-map, take_all}
use Rattle.dav_wire.specs.Replies.{lock, locks}
use Rattle.dav_wire.specs.Views.{lock_frame_of}
use Rattle.dav_wire.proofs.WriteLemmas.{list_written}
use Rattle.dav_wire.proofs.writer.Writer.write_locks.Goals as goal

pub returns : goal.returns
unfolding locks
returns c =
    let all : take c.loop-lock.lock-index c.args.held.now ≡ c.args.held.now = take_all c.loop-lock.lock-index c.args.held.now (omega arith) in
    list_written lock (map lock_frame_of c.args.held.now) (length c.args.held.now) c.args.self.now c.write_number.new.self c.loop-lock.self
    (sym (length-map c.args.held.now lock_frame_of)) c.in_ok-write_number.ensures (rw all at c.loop-lock.invariant)
