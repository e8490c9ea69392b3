use Rattle.std.proofs.Common.{map, take}
use Rattle.dav_wire.specs.Replies.{lock}
use Rattle.dav_wire.specs.Views.{lock_frame_of}
use Rattle.dav_wire.proofs.WriteLemmas.{Run}
use Rattle.dav_wire.proofs.writer.Writer.write_locks.Given as goal

abbrev pub invariant-loop-lock : goal.invariant-loop-lock
invariant-loop-lock l = Run lock (map lock_frame_of (take l.lock-index l.held)) l.initial.self l.self
