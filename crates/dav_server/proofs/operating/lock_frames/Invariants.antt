use Rattle.std.proofs.Common.{◌≡◌, map, take}
use Rattle.dav_wire.specs.Views.{lock_frame_of}
use Rattle.dav_server.specs.Operating.{lock_value}
use Rattle.dav_server.proofs.operating.lock_frames.Given as goal

abbrev pub invariant-loop-lock : goal.invariant-loop-lock
invariant-loop-lock l = map lock_frame_of l.frames.items ≡ map lock_value (take l.lock-index l.locks)
