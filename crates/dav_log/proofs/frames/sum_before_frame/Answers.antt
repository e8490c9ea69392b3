use Rattle.std.proofs.Common.{arith}
use Rattle.dav_log.proofs.FrameLemmas.{within_earlier}
use Rattle.dav_log.proofs.frames.sum_before_frame.Goals as goal

pub frame_of-requires : goal.frame_of-requires
frame_of-requires c = within_earlier _ _ c.args.i _ c.requires (omega arith)
