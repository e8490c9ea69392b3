use Rattle.dav_log.proofs.FrameLemmas.{counts}
use Rattle.dav_log.proofs.frames.count_frames.Goals as goal

pub returns : goal.returns
returns c i = counts c.args.page_size c.args.log.now c.saturating_sub.result i c.saturating_sub.ensures
