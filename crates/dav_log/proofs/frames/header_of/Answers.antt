use Rattle.dav_log.proofs.FrameLemmas.{header_is}
use Rattle.dav_log.proofs.frames.header_of.Goals as goal

pub returns-clause-value : goal.returns-clause-value
returns-clause-value c = header_is c.args.log.now
