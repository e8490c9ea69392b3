use Rattle.dav_memls.proofs.ExpirySets.{first_is}
use Rattle.dav_memls.proofs.memory_locks.expiries.Expiries.first.Goals as goal

pub returns : goal.returns
returns c = first_is c.args.self.now c.first.result c.copied.result c.copied.ensures c.first.ensures.variant c.first.ensures.member c.first.ensures.least
