use Rattle.dav_memls.proofs.ExpirySets.{removes_one}
use Rattle.dav_memls.proofs.memory_locks.expiries.Expiries.remove.Goals as goal

pub returns-in-Some : goal.returns-in-Some
returns-in-Some c = removes_one c.args.at c.in-Some.at c.args.number c.args.self.now _ c.in-Some.is c.remove.ensures.updates.0
