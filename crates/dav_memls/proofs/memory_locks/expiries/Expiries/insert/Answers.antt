use Rattle.dav_memls.proofs.ExpirySets.{adds_one}
use Rattle.dav_memls.proofs.memory_locks.expiries.Expiries.insert.Goals as goal

pub returns-in_ok-insert-clause-ok : goal.returns-in_ok-insert-clause-ok
returns-in_ok-insert-clause-ok c = adds_one c.args.at c.in-Some.at c.args.number c.args.self.now _ c.in-Some.is c.in_ok-insert.ensures.updates.0
