use Rattle.dav_memls.proofs.Expired.{none_expired, not_yet}
use Rattle.dav_memls.proofs.memory_locks.indexed.IndexedLocks.expired.Goals as goal

pub returns-in_err-at : goal.returns-in_err-at
returns-in_err-at c = let self = c.args.self.now in rw c.from_residual.ensures (none_expired c.args.now self.index self.locks.entries self.ordered self.indexed c.in_err-at.ensures)

pub returns-else-at-now : goal.returns-else-at-now
returns-else-at-now c = let self = c.args.self.now in not_yet c.args.now self.index self.locks.entries (c.in_ok-at.at, c.in_ok-at.number) self.ordered self.indexed c.in_ok-at.ensures c.if-at-now.false
