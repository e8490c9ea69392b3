use Rattle.std.proofs.Common.{◌∙◌, sym}
use Rattle.dav_memls.proofs.Expired.{none_expires, first_expires}
use Rattle.dav_memls.proofs.memory_locks.indexed.IndexedLocks.next_expiry.Goals as goal

pub returns-in_err-at : goal.returns-in_err-at
returns-in_err-at c = let self = c.args.self.now in c.from_residual.ensures ∙ sym (none_expires self.index self.locks.entries self.ordered self.indexed c.in_err-at.ensures)

pub returns : goal.returns
returns c = let self = c.args.self.now in sym (first_expires self.index self.locks.entries (c.in_ok-at.at, c.in_ok-at.field-0-1) self.ordered self.indexed c.in_ok-at.ensures)
