use Rattle.std.proofs.Common.{◌∙◌}
use Rattle.dav_memls.proofs.Ascending.{insert_last}
use Rattle.dav_memls.proofs.memory_locks.numbers.Numbers.push.Goals as goal

pub returns-clause-ok : goal.returns-clause-ok
returns-clause-ok c = c.in_ok-insert.ensures.keys ∙ insert_last c.args.number c.args.self.now.set.keys c.requires
