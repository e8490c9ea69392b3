use Rattle.std.proofs.Common.{◌∙◌}
use Rattle.dav_memls.proofs.Ascending.{remove_is}
use Rattle.dav_memls.proofs.memory_locks.numbers.Numbers.remove.Goals as goal

pub returns : goal.returns
returns c = c.remove.ensures.keys ∙ remove_is c.args.number c.args.self.now.set.keys c.args.self.now.rising
