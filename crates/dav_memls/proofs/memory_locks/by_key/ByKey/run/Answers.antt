use Rattle.dav_memls.proofs.KeyRuns.{run-from}
use Rattle.dav_memls.proofs.memory_locks.by_key.ByKey.run.Goals as goal

pub returns : goal.returns
returns c = run-from c.args.key.now c.args.self.now c.range.result c.requires c.range.ensures.ordered c.args.self.now.flat (c.range.ensures.between tt) (c.range.ensures.in_range tt).0
