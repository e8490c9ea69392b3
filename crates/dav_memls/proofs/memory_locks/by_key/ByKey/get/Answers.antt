use Rattle.std.specs.Option.{option_copied}
use Rattle.dav_memls.proofs.ByKeys.{got}
use Rattle.dav_memls.proofs.memory_locks.by_key.ByKey.get.Goals as goal

pub returns : goal.returns
returns c = got c.args.key.now c.args.self.now.map.entries (option_copied c.get.result) c.requires c.get.ensures.value
