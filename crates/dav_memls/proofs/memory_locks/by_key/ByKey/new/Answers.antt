use Rattle.std.proofs.Common.{ap}
use Rattle.dav_memls.specs.KeyEntries.{numbers_in}
use Rattle.dav_memls.proofs.memory_locks.by_key.ByKey.new.Goals as goal

pub returns : goal.returns
returns c = λ key. ap (λ es. numbers_in es key) c.new.ensures.empty
