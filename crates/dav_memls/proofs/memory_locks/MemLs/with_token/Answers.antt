use Rattle.std.specs.Option.{option_copied}
use Rattle.dav_store.specs.Locks.{has_token}
use Rattle.dav_memls.specs.MemLs.{list_of}
use Rattle.dav_memls.proofs.Expired.{only_found}
use Rattle.dav_memls.proofs.memory_locks.MemLs.with_token.Goals as goal

pub returns : goal.returns
returns c = only_found (has_token c.args.token.now) (option_copied c.with_token.result) (list_of c.args.self.now) c.with_token.ensures
