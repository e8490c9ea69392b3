use Rattle.std.proofs.Common.{◌∙◌, ap, is_some}
use Rattle.dav_store.specs.Locks.{has_token}
use Rattle.dav_memls.proofs.LockRows.{some_number}
use Rattle.dav_memls.proofs.memory_locks.indexed.IndexedLocks.has_token.Goals as goal

pub returns : goal.returns
returns c =
    let self = c.args.self.now in
    c.is_some.ensures ∙ ap is_some c.number.ensures ∙ some_number (has_token c.args.token.now) self.locks.entries _ (self.indexed.tokens c.args.token.now)
