use Rattle.std.proofs.Common.{None}
use Rattle.std.proofs.lemmas.Map.Text.{hash_map_updates_text}
use Rattle.std.specs.HashMap.{get_by_text}
use Rattle.dav_memls.proofs.Entering.{left_index}
use Rattle.dav_memls.proofs.Indexing.{token_leaves}
use Rattle.dav_memls.proofs.memory_locks.index.LockIndex.leave.Goals as goal

pub returns : goal.returns
returns c =
    let old = c.args.self.now in
    left_index c.args.lock.now c.args.number old _ _ c.shared-key.ensures.key_is
    (λ t. token_leaves c.args.lock.now c.as_str.result.now t (get_by_text old.tokens t) (get_by_text c.remove.new.self t) c.as_str.ensures (hash_map_updates_text c.as_str.result.now old.tokens c.remove.new.self None c.remove.ensures.updates t))
    c.leave.ensures c.leave_if.ensures c.leave_if-2.ensures c.remove-2.ensures
