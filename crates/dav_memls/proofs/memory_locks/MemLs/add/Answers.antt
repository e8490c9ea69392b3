use Rattle.std.proofs.Common.{◌∙◌, sym, true}
use Rattle.dav_store.specs.Locks.{AreCompatible}
use Rattle.dav_store.specs.LockCalls.{HasDistinctTokens}
use Rattle.dav_memls.specs.IndexedLocks.{locks_in}
use Rattle.dav_memls.specs.MemLs.{list_of}
use Rattle.dav_memls.proofs.LockLists.{distinct-push, compatible-push, free_token, either_way}
use Rattle.dav_memls.proofs.memory_locks.MemLs.add.Goals as goal

pub push-requires : goal.push-requires
push-requires c = free_token _ _ _ (sym c.grants.ensures ∙ c.if-not-grants.false)

pub invariant_of-self : goal.invariant_of-self
invariant_of-self c =
    let granted = sym c.grants.ensures ∙ c.if-not-grants.false in
    let locks = list_of c.args.self.now in
    record {
      distinct_tokens = either_way c.push.result HasDistinctTokens locks (locks_in c.push.new.self) _ c.push.ensures.ok c.push.ensures.err (distinct-push true locks _ c.args.self.now.distinct_tokens (free_token _ _ _ granted)) c.args.self.now.distinct_tokens;
      compatible = either_way c.push.result AreCompatible locks (locks_in c.push.new.self) _ c.push.ensures.ok c.push.ensures.err (compatible-push true locks _ granted c.args.self.now.compatible) c.args.self.now.compatible;
    }
