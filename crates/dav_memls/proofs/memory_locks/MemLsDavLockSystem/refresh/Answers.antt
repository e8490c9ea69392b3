use Rattle.std.proofs.Common.{◌∙◌, ap}
use Rattle.dav_store.specs.LockCalls.{HasDistinctTokens}
use Rattle.dav_store.specs.Locks.{AreCompatible, all_reliable}
use Rattle.dav_memls.specs.IndexedLocks.{locks_in}
use Rattle.dav_memls.specs.MemLs.{list_of}
use Rattle.dav_memls.proofs.LockLists.{either_way, only_named, distinct-refreshed, compatible-refreshed, found-refreshed}
use Rattle.dav_memls.proofs.memory_locks.MemLsDavLockSystem.refresh.Goals as goal

pub invariant_of-self : goal.invariant_of-self
invariant_of-self c =
    let self = c.args.self.now in
    let key = c.args.path.now.key in
    let token = c.args.token.now in
    let only = only_named key token self.locks.locks.entries c.in-Some.number c.in-Some.lock.now self.distinct_tokens self.locks.ordered c.in-Some.ensures.held c.in-Some.ensures.named in
    let changed = only.changed c.args.timeout c.args.now in
    let locks = list_of self in
    let new = locks_in c.refresh-2.new.self in
    record {
      distinct_tokens = either_way c.refresh-2.result HasDistinctTokens locks new _ c.refresh-2.ensures.ok c.refresh-2.ensures.err (distinct-refreshed key token c.args.timeout c.args.now locks _ self.distinct_tokens changed) self.distinct_tokens;
      compatible = either_way c.refresh-2.result AreCompatible locks new _ c.refresh-2.ensures.ok c.refresh-2.ensures.err (compatible-refreshed key token c.args.timeout c.args.now locks _ self.compatible changed) self.compatible;
    }

pub returns-clause-refreshed : goal.returns-clause-refreshed
returns-clause-refreshed c =
    let self = c.args.self.now in
    let key = c.args.path.now.key in
    let token = c.args.token.now in
    let only = only_named key token self.locks.locks.entries c.in-Some.number c.in-Some.lock.now self.distinct_tokens self.locks.ordered c.in-Some.ensures.held c.in-Some.ensures.named in
    record {
      named = found-refreshed key token c.args.timeout c.args.now self.locks.locks.entries c.in-Some.number c.in-Some.lock.now c.in_ok-copy.copy c.refresh.new.self only c.in_ok-copy.ensures c.refresh.ensures;
      refreshed_alone = ap (λ list. record { list = list; reliable = all_reliable }) (c.in_ok-refresh.ensures.ok ∙ only.changed c.args.timeout c.args.now);
    }
