use Rattle.std.proofs.Common.{◌∙◌, ap}
use Rattle.dav_store.specs.Locks.{all_reliable}
use Rattle.dav_memls.specs.IndexedLocks.{locks_in}
use Rattle.dav_memls.specs.MemLs.{list_of}
use Rattle.dav_memls.proofs.LockLists.{only_named, distinct-without, compatible-without}
use Rattle.dav_memls.proofs.memory_locks.MemLsDavLockSystem.unlock.Goals as goal

pub invariant_of-self : goal.invariant_of-self
invariant_of-self c =
    let self = c.args.self.now in
    let key = c.args.path.now.key in
    let token = c.args.token.now in
    let only = only_named key token self.locks.locks.entries c.in-Some.number c.in-Some.field-0-1.now self.distinct_tokens self.locks.ordered c.in-Some.ensures.held c.in-Some.ensures.named in
    let rest = c.remove.ensures ∙ only.rest in
    record {
      distinct_tokens = distinct-without key token (list_of self) (locks_in c.remove.new.self) self.distinct_tokens rest;
      compatible = compatible-without key token (list_of self) (locks_in c.remove.new.self) self.compatible rest;
    }

pub returns-clause-removed : goal.returns-clause-removed
returns-clause-removed c =
    let self = c.args.self.now in
    let only = only_named c.args.path.now.key c.args.token.now self.locks.locks.entries c.in-Some.number c.in-Some.field-0-1.now self.distinct_tokens self.locks.ordered c.in-Some.ensures.held c.in-Some.ensures.named in
    record { named = only.has; removed = ap (λ list. record { list = list; reliable = all_reliable }) (c.remove.ensures ∙ only.rest) }
