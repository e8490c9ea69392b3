use Rattle.std.proofs.Common.{◌∙◌, sym, ap, length, arith}
use Rattle.dav_store.specs.Locks.{elsewhere, all_reliable}
use Rattle.dav_memls.specs.IndexedLocks.{locks_in}
use Rattle.dav_memls.proofs.LockLists.{is_gone, elsewhere-all}
use Rattle.dav_memls.proofs.memory_locks.MemLsDavLockSystem.delete.Goals as goal

pub invariant_of-self : goal.invariant_of-self
invariant_of-self c =
    let self = c.loop-below.self in
    let gone = is_gone c.args.path.now.key self.locks.locks.entries c.in-Some.below self.distinct_tokens self.compatible self.locks.ordered c.in-Some.ensures in
    record { distinct_tokens = rw c.remove.ensures gone.distinct; compatible = rw c.remove.ensures gone.compatible }

pub loop-below-smaller : goal.loop-below-smaller
loop-below-smaller c =
    let self = c.loop-below.self in
    let gone = is_gone c.args.path.now.key self.locks.locks.entries c.in-Some.below self.distinct_tokens self.compatible self.locks.ordered c.in-Some.ensures in
    omega (arith, ap length c.remove.ensures, gone.fewer)

pub loop-below-preserved : goal.loop-below-preserved
loop-below-preserved c =
    let self = c.loop-below.self in
    let gone = is_gone c.args.path.now.key self.locks.locks.entries c.in-Some.below self.distinct_tokens self.compatible self.locks.ordered c.in-Some.ensures in
    ap (λ ls. elsewhere ls c.args.path.now.key) c.remove.ensures ∙ gone.elsewhere ∙ c.loop-below.invariant

pub returns-clause-removed : goal.returns-clause-removed
returns-clause-removed c = ap (λ list. record { list = list; reliable = all_reliable }) (sym (elsewhere-all c.args.path.now.key (locks_in c.loop-below.self.locks) c.in_default.ensures) ∙ c.loop-below.invariant)
