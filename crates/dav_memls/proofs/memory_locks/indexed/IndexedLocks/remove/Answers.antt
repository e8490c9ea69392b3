use Rattle.std.proofs.Common.{◌∙◌, ap, sym, subst}
use Rattle.dav_memls.specs.LockIndex.{IsIndexed, are_within}
use Rattle.dav_memls.proofs.Indexing.{indexed_remove}
use Rattle.dav_memls.proofs.Reach.{within_removed}
use Rattle.dav_memls.proofs.memory_locks.indexed.IndexedLocks.remove.Goals as goal

pub invariant_of-self : goal.invariant_of-self
invariant_of-self c =
    let self = c.args.self.now in
    record {
      ordered = c.remove.ensures.ordered;
      indexed = subst (IsIndexed c.leave.new.self) (sym c.remove.ensures.entries) (indexed_remove self.index c.leave.new.self self.locks.entries c.args.number c.in-Some.lock self.ordered (sym c.in-Some.ensures.value) self.indexed c.leave.ensures);
      reached = ap (are_within self.reach) c.remove.ensures.entries ∙ within_removed self.reach self.locks.entries c.args.number self.reached;
    }
