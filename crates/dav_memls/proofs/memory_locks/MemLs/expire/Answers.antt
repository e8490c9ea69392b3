use Rattle.std.proofs.Common.{not, sym, subst}
use Rattle.dav_store.specs.LockCalls.{HasDistinctTokens}
use Rattle.dav_store.specs.LockLaws.{compatible_filtered}
use Rattle.dav_store.specs.Locks.{AreCompatible}
use Rattle.dav_memls.specs.Expiry.{has_expired}
use Rattle.dav_memls.specs.MemLs.{list_of}
use Rattle.dav_memls.proofs.LockLists.{distinct-filter}
use Rattle.dav_memls.proofs.memory_locks.MemLs.expire.Goals as goal

pub invariant_of-self : goal.invariant_of-self
invariant_of-self c =
    let self = c.args.self.now in
    record {
      distinct_tokens = subst HasDistinctTokens (sym c.expire.ensures) (distinct-filter (λ lock. not (has_expired c.args.now lock)) (list_of self) self.distinct_tokens);
      compatible = subst AreCompatible (sym c.expire.ensures) (compatible_filtered (λ lock. not (has_expired c.args.now lock)) (list_of self) self.compatible);
    }
