use Rattle.std.proofs.Common.{true}
use Rattle.dav_memls.specs.declared.memory_locks.index.Register.TheVariants.{All}
use Rattle.dav_memls.proofs.BelowLooks.{Tells}
use Rattle.dav_memls.proofs.memory_locks.indexed.IndexedLocks.some_below.Given as goal

abbrev pub invariant-loop-own : goal.invariant-loop-own
invariant-loop-own l = record {
  can : (goal.iterator-loop-own).can_next l.own-iterator;
  ends : (goal.iterator-loop-own).is_finite l.own-iterator;
  left : Tells All (λ lock. true) l.path.key l.self.locks.entries l.own-iterator;
}
