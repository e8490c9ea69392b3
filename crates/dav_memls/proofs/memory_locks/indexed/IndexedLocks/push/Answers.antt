use Rattle.std.proofs.Common.{◌∙◌, sym, ap, subst, arith}
use Rattle.std.specs.Map.{values_of}
use Rattle.dav_memls.specs.LockIndex.{Row, IsIndexed, LeavesIndex, are_within}
use Rattle.dav_memls.proofs.KeyTexts.{text_length}
use Rattle.dav_memls.proofs.LockRows.{entries-push, values-push}
use Rattle.dav_memls.proofs.Indexing.{free_token, above_at, unused, indexed_push, indexed_undone}
use Rattle.dav_memls.proofs.Reach.{within_more, within_push}
use Rattle.dav_memls.proofs.memory_locks.indexed.IndexedLocks.push.Goals as goal

pub enter-requires-clause-token : goal.enter-requires-clause-token
enter-requires-clause-token c = let self = c.args.self.now in free_token self.index self.locks.entries c.args.lock.token self.indexed c.requires

pub enter-requires-clause-above : goal.enter-requires-clause-above
enter-requires-clause-above c = let self = c.args.self.now in above_at self.index self.locks.entries c.in-Some.number self.indexed c.in-Some.ensures.above

pub enter-requires-clause-unused : goal.enter-requires-clause-unused
enter-requires-clause-unused c = let self = c.args.self.now in unused self.index self.locks.entries c.in-Some.number self.indexed c.in-Some.ensures.above

pub invariant_of-self-in-Err : goal.invariant_of-self-in-Err
invariant_of-self-in-Err c =
    let self = c.args.self.now in
    let left = subst (λ (row : Row). LeavesIndex row.1 c.in-Some.number c.enter.new.self c.leave.new.self) c.in-Err.ensures.value_returned c.leave.ensures in
    record {
      ordered = c.insert.ensures.ordered;
      indexed = subst (IsIndexed c.leave.new.self) (sym c.in-Err.ensures.err) (indexed_undone self.index c.enter.new.self c.leave.new.self self.locks.entries c.in-Some.number c.args.lock self.ordered c.in-Some.ensures.above self.indexed c.in_ok-enter.ensures.ok left);
      reached = ap (are_within c.max-self.result) c.in-Err.ensures.err ∙ within_more self.reach c.max-self.result self.locks.entries (omega (arith, c.max-self.ensures)) self.reached;
    }

pub invariant_of-self-in_default-insert : goal.invariant_of-self-in_default-insert
invariant_of-self-in_default-insert c =
    let self = c.args.self.now in
    let grown = c.in_default-insert.ensures.entries ∙ entries-push self.locks.entries c.in-Some.number c.args.lock c.in-Some.ensures.above in
    record {
      ordered = c.insert.ensures.ordered;
      indexed = subst (IsIndexed c.enter.new.self) (sym grown) (indexed_push self.index c.enter.new.self self.locks.entries c.in-Some.number c.args.lock c.in-Some.ensures.above self.indexed c.in_ok-enter.ensures.ok);
      reached =
          ap (are_within c.max-self.result) grown
          ∙ within_push c.max-self.result self.locks.entries c.in-Some.number c.args.lock
          (omega (arith, text_length c.of.result.now c.args.lock.path.key c.of.ensures, c.max-self.ensures))
          (within_more self.reach c.max-self.result self.locks.entries (omega (arith, c.max-self.ensures)) self.reached);
    }

pub returns-clause-ok : goal.returns-clause-ok
returns-clause-ok c =
    let rows = c.args.self.now.locks.entries in
    ap values_of (c.in_default-insert.ensures.entries ∙ entries-push rows c.in-Some.number c.args.lock c.in-Some.ensures.above) ∙ values-push rows c.in-Some.number c.args.lock
