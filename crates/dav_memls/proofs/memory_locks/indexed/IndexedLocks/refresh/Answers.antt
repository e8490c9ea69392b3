use Rattle.std.proofs.Common.{◌∙◌, refl, sym, ap, subst, nat_cmp}
use Rattle.std.proofs.lemmas.Map.Steps.{set_value_same}
use Rattle.std.specs.BTreeMap.{is_at, values}
use Rattle.std.specs.Map.{values_of, set_value}
use Rattle.dav_memls.specs.LockIndex.{IsIndexed, MovesInIndex, are_within}
use Rattle.dav_memls.proofs.LockRows.{refreshed_value, refreshed_absent}
use Rattle.dav_memls.proofs.Indexing.{indexed_kept, indexed_refreshed}
use Rattle.dav_memls.proofs.Entering.{always_err}
use Rattle.dav_memls.proofs.Reach.{within_set}
use Rattle.dav_memls.proofs.memory_locks.indexed.IndexedLocks.refresh.Goals as goal

pub invariant_of-self : goal.invariant_of-self
invariant_of-self c =
    let self = c.args.self.now in
    let written = c.get_mut.follows.holds c.in-Some.lock.now in
    let same = written.0 ∙ set_value_same (is_at (nat_cmp c.args.number)) self.locks.entries c.in-Some.lock.now (sym c.in-Some.ensures.value) in
    record {
      ordered = written.4;
      indexed = subst (IsIndexed c.refresh.new.self) (sym same) (indexed_kept self.index c.refresh.new.self self.locks.entries self.indexed c.in_err-refresh.ensures.err);
      reached = ap (are_within self.reach) same ∙ self.reached;
    }

pub returns-in_err-refresh-clause-err : goal.returns-in_err-refresh-clause-err
returns-in_err-refresh-clause-err c =
    let self = c.args.self.now in
    let written = c.get_mut.follows.holds c.in-Some.lock.now in
    always_err c.from_residual.result (ap values_of (written.0 ∙ set_value_same (is_at (nat_cmp c.args.number)) self.locks.entries c.in-Some.lock.now (sym c.in-Some.ensures.value)))

pub invariant_of-self-in-Some : goal.invariant_of-self-in-Some
invariant_of-self-in-Some c =
    let self = c.args.self.now in
    let written = c.get_mut.follows.holds c.refresh-in-Some.new.self in
    let set = written.0 ∙ ap (set_value (is_at (nat_cmp c.args.number)) self.locks.entries) c.refresh-in-Some.ensures in
    let moves = subst (λ due. MovesInIndex due c.args.number self.index c.refresh.new.self) c.timeout_end.ensures c.in_ok-refresh.ensures.ok in
    record {
      ordered = written.4;
      indexed = subst (IsIndexed c.refresh.new.self) (sym set) (indexed_refreshed self.index c.refresh.new.self self.locks.entries c.args.number c.args.timeout c.args.now c.in-Some.lock.now (sym c.in-Some.ensures.value) self.indexed moves);
      reached = ap (are_within self.reach) set ∙ within_set self.reach self.locks.entries c.args.number c.in-Some.lock.now _ (sym c.in-Some.ensures.value) refl self.reached;
    }

pub returns-in_ok-refresh-clause-ok : goal.returns-in_ok-refresh-clause-ok
returns-in_ok-refresh-clause-ok c =
    let self = c.args.self.now in
    let written = c.get_mut.follows.holds c.refresh-in-Some.new.self in
    ap values_of (written.0 ∙ ap (set_value (is_at (nat_cmp c.args.number)) self.locks.entries) c.refresh-in-Some.ensures)
    ∙ refreshed_value c.args.number c.args.timeout c.args.now self.locks.entries c.in-Some.lock.now self.ordered (sym c.in-Some.ensures.value)

pub returns-in_default-clause-ok : goal.returns-in_default-clause-ok
returns-in_default-clause-ok c = ap values c.get_mut.follows.holds-at-none ∙ sym (refreshed_absent c.args.number c.args.timeout c.args.now c.args.self.now.locks.entries (sym c.in_default.ensures.value))
