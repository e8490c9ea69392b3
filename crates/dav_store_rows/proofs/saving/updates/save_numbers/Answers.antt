use Rattle.std.proofs.Common.{◌≡◌, sym, subst, true}
use Rattle.std.specs.Ordering.{nat_cmp}
use Rattle.std.specs.Option.{option_map}
use Rattle.std.specs.BTreeSet.{contains}
use Rattle.dav_nodes.specs.Rows.{row_in}
use Rattle.dav_tree.specs.TreeFs.{entries_of}
use Rattle.dav_store_rows.proofs.Updating.{IsLeft, left_next, left_none, freshens_none, freshens_next, freshens_fewer, answered}
use Rattle.dav_store_rows.proofs.saving.updates.save_numbers.Goals as goal

pub numbers-init : goal.numbers-init
numbers-init g c =
    freshens_fewer g.M.Medium.body_code (entries_of c.args.store.now) (λ n. contains nat_cmp c.args.numbers.now n ≡ true) (λ n. contains nat_cmp c.args.numbers.now n ≡ true)
    (IsLeft c.into_iter-number-iterator.result) c.args.saved.now c.args.saved.now c.args.changes.now.items c.args.changes.now.items
    (λ n is. subst (λ keys. IsLeft keys n) (sym c.into_iter-number-iterator.ensures.into_iter_gives.0) is)
    (freshens_none g.M.Medium.body_code (entries_of c.args.store.now) (λ n. contains nat_cmp c.args.numbers.now n ≡ true) c.args.saved.now c.args.changes.now.items)

pub numbers-preserved : goal.numbers-preserved
numbers-preserved g c =
    freshens_next g.M.Medium.body_code (entries_of c.args.store.now) (λ n. contains nat_cmp c.args.numbers.now n ≡ true) (IsLeft c.numbers.number-iterator)
    (IsLeft c.next.new.self) c.in-Some.number.now (option_map row_in c.resource.result)
    c.args.saved.now c.numbers.saved c.save_resource.new.self c.args.changes.now.items c.numbers.changes.items c.save_resource.new.changes.items
    c.numbers.invariant c.in_ok-save_resource.ensures.ok
    (answered g.M.Medium.body_code (entries_of c.args.store.now) c.in-Some.number.now c.resource.result c.resource.ensures.some c.resource.ensures.none)
    (λ other apart is. left_next c.in-Some.number.now c.next.new.self other apart (subst (λ keys. IsLeft keys other) c.in-Some.ensures.steps is))

pub returns : goal.returns
returns g c =
    freshens_fewer g.M.Medium.body_code (entries_of c.args.store.now) (λ n. contains nat_cmp c.args.numbers.now n ≡ true) (IsLeft c.numbers.number-iterator) (λ _. ⊥)
    c.args.saved.now c.numbers.saved c.args.changes.now.items c.numbers.changes.items
    (λ n is. left_none c.numbers.number-iterator n c.in-None.ensures.steps.0 is) c.numbers.invariant
