use Rattle.std.proofs.Common.{◌≡◌, ◌≤◌, ◌<◌, ◌+◌, true, arith}
use Rattle.std.specs.Option.{option_map}
use Rattle.dav_nodes.specs.Rows.{is_noted, row_in}
use Rattle.dav_nodes.specs.declared.changes.Changes.TheVariants.{All}
use Rattle.dav_tree.specs.TreeFs.{entries_of}
use Rattle.dav_store_rows.proofs.Updating.{freshens_below, freshens_next, freshens_fewer, answered}
use Rattle.dav_store_rows.proofs.saving.updates.save_all.Goals as goal

pub numbers-init : goal.numbers-init
numbers-init g c =
    let limit = c.max-limit.ensures in
    let long = c.len.ensures in
    freshens_below g.M.Medium.body_code (entries_of c.args.store.now) (λ n. is_noted All n ≡ true) c.max-limit.result c.args.saved.now c.args.changes.now.items
    (omega arith) (λ number from. c.number_limit.ensures number (omega arith))

pub numbers-preserved : goal.numbers-preserved
numbers-preserved g c =
    freshens_next g.M.Medium.body_code (entries_of c.args.store.now) (λ n. is_noted All n ≡ true) (λ n. (c.numbers.number ≤ n) × (n < c.max-limit.result))
    (λ n. (c.numbers.number + 1 ≤ n) × (n < c.max-limit.result)) c.numbers.number (option_map row_in c.resource.result)
    c.args.saved.now c.numbers.saved c.save_resource.new.self c.args.changes.now.items c.numbers.changes.items c.save_resource.new.changes.items
    c.numbers.invariant c.in_ok-save_resource.ensures.ok
    (answered g.M.Medium.body_code (entries_of c.args.store.now) c.numbers.number c.resource.result c.resource.ensures.some c.resource.ensures.none)
    (λ other apart (from, below). (omega arith, below))

pub returns : goal.returns
returns g c =
    freshens_fewer g.M.Medium.body_code (entries_of c.args.store.now) (λ n. is_noted All n ≡ true) (λ n. (c.numbers.number ≤ n) × (n < c.max-limit.result)) (λ _. ⊥)
    c.args.saved.now c.numbers.saved c.args.changes.now.items c.numbers.changes.items (λ n (from, below). omega arith) c.numbers.invariant
