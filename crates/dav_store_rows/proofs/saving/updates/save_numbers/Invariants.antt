use Rattle.std.proofs.Common.{◌≡◌, true}
use Rattle.std.specs.Ordering.{nat_cmp}
use Rattle.std.specs.BTreeSet.{contains}
use Rattle.dav_tree.specs.TreeFs.{entries_of}
use Rattle.dav_store_rows.specs.Updates.{Freshens}
use Rattle.dav_store_rows.proofs.Updating.{IsLeft}
use Rattle.dav_store_rows.proofs.saving.updates.save_numbers.Given as goal

abbrev pub invariant-numbers : goal.invariant-numbers
invariant-numbers g l =
    Freshens g.M.Medium.body_code (entries_of l.store) (λ n. contains nat_cmp l.numbers n ≡ true) (IsLeft l.number-iterator) l.fn.saved l.fn.changes.items l.saved l.changes.items
