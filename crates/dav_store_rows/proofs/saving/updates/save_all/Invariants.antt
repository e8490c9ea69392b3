use Rattle.std.proofs.Common.{◌≡◌, ◌≤◌, ◌<◌, true}
use Rattle.dav_nodes.specs.Rows.{is_noted}
use Rattle.dav_nodes.specs.declared.changes.Changes.TheVariants.{All}
use Rattle.dav_tree.specs.TreeFs.{entries_of}
use Rattle.dav_store_rows.specs.Updates.{Freshens}
use Rattle.dav_store_rows.proofs.saving.updates.save_all.Given as goal

abbrev pub invariant-numbers : goal.invariant-numbers
invariant-numbers g l =
    Freshens g.M.Medium.body_code (entries_of l.store) (λ n. is_noted All n ≡ true) (λ n. (l.number ≤ n) × (n < l.limit)) l.fn.saved l.fn.changes.items l.saved l.changes.items
