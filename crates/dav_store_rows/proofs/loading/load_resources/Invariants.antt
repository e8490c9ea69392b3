use Rattle.std.proofs.Common.{drop}
use Rattle.dav_nodes.specs.Tree.{Tree}
use Rattle.dav_store_rows.specs.Resources.{Kept}
use Rattle.dav_store_rows.specs.Loads.{AreRowsFor}
use Rattle.dav_store_rows.proofs.Progress.{IsLoading}
use Rattle.dav_store_rows.proofs.loading.load_resources.Given as goal

abbrev pub invariant-rows : goal.invariant-rows
invariant-rows l =
    (tree : Tree Kept) (are : AreRowsFor l.rows tree)
    → IsLoading are.contents tree (drop l.row-index l.rows.resources.items) l.extents l.properties l.values.items
