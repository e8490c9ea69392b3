use Rattle.std.proofs.Common.{length}
use Rattle.slab.specs.Slab.{get}
use Rattle.dav_nodes.specs.Loading.{StaysLoaded}
use Rattle.dav_nodes.proofs.nodes.loading.attach_all.Given as goal

abbrev pub invariant-passes : goal.invariant-passes
invariant-passes g l = StaysLoaded (get l.initial.nodes) l.initial.rows.items (get l.nodes) l.rows.items

abbrev pub decreases-passes : goal.decreases-passes
decreases-passes g l = length l.rows.items
