use Rattle.std.proofs.Common.{◌≡◌, ◌+◌, ◌≤◌, ◌++◌, length}
use Rattle.slab.specs.Slab.{get}
use Rattle.dav_nodes.specs.Loading.{StaysLoaded, NoneAttachable}
use Rattle.dav_nodes.proofs.nodes.loading.attach_some.Given as goal

abbrev pub invariant-loop-row : goal.invariant-loop-row
invariant-loop-row g l = record {
  loaded : StaysLoaded (get l.initial.nodes) l.initial.rows.items (get l.nodes) (l.rows.items ++ l.left.items);
  fewer : length l.rows.items + length l.left.items ≤ length l.initial.rows.items;
  stuck : length l.rows.items + length l.left.items ≡ length l.initial.rows.items → NoneAttachable (get l.nodes) l.left.items;
}

abbrev pub decreases-loop-row : goal.decreases-loop-row
decreases-loop-row g l = length l.rows.items
