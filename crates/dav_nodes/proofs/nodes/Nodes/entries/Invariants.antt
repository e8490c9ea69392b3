use Rattle.std.proofs.Common.{◌≡◌, ◌++◌, length, map, reverse}
use Rattle.std.specs.FinMap.{entries}
use Rattle.dav_nodes.proofs.Listings.{upcoming, ArePlaced}
use Rattle.dav_nodes.proofs.nodes.Nodes.entries.Given as goal

abbrev pub invariant-loop-key : goal.invariant-loop-key
invariant-loop-key g l = record {
  placed : ArePlaced l.self-inside.tree.0.numbers (reverse l.pending.items);
  listed : map (λ e. (e.0, e.1.now)) l.list.items ++ upcoming l.self-inside.tree.0.values (reverse l.pending.items) ≡ entries l.self-inside.tree.0.values;
}

abbrev pub decreases-loop-key : goal.decreases-loop-key
decreases-loop-key g l = length (upcoming l.self-inside.tree.0.values (reverse l.pending.items))
