use Rattle.std.proofs.Common.{◌≡◌, ◌++◌, length, reverse}
use Rattle.dav_nodes.specs.Listing.{seen, children, HasFlatNames}
use Rattle.dav_nodes.proofs.nodes.listing.push_members.Given as goal

abbrev pub invariant-loop-name : goal.invariant-loop-name
invariant-loop-name l = record {
  flat : HasFlatNames (seen l.left);
  pushed : children l.key (seen l.left) ++ reverse l.pending.items ≡ children l.initial.key (seen l.initial.left) ++ reverse l.initial.pending.items;
}

abbrev pub decreases-loop-name : goal.decreases-loop-name
decreases-loop-name l = length l.left
