use Rattle.std.proofs.Common.{◌≡◌, Some}
use Rattle.slab.specs.Slab.{get}
use Rattle.dav_nodes.specs.Links.{walk, place, member_at}
use Rattle.dav_nodes.proofs.links.find.Given as goal

abbrev pub invariant-loop-name : goal.invariant-loop-name
invariant-loop-name g l = record {
  can_next : (goal.iterator-loop-name g).can_next l.name-iterator;
  is_finite : (goal.iterator-loop-name g).is_finite l.name-iterator;
  reached : walk (member_at (get l.nodes)) (Some l.number) l.name-iterator ≡ place (member_at (get l.nodes)) l.fn.key;
}
