use Rattle.std.proofs.Common.{◌≡◌, ℕ, ◌-◌, ◌≤◌, None}
use denote.Param.Always.{always_mut}
use Rattle.slab.specs.Slab.{get, slab_len}
use Rattle.dav_nodes.specs.Loading.{linked_part}
use Rattle.dav_nodes.proofs.nodes.loading.unlinked.Given as goal

abbrev pub invariant-slots : goal.invariant-slots
invariant-slots g l = record {
  callable : always_mut g.F.FnMut l.initial.filler → always_mut g.F.FnMut l.filler;
  room : l.bound ≤ l.nodes.capacity;
  none : (n : ℕ) → linked_part (get l.nodes) n ≡ None;
}

abbrev pub decreases-slots : goal.decreases-slots
decreases-slots g l = l.nodes.capacity - slab_len l.nodes
