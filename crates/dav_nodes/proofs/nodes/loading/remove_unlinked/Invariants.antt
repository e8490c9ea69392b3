use Rattle.std.proofs.Common.{◌≡◌, ℕ, ◌<◌, ◌≤◌}
use Rattle.slab.specs.Slab.{get}
use Rattle.dav_nodes.specs.Loading.{linked_part}
use Rattle.dav_nodes.proofs.nodes.loading.remove_unlinked.Given as goal

abbrev pub invariant-loop-number : goal.invariant-loop-number
invariant-loop-number g l = record {
  done : (n : ℕ) → n < l.number → get l.nodes n ≡ linked_part (get l.initial.nodes) n;
  rest : (n : ℕ) → l.number ≤ n → get l.nodes n ≡ get l.initial.nodes n;
}
