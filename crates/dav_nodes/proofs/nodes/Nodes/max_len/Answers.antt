use Rattle.std.proofs.Common.{◌≡◌, ◌≤◌, ◌<◌, ℕ, zero, suc, arith, true, List, [], ◌∷◌, length, Option, None, is_some, subst}
use Rattle.std.specs.List.{slice_index_or}
use Rattle.std.specs.Option.{option_map}
use Rattle.std.specs.FinMap as map
use Rattle.slab.specs.Slab.{get}
use Rattle.dav_nodes.specs.Tree.{Tree}
use Rattle.dav_nodes.specs.Links.{value_at, member_at}
use Rattle.dav_nodes.proofs.Counts.{len-at_most}
use Rattle.dav_nodes.proofs.Outcomes.{linked_now}
use Rattle.dav_nodes.proofs.nodes.Nodes.max_len.Goals as goal

-- a slot with something in it is one of the slots
in_range : {A B : Type 0} (f : A → B) (slots : List (Option A)) (n : ℕ) → is_some (option_map f (slice_index_or slots n None)) ≡ true → n < length slots
in_range f [] n some = absurd cc
in_range f (slot ∷ slots) zero some = omega arith
in_range f (slot ∷ slots) (suc n) some = let rest = in_range f slots n some in omega arith

pub returns-clause-len : goal.returns-clause-len
returns-clause-len g c =
    let nodes = get c.self.inside.nodes in
    let held = c.self.inside.tree in
    subst (λ (t : Tree g.row.R.Denot). map.len t.values ≤ c.capacity.result) c.self.view_is
    (len-at_most (value_at nodes) (member_at nodes) held.0 held.1 c.capacity.result (λ n live.
    let below = in_range (λ node. node.value) c.self.inside.nodes.slots n live in omega (arith, below, c.capacity.ensures.slots)))

pub returns-clause-numbers : goal.returns-clause-numbers
returns-clause-numbers g c = λ key number at.
    let linked = linked_now (get c.self.inside.nodes) c.args.self.now c.self.inside.tree c.self.view_is in
    let below = in_range (λ node. node.value) c.self.inside.nodes.slots number (linked.live key number at) in
    omega (arith, below, c.capacity.ensures.slots)
