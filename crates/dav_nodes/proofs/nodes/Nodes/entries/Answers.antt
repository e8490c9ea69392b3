use Rattle.std.proofs.Common.{◌≡◌, ◌∙◌, ◌++◌, ◌∷◌, [], Bor, refl, sym, ap, subst, reverse, arith, length, rules}
use Rattle.std.specs.FinMap as fin
use Rattle.slab.specs.Slab.{get}
use Rattle.dav_key.specs.Key.{Key}
use Rattle.dav_nodes.specs.Tree.{Tree}
use Rattle.dav_nodes.specs.Links.{value_at, member_at}
use Rattle.dav_nodes.specs.Listing.{seen, children, HasFlatKeys}
use Rattle.dav_nodes.proofs.Listings.{ArePlaced, upcoming, upcoming_root, placed_root, pending_there, seen_members, placed_after, upcoming_after, flat_members, listed_more, listed_none, root_first}
use Rattle.dav_nodes.proofs.nodes.Nodes.entries.Given.{Over}
use Rattle.dav_nodes.proofs.nodes.Nodes.entries.Goals as goal

pub loop-key-init : goal.loop-key-init
loop-key-init g c =
    let nodes = get c.self.inside.nodes in
    let held = c.self.inside.tree in
    let first : reverse c.push.new.self.items ≡ ([], 0) ∷ [] =
    root_first c.new-pending.result.items c.push.new.self.items c.in_ok-root.field-0 c.in_ok-push.ensures.items c.new-pending.ensures.items c.in_ok-root.ensures in
    record {
      placed = subst (ArePlaced held.0.numbers) (sym first) (placed_root (value_at nodes) (member_at nodes) held.0 held.1);
      listed =
          listed_none {A = Key × Bor g.row.R.Denot} (λ e. (e.0, e.1.now)) c.in_ok-list.list.items (upcoming held.0.values (reverse c.push.new.self.items)) (fin.entries held.0.values)
          c.in_ok-list.ensures.items (ap (upcoming held.0.values) first ∙ upcoming_root (value_at nodes) (member_at nodes) held.0 held.1 0);
    }

pub unreachable-requires : goal.unreachable-requires
unreachable-requires g c =
    pending_there (get c.self.inside.nodes) c.self.inside.tree.0 c.self.inside.tree.1 c.loop-key.pending.items c.pop.new.self.items c.in-Some.key c.in-Some.number
    c.in-Some.ensures.items c.loop-key.invariant.placed (search rules)

pub push_members-requires : goal.push_members-requires
push_members-requires g c =
    let nodes = get c.self.inside.nodes in
    let held = c.self.inside.tree in
    let flat : HasFlatKeys held.0.values = subst (λ (t : Tree g.row.R.Denot). HasFlatKeys t.values) (sym c.self.view_is) c.requires in
    flat_members (value_at nodes) (member_at nodes) held.0 held.1 flat c.in-Some.key (seen c.iter.result)
    (ap seen c.iter.ensures.rest
    ∙ seen_members nodes held.0 held.1 c.loop-key.pending.items c.pop.new.self.items [] c.in-Some.key c.in-Some.number c.in-Some-get.node.now
    c.in-Some.ensures.items c.loop-key.invariant.placed c.in-Some-get.ensures c.iter.ensures.ordered)

-- the keys of the members are pushed
pushed : (g : Over) (c : goal.In_ok-push-2 g) → reverse c.push_members.new.pending.items ≡ children c.in-Some.key (seen c.in-Some-get.node.now.members.entries) ++ reverse c.pop.new.self.items
pushed g c = c.in_ok-push_members.ensures ∙ ap (λ es. children c.in-Some.key (seen es) ++ reverse c.pop.new.self.items) c.iter.ensures.rest

-- the taken key's entry came first
came_first : (g : Over) (c : goal.In_ok-push-2 g)
    → upcoming c.self.inside.tree.0.values (reverse c.loop-key.pending.items) ≡ (c.in-Some.key, c.in-Some-get.node.now.value) ∷ upcoming c.self.inside.tree.0.values (reverse c.push_members.new.pending.items)
came_first g c =
    upcoming_after (get c.self.inside.nodes) c.self.inside.tree.0 c.self.inside.tree.1 c.loop-key.pending.items c.pop.new.self.items c.push_members.new.pending.items
    c.in-Some.key c.in-Some.number c.in-Some-get.node.now c.in-Some.ensures.items c.loop-key.invariant.placed c.in-Some-get.ensures c.iter.ensures.ordered (pushed g c)

pub loop-key-smaller : goal.loop-key-smaller
loop-key-smaller g c = omega (arith, ap length (came_first g c))

pub loop-key-preserved : goal.loop-key-preserved
loop-key-preserved g c = record {
  placed =
      placed_after (get c.self.inside.nodes) c.self.inside.tree.0 c.self.inside.tree.1 c.loop-key.pending.items c.pop.new.self.items c.push_members.new.pending.items
      c.in-Some.key c.in-Some.number c.in-Some-get.node.now c.in-Some.ensures.items c.loop-key.invariant.placed c.in-Some-get.ensures c.iter.ensures.ordered (pushed g c);
  listed =
      listed_more {A = Key × Bor g.row.R.Denot} (λ e. (e.0, e.1.now)) c.loop-key.list.items c.push-in-Some.new.self.items _ (c.in-Some.key, c.in-Some-get.node.now.value)
      (upcoming c.self.inside.tree.0.values (reverse c.loop-key.pending.items)) (upcoming c.self.inside.tree.0.values (reverse c.push_members.new.pending.items)) (fin.entries c.self.inside.tree.0.values)
      c.in_ok-push-2.ensures.items refl (came_first g c) c.loop-key.invariant.listed;
}
