use Rattle.std.proofs.Common.{◌≡◌, ◌<◌, ◌^◌, ◌∙◌, ℕ, length, arith, List, [], ◌∷◌, ◌++◌, map, Some, sym, ap, subst}
use Rattle.std.specs.List.{All}
use Rattle.std.specs.FinMap as fin
use Rattle.std.specs.Option.{unwrap_or}
use Rattle.slab.specs.Slab.{get}
use Rattle.dav_nodes.specs.Tree.{Tree}
use Rattle.dav_nodes.specs.Links.{value_at, member_at}
use Rattle.dav_nodes.specs.Listing.{members_of, seen, with_values, AllLive}
use Rattle.dav_nodes.proofs.NodeMembers.{members_found, none_found, no_members, members_live, members_valued, members_at_keys, all_places, length-with_values, length-seen}
use Rattle.dav_nodes.proofs.MemberEntries.{names-members_of}
use Rattle.dav_nodes.proofs.nodes.Nodes.members.Goals.{in-Some, in-None}
use Rattle.dav_nodes.proofs.nodes.Nodes.members.Given.{Over}
use Rattle.dav_nodes.proofs.nodes.Nodes.members.Goals as goal

-- the members that are left are those of the key
left_is : (g : Over) (c : goal.Joined-members_at g) → seen (unwrap_or c.match-members_at.left []) ≡ members_of c.args.key.now c.self.inside.tree.0.numbers
left_is g c =
    let nodes = get c.self.inside.nodes in
    let held = c.self.inside.tree in
    elim c.match-members_at.branch [
      | in-Some w ↦
          ap (λ o. seen (unwrap_or o [])) w.left-is ∙ ap seen w.iter.ensures.rest
          ∙ members_found nodes held.0 held.1 c.args.key.now w.in-Some.members.now w.in-Some.ensures w.iter.ensures.ordered
      | in-None w ↦
          ap (λ o. seen (unwrap_or o [])) w.left-is
          ∙ no_members (value_at nodes) (member_at nodes) held.0 held.1 c.args.key.now (none_found nodes held.0 held.1 c.args.key.now w.in-None.ensures)
    ]

pub invariant_of-result : goal.invariant_of-result
invariant_of-result g c =
    let nodes = get c.self.inside.nodes in
    let held = c.self.inside.tree in
    subst (AllLive (value_at nodes)) (sym (left_is g c)) (members_live (value_at nodes) (member_at nodes) held.0 held.1 c.args.key.now)

-- the members are those of the key
members_are : (g : Over) (c : goal.Joined-members_at g) → with_values (value_at (get c.self.inside.nodes)) (seen (unwrap_or c.match-members_at.left [])) ≡ members_of c.args.key.now c.args.self.now.values
members_are g c =
    let nodes = get c.self.inside.nodes in
    let held = c.self.inside.tree in
    ap (with_values (value_at nodes)) (left_is g c) ∙ members_valued (value_at nodes) (member_at nodes) held.0 held.1 c.args.key.now
    ∙ ap (λ (t : Tree g.row.R.Denot). members_of c.args.key.now t.values) c.self.view_is

-- the number of members fits
few : (g : Over) (c : goal.Joined-members_at g) → length (seen (unwrap_or c.match-members_at.left [])) < 2 ^ 63
few g c =
    let count : length (seen (unwrap_or c.match-members_at.left [])) ≡ length (unwrap_or c.match-members_at.left []) = length-seen (unwrap_or c.match-members_at.left []) in
    elim c.match-members_at.branch [
      | in-Some w ↦ rw count (rw w.left-is (rw w.iter.ensures.rest w.iter.ensures.fits))
      | in-None w ↦ rw count (rw w.left-is (omega arith))
    ]

pub returns : goal.returns
returns g c = record {
  members = members_are g c;
  names = ap (map (λ (m : List ℕ × g.row.R.Denot). m.0)) (members_are g c) ∙ names-members_of c.args.key.now c.args.self.now.values;
  bound =
      omega (arith, few g c, ap length (members_are g c), length-with_values (value_at (get c.self.inside.nodes)) (seen (unwrap_or c.match-members_at.left [])) (invariant_of-result g c));
  values =
      subst (All (λ (m : List ℕ × g.row.R.Denot). fin.get c.args.self.now.values (c.args.key.now ++ m.0 ∷ []) ≡ Some m.1)) (sym (members_are g c))
      (all_places (λ (m : List ℕ × g.row.R.Denot). fin.get c.args.self.now.values (c.args.key.now ++ m.0 ∷ []) ≡ Some m.1) (members_of c.args.key.now c.args.self.now.values) (members_at_keys c.args.key.now c.args.self.now.values));
}
