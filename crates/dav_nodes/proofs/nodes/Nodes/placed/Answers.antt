use Rattle.std.proofs.Common.{◌≡◌, ◌≢◌, ◌∙◌, Some, None, string_bytes, sym, ap}
use Rattle.std.specs.Option.{option_copied}
use Rattle.slab.specs.Slab.{get}
use Rattle.dav_nodes.proofs.Outcomes.{linked_now}
use Rattle.dav_nodes.proofs.Spots.{node_row}
use Rattle.dav_nodes.proofs.nodes.Nodes.placed.Goals.{then-number-eq0, else-number-eq0}
use Rattle.dav_nodes.proofs.nodes.Nodes.placed.Goals as goal

pub returns-clause-some : goal.returns-clause-some
returns-clause-some g c =
    let nodes = get c.self.inside.nodes in
    let linked = linked_now nodes c.args.self.now c.self.inside.tree c.self.view_is in
    let at_root : c.args.number ≡ 0 → option_copied c.if-number-eq0.name ≡ None =
    λ zero. elim c.if-number-eq0.branch [
      | then-number-eq0 w ↦ ap option_copied w.name-is
      | else-number-eq0 w ↦ absurd (w.if-number-eq0.false zero)
    ] in
    let at_member : c.args.number ≢ 0 → option_copied c.if-number-eq0.name ≡ Some (string_bytes c.in_ok-node.node.now.name) =
    λ apart. elim c.if-number-eq0.branch [
      | then-number-eq0 w ↦ absurd (apart w.if-number-eq0.true)
      | else-number-eq0 w ↦ ap option_copied w.name-is ∙ ap Some w.as_str.ensures.value
    ] in
    node_row nodes c.args.self.now linked c.self.inside.spots c.args.number c.in_ok-node.node.now (option_copied c.if-number-eq0.name) (sym c.in_ok-node.ensures) at_root at_member
