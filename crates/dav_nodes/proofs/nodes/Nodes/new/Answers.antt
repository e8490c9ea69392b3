use Rattle.std.proofs.Common.{◌∙◌, ap, string_bytes}
use Rattle.slab.specs.Slab.{get}
use Rattle.dav_nodes.specs.Tree.{root_tree}
use Rattle.dav_nodes.specs.Links.{place, value_at, member_at}
use Rattle.dav_nodes.proofs.Linking.{tree_is}
use Rattle.dav_nodes.proofs.NodeSteps.{linked_first, spots_first}
use Rattle.dav_nodes.proofs.nodes.Nodes.new.Goals as goal

pub invariant_of-result : goal.invariant_of-result
invariant_of-result g c =
    let first = c.in_ok-insert.ensures.key ∙ c.new-nodes.ensures.first_key in (
      (
        root_tree c.args.value,
        linked_first c.new-nodes.result c.insert.new.self c.in_ok-insert.field-0 c.new-2.result c.new-nodes.ensures.empty c.in_ok-insert.ensures.updates first c.new-2.ensures.members
            c.args.value c.new-2.ensures.value,
      ),
      (
        c.new-3.ensures (place (member_at (get c.insert.new.self))),
        (
          spots_first c.new-nodes.result c.insert.new.self c.in_ok-insert.field-0 c.new-2.result c.new-nodes.ensures.empty c.in_ok-insert.ensures.updates first c.new-2.ensures.members
              c.new-2.ensures.above (ap string_bytes c.new-2.ensures.name ∙ c.new.ensures.bytes),
          tt,
        ),
      ),
    )

pub returns : goal.returns
returns g c =
    tree_is g.row.R.coded (value_at (get c.insert.new.self)) (member_at (get c.insert.new.self)) (root_tree c.args.value)
    (linked_first c.new-nodes.result c.insert.new.self c.in_ok-insert.field-0 c.new-2.result c.new-nodes.ensures.empty c.in_ok-insert.ensures.updates
    (c.in_ok-insert.ensures.key ∙ c.new-nodes.ensures.first_key) c.new-2.ensures.members c.args.value c.new-2.ensures.value) c.result-1.given.0
