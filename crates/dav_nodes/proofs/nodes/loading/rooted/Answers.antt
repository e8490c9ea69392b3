use Rattle.std.proofs.Common.{◌∙◌, ap, arith, string_bytes}
use Rattle.dav_nodes.proofs.Loads.{loaded_first}
use Rattle.dav_nodes.proofs.nodes.loading.rooted.Goals as goal

pub returns : goal.returns
returns g c =
    loaded_first c.in_ok-nodes.nodes c.put.new.nodes c.args.root c.args.rows.now c.in-Some.bound c.new-node.result c.requires.root c.in_ok-nodes.ensures.none c.in_ok-nodes.ensures.slots
    (λ n has. omega (arith, c.max_number.ensures n has, c.in-Some.ensures.1)) c.put.ensures c.new-node.ensures.value c.new-node.ensures.above
    (ap string_bytes c.new-node.ensures.name ∙ c.new.ensures.bytes) c.new-node.ensures.members
