use Rattle.std.proofs.Common.{sym, subst}
use Rattle.dav_nodes.specs.Rows.{HasNoted}
use Rattle.dav_nodes.proofs.RowSteps.{noted_none}
use Rattle.dav_nodes.proofs.noted.NotedNodes.saved.Goals as goal

pub invariant_of-result : goal.invariant_of-result
invariant_of-result g c =
    let nodes = c.args.nodes in
    let same = noted_none c.none.result nodes c.show_linked.ensures.numbered c.show_linked.ensures.distinct in
    record { noted = subst (λ t. HasNoted c.none.result t nodes) (sym c.of-before.ensures) same }
