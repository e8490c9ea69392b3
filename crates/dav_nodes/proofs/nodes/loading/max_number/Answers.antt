use Rattle.std.proofs.Common.{arith}
use Rattle.dav_nodes.proofs.Slots.{max_more, max_all}
use Rattle.dav_nodes.proofs.nodes.loading.max_number.Goals.{then-row-max, else-row-max}
use Rattle.dav_nodes.proofs.nodes.loading.max_number.Goals as goal

pub loop-row-preserved : goal.loop-row-preserved
loop-row-preserved g c =
    max_more c.args.rows.now c.loop-row.row-index c.row-item.result c.loop-row.max c.if-row-max.max (omega arith) c.row-item.is c.loop-row.invariant
    (elim c.if-row-max.branch [ then-row-max w ↦ omega arith | else-row-max w ↦ omega arith ])
    (elim c.if-row-max.branch [ then-row-max w ↦ omega arith | else-row-max w ↦ omega arith ])

pub returns : goal.returns
returns g c = max_all c.args.rows.now c.loop-row.row-index c.loop-row.max (omega arith) c.loop-row.invariant
