use Rattle.std.proofs.Common.{◌+◌, ◌*◌, take}
use Rattle.dav_wire.specs.Trees.{tree, one_node}
use Rattle.dav_wire.proofs.WriteLemmas.{Run}
use Rattle.dav_wire.proofs.writer.Writer.+write_tree.Given as goal

abbrev pub decreases-write_element : goal.decreases-write_element
decreases-write_element l = 3 * l.levels

abbrev pub decreases-write_nodes : goal.decreases-write_nodes
decreases-write_nodes l = 3 * l.levels + 2

abbrev pub decreases-write_node : goal.decreases-write_node
decreases-write_node l = 3 * l.levels + 1

abbrev pub invariant-write_nodes-loop-node : goal.invariant-write_nodes-loop-node
invariant-write_nodes-loop-node l = Run (one_node (tree l.levels)) (take l.node-index l.children) l.fn.self l.self
