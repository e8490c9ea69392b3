use Rattle.std.proofs.Common.{◌+◌, ◌*◌, length}
use Rattle.dav_wire.specs.Trees.{tree}
use Rattle.dav_wire.proofs.NodeLemmas.{NodesSoFar}
use Rattle.dav_wire.proofs.reader.Reader.+tree.Given as goal

abbrev pub decreases-read_element : goal.decreases-read_element
decreases-read_element l = 2 * l.levels

abbrev pub decreases-read_nodes : goal.decreases-read_nodes
decreases-read_nodes l = 2 * l.levels + 1

abbrev pub invariant-read_nodes-loop-nodes : goal.invariant-read_nodes-loop-nodes
invariant-read_nodes-loop-nodes l = NodesSoFar (tree l.levels) l.fn.self l.nodes.items l.self

abbrev pub decreases-read_nodes-loop-nodes : goal.decreases-read_nodes-loop-nodes
decreases-read_nodes-loop-nodes l = length l.self
