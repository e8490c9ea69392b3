use Rattle.std.proofs.Common.{[]}
use Rattle.slab.specs.Slab as slab
use Rattle.dav_nodes.proofs.Outcomes.{linked_now}
use Rattle.dav_nodes.proofs.nodes.Nodes.show_root.Goals as goal

pub returns : goal.returns
returns g c = (linked_now (slab.get c.self.inside.nodes) c.args.self.now c.self.inside.tree c.self.view_is).numbered []
