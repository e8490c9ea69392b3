use Rattle.std.proofs.Common.{◌≡◌}
use Rattle.slab.specs.Slab as slab
use Rattle.dav_nodes.proofs.Outcomes.{linked_now, of_held}
use Rattle.dav_nodes.proofs.nodes.Nodes.find.Goals as goal

pub returns-clause-same : goal.returns-clause-same
returns-clause-same g c =
    let nodes = slab.get c.self.inside.nodes in
    of_held g.row.R.coded nodes c.args.self.now (λ t. t ≡ c.args.self.now) (linked_now nodes c.args.self.now c.self.inside.tree c.self.view_is) (λ i. c.args.self.now) c.self-1.given.0
