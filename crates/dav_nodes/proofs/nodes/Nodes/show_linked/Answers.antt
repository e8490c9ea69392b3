use Rattle.slab.specs.Slab as slab
use Rattle.dav_nodes.proofs.Outcomes.{linked_now, numbered_there}
use Rattle.dav_nodes.proofs.Moving.{no_number_below}
use Rattle.dav_nodes.proofs.nodes.Nodes.show_linked.Goals as goal

pub returns-clause-distinct : goal.returns-clause-distinct
returns-clause-distinct g c = (linked_now (slab.get c.self.inside.nodes) c.args.self.now c.self.inside.tree c.self.view_is).one

pub returns-clause-joined : goal.returns-clause-joined
returns-clause-joined g c = λ key below none.
    let nodes = slab.get c.self.inside.nodes in
    no_number_below nodes c.args.self.now (linked_now nodes c.args.self.now c.self.inside.tree c.self.view_is) key none below

pub returns-clause-numbered : goal.returns-clause-numbered
returns-clause-numbered g c = λ key.
    let nodes = slab.get c.self.inside.nodes in
    numbered_there nodes c.args.self.now (linked_now nodes c.args.self.now c.self.inside.tree c.self.view_is) key
