use Rattle.std.proofs.Common.{◌∙◌, ap}
use Rattle.std.specs.FinMap.{get}
use Rattle.slab.specs.Slab as slab
use Rattle.dav_nodes.specs.Tree.{IsReplaced}
use Rattle.dav_nodes.proofs.Outcomes.{linked_now, of_held, node_there, replaced, known_after}
use Rattle.dav_nodes.proofs.Spots.{spots_set}
use Rattle.dav_nodes.proofs.nodes.Nodes.exchange.Goals as goal

pub exchange-requires : goal.exchange-requires
exchange-requires g c =
    node_there (slab.get c.self.inside.nodes) c.args.self.now (linked_now (slab.get c.self.inside.nodes) c.args.self.now c.self.inside.tree c.self.view_is)
    c.requires.0 c.args.number c.requires.1

pub invariant_of-self-inside : goal.invariant_of-self-inside
invariant_of-self-inside g c =
    let old = slab.get c.self.inside.nodes in
    let new = slab.get c.exchange.new.nodes in
    let linked = linked_now old c.args.self.now c.self.inside.tree c.self.view_is in
    let done =
    replaced old new c.args.self.now linked c.requires.0 c.args.number c.exchange.new.value c.args.value.now c.requires.1 c.exchange.ensures.value c.exchange.ensures.nodes in (
      (done.0, done.1),
      (known_after old new c.args.self.now done.0 linked done.1 c.self.inside.memo (λ key n is. ap (λ m. get m key) done.2.numbers ∙ is) c.self.inside.known, (spots_set old new c.self.inside.spots c.args.number c.args.value.now c.exchange.ensures.nodes, tt)),
    )

pub returns : goal.returns
returns g c = λ key at.
    let old = slab.get c.self.inside.nodes in
    let done =
    replaced old (slab.get c.exchange.new.nodes) c.args.self.now (linked_now old c.args.self.now c.self.inside.tree c.self.view_is) key c.args.number
    c.exchange.new.value c.args.value.now at c.exchange.ensures.value c.exchange.ensures.nodes in
    of_held g.row.R.coded (slab.get c.exchange.new.nodes) done.0 (IsReplaced key c.exchange.new.value c.args.value.now c.args.self.now) done.1 done.2 c.self-1.given.0
