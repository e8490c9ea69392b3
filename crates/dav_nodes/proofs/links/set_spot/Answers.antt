use Rattle.std.proofs.Common.{◌∙◌, sym, ap}
use Rattle.std.specs.Option.{option_copied_mut}
use Rattle.slab.specs.Slab.{with_value}
use Rattle.dav_nodes.proofs.NodeSteps.{written, sets_spot}
use Rattle.dav_nodes.proofs.links.set_spot.Goals as goal

pub returns-in-Some : goal.returns-in-Some
returns-in-Some g c =
    let there = sym c.get_mut.ensures.value ∙ ap option_copied_mut c.in-Some.is in
    let after = record c.in-Some.node.now { above = c.args.above; name = c.args.name } in
    sets_spot c.args.nodes.now (with_value c.args.nodes.now c.args.number after) c.args.number c.args.above c.args.name c.in-Some.node.now
    (written c.args.nodes.now c.args.number c.in-Some.node.now after there) there
