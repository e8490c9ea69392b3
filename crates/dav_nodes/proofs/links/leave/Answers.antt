use Rattle.std.proofs.Common.{None, ◌∙◌, sym, ap}
use Rattle.std.specs.Option.{option_copied_mut}
use Rattle.slab.specs.Slab.{with_value}
use Rattle.dav_nodes.proofs.NodeSteps.{written, sets_member}
use Rattle.dav_nodes.proofs.links.leave.Goals as goal

pub returns-in-Some : goal.returns-in-Some
returns-in-Some g c =
    let there = sym c.get_mut.ensures.value ∙ ap option_copied_mut c.in-Some.is in
    let after = record c.in-Some.node.now { members = c.remove.new.self } in
    sets_member c.args.nodes.now (with_value c.args.nodes.now c.args.above after) c.args.above c.args.name.now None c.in-Some.node.now c.remove.new.self
    (written c.args.nodes.now c.args.above c.in-Some.node.now after there) there c.remove.ensures.updates
