use Rattle.std.proofs.Common.{Some, ◌∙◌, sym, ap, string_bytes, rules}
use Rattle.std.specs.Option.{option_copied_mut}
use Rattle.slab.specs.Slab.{with_value}
use Rattle.dav_nodes.proofs.NodeSteps.{written, sets_member, same_nodes}
use Rattle.dav_nodes.proofs.links.enter.Goals as goal

pub returns-in_err-insert-clause-err : goal.returns-in_err-insert-clause-err
returns-in_err-insert-clause-err g c =
    let there = sym c.get_mut.ensures.value ∙ ap option_copied_mut c.in-Some.is in
    let after = record c.in-Some.node.now { members = c.insert.new.self } in
    let same =
    same_nodes c.args.nodes.now (with_value c.args.nodes.now c.args.above after) c.args.above c.in-Some.node.now c.insert.new.self
    (written c.args.nodes.now c.args.above c.in-Some.node.now after there) there c.in_err-insert.ensures.err in
    search rules

pub returns-in_ok-insert-clause-ok : goal.returns-in_ok-insert-clause-ok
returns-in_ok-insert-clause-ok g c =
    let there = sym c.get_mut.ensures.value ∙ ap option_copied_mut c.in-Some.is in
    let after = record c.in-Some.node.now { members = c.insert.new.self } in
    sets_member c.args.nodes.now (with_value c.args.nodes.now c.args.above after) c.args.above (string_bytes c.args.name) (Some c.args.number) c.in-Some.node.now c.insert.new.self
    (written c.args.nodes.now c.args.above c.in-Some.node.now after there) there c.in_ok-insert.ensures.updates
