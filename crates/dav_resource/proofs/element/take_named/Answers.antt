use Rattle.std.proofs.Common.{◌∙◌, sym, ap}
use Rattle.dav_resource.specs.Element.{nodes_of}
use Rattle.dav_resource.proofs.ElementLemmas.{found_node, not_found_node}
use Rattle.dav_resource.proofs.element.take_named.Goals as goal

pub returns-in_err-at-clause-taken : goal.returns-in_err-at-clause-taken
returns-in_err-at-clause-taken c =
    let none = not_found_node c.args.name.now c.args.nodes.now.items (rw c.deref.ensures.value at c.in_err-at.ensures) in
    c.from_residual.ensures ∙ sym none.first

pub returns-in_err-at-clause-left : goal.returns-in_err-at-clause-left
returns-in_err-at-clause-left c =
    let none = not_found_node c.args.name.now c.args.nodes.now.items (rw c.deref.ensures.value at c.in_err-at.ensures) in
    sym none.left

pub returns-in-Element-clause-taken : goal.returns-in-Element-clause-taken
returns-in-Element-clause-taken c =
    let found = found_node c.args.name.now c.args.nodes.now.items c.in_ok-at.at _ (rw c.deref.ensures.value at c.in_ok-at.ensures) c.in-Element.ensures.value in
    sym found.first

pub returns-in-Element-clause-left : goal.returns-in-Element-clause-left
returns-in-Element-clause-left c =
    let found = found_node c.args.name.now c.args.nodes.now.items c.in_ok-at.at _ (rw c.deref.ensures.value at c.in_ok-at.ensures) c.in-Element.ensures.value in
    ap nodes_of c.in-Element.ensures.items ∙ sym found.left

pub returns-clause-taken : goal.returns-clause-taken
returns-clause-taken c =
    let found = found_node c.args.name.now c.args.nodes.now.items c.in_ok-at.at _ (rw c.deref.ensures.value at c.in_ok-at.ensures) c.in-Text.ensures.value in
    absurd found

pub returns-clause-left : goal.returns-clause-left
returns-clause-left c =
    let found = found_node c.args.name.now c.args.nodes.now.items c.in_ok-at.at _ (rw c.deref.ensures.value at c.in_ok-at.ensures) c.in-Text.ensures.value in
    absurd found
