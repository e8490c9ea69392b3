use Rattle.std.proofs.Common.{◌≡◌, ◌∙◌, ◌-◌, ◌<◌, ◌≤◌, [], ◌∷◌, take, refl, ap, arith}
use Rattle.dav_resource.specs.Tree.{Tree}
use Rattle.dav_resource.specs.Element.{nodes_of}
use Rattle.dav_resource.specs.declared.element.XMLNode.TheVariants as node
use Rattle.std.proofs.lemmas.List.{take_all}
use Rattle.dav_wire.specs.Values.{utf8_text}
use Rattle.dav_wire.specs.Trees.{tag, one_node, nodes, tree}
use Rattle.dav_wire.specs.TreeLaws.{levels_of, tree_levels}
use Rattle.dav_wire.proofs.WriteLemmas.{extends_same, extends_run, extends_trans, appends_after, writes_unless_after, refused, refuses_because}
use Rattle.dav_wire.proofs.TreeWrites.{valid_element, encode_element, valid_text, encode_text, node_levels, valid_tree, encode_tree, nodes_written}
use Rattle.dav_wire.proofs.writer.Writer.+write_tree.Goals as goal

pub write_element-returns-then-levels-eq0 : goal.write_element-returns-then-levels-eq0
write_element-returns-then-levels-eq0 t c =
    (omega arith, extends_same c.args.self.now c.args.self.now refl)

pub write_element-returns : goal.write_element-returns
write_element-returns t c =
    let x : Tree = c.args.element.now in
    let ns : nodes_of c.deref.result.now ≡ x.children = ap nodes_of c.deref.ensures.value ∙ ap (λ (u : Tree). u.children) c.element.view_is in
    let deep : c.args.levels - 1 < levels_of x.children → c.args.levels < tree_levels x = λ h. omega arith in
    writes_unless_after (c.args.levels - 1 < levels_of x.children) (c.args.levels < tree_levels x) (nodes (tree (c.args.levels - 1))) (tree c.args.levels) x.children x c.args.self.now c.write_tag.new.self c.write_nodes.new.self (tag.encode x.tag) c.write_nodes.result
    c.in_ok-write_tag.ensures.is
    (valid_tree c.args.levels x c.if-levels-eq0.false c.in_ok-write_tag.ensures.valid)
    deep
    (encode_tree c.args.levels x c.if-levels-eq0.false)
    (rw ns at c.write_nodes.ensures)

pub write_node-returns-in_ok-write_u8-in-Element :
    goal.write_node-returns-in_ok-write_u8-in-Element
write_node-returns-in_ok-write_u8-in-Element t c =
    let x : Tree = c.in-Element.element in
    let deep : c.args.levels < tree_levels x → c.args.levels < levels_of (nodes_of (node.Element x ∷ [])) = λ h. omega arith in
    let h = writes_unless_after (c.args.levels < tree_levels x) (c.args.levels < levels_of (nodes_of (node.Element x ∷ []))) (tree c.args.levels) (one_node (tree c.args.levels)) c.in-Element.element (node.Element c.in-Element.element) c.args.self.now c.write_u8.new.self c.write_element.new.self (1 ∷ []) c.write_element.result
    c.in_ok-write_u8-in-Element.ensures.is (valid_element (tree c.args.levels) c.in-Element.element) deep
    (encode_element (tree c.args.levels) c.in-Element.element) c.write_element.ensures in
    rw c.in-Element.is h

pub write_node-returns-in_ok-write_str-in-Text : goal.write_node-returns-in_ok-write_str-in-Text
write_node-returns-in_ok-write_str-in-Text t c =
    rw c.in-Text.is
    (appends_after utf8_text (one_node (tree c.args.levels)) c.in-Text.text (node.Text c.in-Text.text) c.args.self.now c.write_u8-in-Text.new.self c.write_str.new.self (2 ∷ [])
    c.in_ok-write_u8-in-Text.ensures.is (valid_text (tree c.args.levels) c.in-Text.text) (encode_text (tree c.args.levels) c.in-Text.text)
    (rw c.as_str.ensures at c.in_ok-write_str-in-Text.ensures))

pub write_nodes-returns-in_err-write_node : goal.write_nodes-returns-in_err-write_node
write_nodes-returns-in_err-write_node t c =
    refused (c.args.levels < levels_of (nodes_of c.args.children.now)) (nodes (tree c.args.levels)) (nodes_of c.args.children.now) c.args.self.now c.write_node.new.self c.from_residual.result c.in_err-write_node.field-0.0 c.from_residual.ensures.1
    (refuses_because (c.args.levels < levels_of (nodes_of (c.node-item.result ∷ []))) (c.args.levels < levels_of (nodes_of c.args.children.now)) c.in_err-write_node.field-0.0
    (λ h.
    let le = node_levels c.args.children.now c.loop-node.node-index c.node-item.result (omega arith) in
    let here : levels_of (nodes_of (c.node-item.result ∷ [])) ≤ levels_of (nodes_of c.args.children.now) = rw (← c.node-item.is) at le in
    omega (arith, h, here))
    c.in_err-write_node.ensures.0)
    (extends_trans c.args.self.now c.loop-node.self c.write_node.new.self (extends_run _ _ _ _ c.loop-node.invariant) c.in_err-write_node.ensures.1)

pub write_nodes-returns : goal.write_nodes-returns
write_nodes-returns t c =
    let all : take c.loop-node.node-index c.args.children.now ≡ c.args.children.now = take_all c.loop-node.node-index c.args.children.now (omega arith) in
    nodes_written (tree c.args.levels) c.args.children.now c.args.self.now c.loop-node.self c.write_u8.new.self (rw all at c.loop-node.invariant) c.in_ok-write_u8.ensures
