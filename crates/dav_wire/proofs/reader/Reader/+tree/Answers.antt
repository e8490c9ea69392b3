use Rattle.std.proofs.Common.{◌∙◌, ◌-◌, ◌<◌, ◌≤◌, length, Some, ap, sym, arith}
use Rattle.dav_resource.specs.Tree.{Tag, Tree}
use Rattle.dav_resource.specs.Element.{nodes_of}
use Rattle.dav_wire.specs.Numbers.{byte}
use Rattle.dav_wire.specs.Values.{utf8_text}
use Rattle.dav_wire.specs.Trees.{tag, nodes, tree}
use Rattle.dav_wire.proofs.ReadLemmas.{fails_allocating, fails_allocating_because, exit_allocating}
use Rattle.dav_wire.proofs.NodeLemmas.{no_levels, element_reads, element_no_tag, element_no_nodes, nodes_end, nodes_cut, nodes_element, nodes_no_element, nodes_text, nodes_no_text, nodes_unknown, shorter, shorter_by_one, is_read}
use Rattle.dav_wire.proofs.reader.Reader.+tree.Goals as goal

pub read_element-returns-then-levels-eq0 : goal.read_element-returns-then-levels-eq0
read_element-returns-then-levels-eq0 t c = no_levels c.args.levels c.args.self.now c.if-levels-eq0.true

pub read_element-returns-in_err-tag : goal.read_element-returns-in_err-tag
read_element-returns-in_err-tag t c =
    exit_allocating (tree c.args.levels) (λ x. x) _ _ c.from_residual.result _ c.from_residual.ensures.1
    (fails_allocating_because tag (tree c.args.levels) c.args.self.now _ c.in_err-tag.field-0.0
    (element_no_tag c.args.levels c.args.self.now c.if-levels-eq0.false) c.in_err-tag.ensures)

pub read_element-returns-in_err-children : goal.read_element-returns-in_err-children
read_element-returns-in_err-children t c =
    exit_allocating (tree c.args.levels) (λ x. x) _ _ c.from_residual-in_err-children.result _ c.from_residual-in_err-children.ensures.1
    (fails_allocating_because (nodes (tree (c.args.levels - 1))) (tree c.args.levels) c.read_tag.new.self c.args.self.now c.in_err-children.field-0.0
    (element_no_nodes c.args.levels c.args.self.now c.read_tag.new.self c.in_ok-tag.tag c.if-levels-eq0.false c.in_ok-tag.ensures)
    c.in_err-children.ensures)

pub read_element-returns : goal.read_element-returns
read_element-returns t c =
    element_reads c.args.levels c.args.self.now c.read_tag.new.self c.read_nodes.new.self c.in_ok-tag.tag (nodes_of c.in_ok-children.children.items)
    c.if-levels-eq0.false c.in_ok-tag.ensures c.in_ok-children.ensures
    ∙ ap (λ (x : Tag). Some (record { tag = x; children = nodes_of c.in_ok-children.children.items }, c.read_nodes.new.self))
    (ap (λ (u : Tree). u.tag) (sym (c.element.view_is ∙ c.in_ok-element.ensures)))

pub read_nodes-returns-in_err-read_u8 : goal.read_nodes-returns-in_err-read_u8
read_nodes-returns-in_err-read_u8 t c =
    exit_allocating (nodes (tree c.args.levels)) (λ v. nodes_of v.items) _ _ c.from_residual.result _ c.from_residual.ensures.1
    (fails_allocating byte (nodes (tree c.args.levels)) c.loop-nodes.self _ c.in_err-read_u8.field-0.0
    (nodes_cut _ _ _ c.loop-nodes.self c.loop-nodes.invariant) c.in_err-read_u8.ensures)

pub read_nodes-returns-in-0 : goal.read_nodes-returns-in-0
read_nodes-returns-in-0 t c =
    nodes_end _ _ _ c.loop-nodes.self c.read_u8.new.self c.loop-nodes.invariant (is_read c.loop-nodes.self _ 0 _ c.in-0.is c.in_ok-read_u8.ensures)

pub read_nodes-returns-in_err-read_element-in-1 : goal.read_nodes-returns-in_err-read_element-in-1
read_nodes-returns-in_err-read_element-in-1 t c =
    exit_allocating (nodes (tree c.args.levels)) (λ v. nodes_of v.items) _ _ c.from_residual-in_err-read_element-in-1.result _ c.from_residual-in_err-read_element-in-1.ensures.1
    (fails_allocating_because (tree c.args.levels) (nodes (tree c.args.levels)) c.read_u8.new.self c.args.self.now c.in_err-read_element-in-1.field-0.0
    (nodes_no_element _ _ _ c.loop-nodes.self c.read_u8.new.self c.loop-nodes.invariant (is_read c.loop-nodes.self _ 1 _ c.in-1.is c.in_ok-read_u8.ensures))
    c.in_err-read_element-in-1.ensures)

pub read_nodes-loop-nodes-smaller-in_ok-push-in-1 :
    goal.read_nodes-loop-nodes-smaller-in_ok-push-in-1
read_nodes-loop-nodes-smaller-in_ok-push-in-1 t c =
    let first : length c.read_u8.new.self < length c.loop-nodes.self = shorter_by_one c.loop-nodes.self _ c.read_u8.new.self c.in_ok-read_u8.ensures in
    let second : length c.read_element.new.self ≤ length c.read_u8.new.self = shorter (tree c.args.levels) c.read_u8.new.self _ c.read_element.new.self c.in_ok-read_element-in-1.ensures in
    let both : length c.read_element.new.self < length c.loop-nodes.self = omega (arith, first, second) in
    both

pub read_nodes-loop-nodes-preserved-in_ok-push-in-1 :
    goal.read_nodes-loop-nodes-preserved-in_ok-push-in-1
read_nodes-loop-nodes-preserved-in_ok-push-in-1 t c =
    rw c.in_ok-push-in-1.ensures.items
    (nodes_element _ _ _ c.loop-nodes.self c.read_u8.new.self _ _ c.loop-nodes.invariant (is_read c.loop-nodes.self _ 1 _ c.in-1.is c.in_ok-read_u8.ensures) c.in_ok-read_element-in-1.ensures)

pub read_nodes-returns-in_err-read_text-in-2 : goal.read_nodes-returns-in_err-read_text-in-2
read_nodes-returns-in_err-read_text-in-2 t c =
    exit_allocating (nodes (tree c.args.levels)) (λ v. nodes_of v.items) _ _ c.from_residual-in_err-read_text-in-2.result _ c.from_residual-in_err-read_text-in-2.ensures.1
    (fails_allocating_because utf8_text (nodes (tree c.args.levels)) c.read_u8.new.self c.args.self.now c.in_err-read_text-in-2.field-0.0
    (nodes_no_text _ _ _ c.loop-nodes.self c.read_u8.new.self c.loop-nodes.invariant (is_read c.loop-nodes.self _ 2 _ c.in-2.is c.in_ok-read_u8.ensures))
    c.in_err-read_text-in-2.ensures)

pub read_nodes-loop-nodes-smaller : goal.read_nodes-loop-nodes-smaller
read_nodes-loop-nodes-smaller t c =
    let first : length c.read_u8.new.self < length c.loop-nodes.self = shorter_by_one c.loop-nodes.self _ c.read_u8.new.self c.in_ok-read_u8.ensures in
    let second : length c.read_text.new.self ≤ length c.read_u8.new.self = shorter utf8_text c.read_u8.new.self _ c.read_text.new.self c.in_ok-read_text-in-2.ensures in
    let both : length c.read_text.new.self < length c.loop-nodes.self = omega (arith, first, second) in
    both

pub read_nodes-loop-nodes-preserved : goal.read_nodes-loop-nodes-preserved
read_nodes-loop-nodes-preserved t c =
    rw c.in_ok-push-in-2.ensures.items
    (nodes_text _ _ _ c.loop-nodes.self c.read_u8.new.self _ _ c.loop-nodes.invariant (is_read c.loop-nodes.self _ 2 _ c.in-2.is c.in_ok-read_u8.ensures) c.in_ok-read_text-in-2.ensures)

pub read_nodes-returns-in_default : goal.read_nodes-returns-in_default
read_nodes-returns-in_default t c =
    nodes_unknown _ _ _ c.loop-nodes.self c.read_u8.new.self _ c.loop-nodes.invariant c.in_ok-read_u8.ensures (λ z. omega (arith, z)) (λ z. omega (arith, z)) (λ z. omega (arith, z))
