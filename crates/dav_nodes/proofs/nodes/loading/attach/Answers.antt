use Rattle.std.proofs.Common.{◌∙◌, sym, ap, subst, Some, string_bytes}
use Rattle.std.specs.Option.{option_and_then}
use Rattle.std.specs.BTreeMap.{get_by_text}
use Rattle.slab.specs.Slab.{get}
use Rattle.dav_nodes.specs.Links.{member_at}
use Rattle.dav_nodes.specs.NodeChanges.{SetsMember}
use Rattle.dav_nodes.specs.declared.node.Node.{Node}
use Rattle.dav_nodes.proofs.LinkedParts.{adds_linked, linked_same}
use Rattle.dav_nodes.proofs.Slots.{none_from}
use Rattle.dav_nodes.proofs.nodes.loading.attach.Goals as goal

pub returns-clause-ok : goal.returns-clause-ok
returns-clause-ok g c = record {
  absent =
      ap (option_and_then (λ (m : Node g.row.R.Denot). get_by_text m.members (string_bytes c.args.row.name))) (linked_same (get c.args.nodes.now c.args.row.above) c.requires.above)
      ∙ ap (λ s. member_at (get c.args.nodes.now) s c.args.row.above) (sym c.deref.ensures) ∙ sym c.member.ensures ∙ none_from c.member.result (sym c.if-is_some.ensures);
  adds =
      adds_linked c.args.nodes.now c.enter.new.nodes c.put.new.nodes c.args.row.above (string_bytes c.args.row.name) c.args.row.number c.new.result c.args.row.value
      c.requires.above c.requires.other c.requires.free
      (subst (λ s. SetsMember (get c.args.nodes.now) (get c.enter.new.nodes) c.args.row.above s (Some c.args.row.number)) (c.in_ok-own_name.ensures.ok ∙ c.deref-2.ensures) c.in_ok-enter.ensures.ok)
      c.put.ensures c.new.ensures.value c.new.ensures.above (ap string_bytes c.new.ensures.name) c.new.ensures.members;
}
