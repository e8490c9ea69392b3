use Rattle.dav_resource.proofs.ElementLemmas.{nodes_of-next, texts_of-other}
use Rattle.dav_resource.proofs.TreeLemmas.{texts_of-text}
use Rattle.dav_resource.proofs.element.Element.get_text.Goals as goal
use Rattle.dav_resource.proofs.element.Element.get_text.Goals.{in-Text+in_ok-append_text, in_default}

pub loop-child-preserved : goal.loop-child-preserved
loop-child-preserved c =
    let next = nodes_of-next c.deref-child-items.result.now c.loop-child.child-index c.child-item.result c.loop-child-test.true c.child-item.is in
    elim c.match-child.branch [
      | in-Text+in_ok-append_text w ↦
          let added = rw w.in-Text.is at next in
          rw (w.joined-is, added, texts_of-text, ← c.loop-child.invariant, w.in_ok-append_text.ensures, w.as_str.ensures)
      | in_default w ↦ rw (w.joined-is, next, texts_of-other _ _ w.in_default.not-Text) c.loop-child.invariant
    ]
