use Rattle.std.proofs.Common.{◌≡◌, ◌∙◌, sym, ap, subst}
use Rattle.std.specs.Prelude.{IfOk, OnErr}
use Rattle.std.specs.FinMap.{get}
use Rattle.slab.specs.Slab as slab
use Rattle.dav_key.specs.Key.{parent}
use Rattle.dav_nodes.specs.Tree.{Tree, IsAdded}
use Rattle.dav_nodes.specs.Links.{place, member_at}
use Rattle.dav_nodes.proofs.Outcomes.{linked_now, of_held, node_there, added, known_after, added_keeps, added_at}
use Rattle.dav_nodes.proofs.Spots.{spots_after_add}
use Rattle.dav_nodes.proofs.nodes.Nodes.add.Goals as goal

pub add-added-requires : goal.add-added-requires
add-added-requires g c =
    let old = slab.get c.self.inside.nodes in
    let linked = linked_now old c.args.self.now c.self.inside.tree c.self.view_is in
    let at = linked.numbered (parent c.args.key.now) ∙ sym c.find_above.ensures ∙ c.in-Some.is in
    node_there old c.args.self.now linked (parent c.args.key.now) c.in-Some.above at

pub invariant_of-self-inside : goal.invariant_of-self-inside
invariant_of-self-inside g c =
    let old = slab.get c.self.inside.nodes in
    let new = slab.get c.add-added.new.nodes in
    let linked = linked_now old c.args.self.now c.self.inside.tree c.self.view_is in
    let at = linked.numbered (parent c.args.key.now) ∙ sym c.find_above.ensures ∙ c.in-Some.is in
    let done =
    added old new c.args.self.now linked c.args.key.now c.in-Some-name.name.now c.in-Some.above c.args.value c.in-Some-name.ensures.last at c.requires.absent
    c.add-added.result c.add-added.ensures.ok c.add-added.ensures.err in
    let is : IsAdded c.args.key.now c.in-Ok.number c.args.value c.args.self.now done.0 =
    subst (λ r. IfOk r (λ n. IsAdded c.args.key.now n c.args.value c.args.self.now done.0)) c.in-Ok.is done.2 in (
      (done.0, done.1),
      (
        c.note_at.ensures (place (member_at new))
            (known_after old new c.args.self.now done.0 linked done.1 c.self.inside.memo
            (added_keeps old new c.args.self.now done.0 linked done.1 c.args.key.now c.in-Ok.number c.args.value c.requires.absent is) c.self.inside.known)
            (added_at old new c.args.self.now done.0 linked done.1 c.args.key.now c.in-Ok.number c.in-Some.above c.args.value c.requires.absent at is),
        (spots_after_add old new c.self.inside.spots c.in-Some.above c.in-Some-name.name.now c.args.value c.add-added.result c.add-added.ensures.ok c.add-added.ensures.err, tt),
      ),
    )

pub invariant_of-self-inside-in_default-added : goal.invariant_of-self-inside-in_default-added
invariant_of-self-inside-in_default-added g c =
    let old = slab.get c.self.inside.nodes in
    let new = slab.get c.add-added.new.nodes in
    let linked = linked_now old c.args.self.now c.self.inside.tree c.self.view_is in
    let at = linked.numbered (parent c.args.key.now) ∙ sym c.find_above.ensures ∙ c.in-Some.is in
    let done =
    added old new c.args.self.now linked c.args.key.now c.in-Some-name.name.now c.in-Some.above c.args.value c.in-Some-name.ensures.last at c.requires.absent
    c.add-added.result c.add-added.ensures.ok c.add-added.ensures.err in
    let same : done.0 ≡ c.args.self.now = subst (λ r. OnErr r (done.0 ≡ c.args.self.now)) c.in_default-added.is done.3 in (
      (done.0, done.1),
      (
        known_after old new c.args.self.now done.0 linked done.1 c.self.inside.memo (λ key n is. ap (λ (t : Tree g.row.R.Denot). get t.numbers key) same ∙ is) c.self.inside.known,
        (spots_after_add old new c.self.inside.spots c.in-Some.above c.in-Some-name.name.now c.args.value c.add-added.result c.add-added.ensures.ok c.add-added.ensures.err, tt),
      ),
    )

pub returns-in-Ok-clause-ok : goal.returns-in-Ok-clause-ok
returns-in-Ok-clause-ok g c =
    let old = slab.get c.self.inside.nodes in
    let new = slab.get c.add-added.new.nodes in
    let linked = linked_now old c.args.self.now c.self.inside.tree c.self.view_is in
    let at = linked.numbered (parent c.args.key.now) ∙ sym c.find_above.ensures ∙ c.in-Some.is in
    let done =
    added old new c.args.self.now linked c.args.key.now c.in-Some-name.name.now c.in-Some.above c.args.value c.in-Some-name.ensures.last at c.requires.absent
    c.add-added.result c.add-added.ensures.ok c.add-added.ensures.err in
    of_held g.row.R.coded new done.0 (λ t. IfOk c.add-added.result (λ n. IsAdded c.args.key.now n c.args.value c.args.self.now t)) done.1 done.2 c.self-1.given.0

pub returns-in_default-added-clause-err : goal.returns-in_default-added-clause-err
returns-in_default-added-clause-err g c =
    let old = slab.get c.self.inside.nodes in
    let new = slab.get c.add-added.new.nodes in
    let linked = linked_now old c.args.self.now c.self.inside.tree c.self.view_is in
    let at = linked.numbered (parent c.args.key.now) ∙ sym c.find_above.ensures ∙ c.in-Some.is in
    let done =
    added old new c.args.self.now linked c.args.key.now c.in-Some-name.name.now c.in-Some.above c.args.value c.in-Some-name.ensures.last at c.requires.absent
    c.add-added.result c.add-added.ensures.ok c.add-added.ensures.err in
    of_held g.row.R.coded new done.0 (λ t. OnErr c.add-added.result (t ≡ c.args.self.now)) done.1 done.3 c.self-in_default-added-1.given.0
