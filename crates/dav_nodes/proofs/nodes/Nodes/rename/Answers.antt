use Rattle.std.proofs.Common.{◌≡◌, ◌∙◌, [], IsSome, sym, subst}
use Rattle.std.specs.Prelude.{OnOk, OnErr}
use Rattle.slab.specs.Slab as slab
use Rattle.dav_key.specs.Key.{parent}
use Rattle.dav_nodes.specs.Tree.{IsTreeMoved}
use Rattle.dav_nodes.specs.Links.{place, member_at}
use Rattle.dav_nodes.proofs.Linking.{not_root}
use Rattle.dav_nodes.proofs.Outcomes.{linked_now, of_held, node_there, member_number, no_orphan, renamed}
use Rattle.dav_nodes.proofs.Spots.{spots_renamed}
use Rattle.dav_nodes.proofs.nodes.Nodes.rename.Goals as goal

pub unreachable-requires-in_default-find_above : goal.unreachable-requires-in_default-find_above
unreachable-requires-in_default-find_above g c =
    let old = slab.get c.self.inside.nodes in
    let linked = linked_now old c.args.self.now c.self.inside.tree c.self.view_is in
    let no_root = λ (e : c.args.from.now ≡ []). not_root (parent c.args.from.now) c.in-Some-Some.name.now (sym c.in-Some-Some.ensures.last ∙ e) in
    no_orphan old old c.args.self.now linked c.args.from.now no_root c.requires.there (linked.numbered (parent c.args.from.now) ∙ sym c.find_above.ensures ∙ c.in_default-find_above.is)

pub relink-requires-clause-there : goal.relink-requires-clause-there
relink-requires-clause-there g c =
    let old = slab.get c.self.inside.nodes in
    let linked = linked_now old c.args.self.now c.self.inside.tree c.self.view_is in
    let at = linked.numbered (parent c.args.from.now) ∙ sym c.find_above.ensures ∙ c.in-Some.is in
    subst IsSome (member_number old c.args.self.now linked c.args.from.now c.in-Some-Some.name.now c.in-Some.above c.in-Some-Some.ensures.last at) c.requires.there

pub relink-requires-clause-above : goal.relink-requires-clause-above
relink-requires-clause-above g c =
    let old = slab.get c.self.inside.nodes in
    let linked = linked_now old c.args.self.now c.self.inside.tree c.self.view_is in
    let new_at = linked.numbered (parent c.args.to.now) ∙ sym c.find_above-2.ensures ∙ c.in-Some-find_above.is in
    node_there old c.args.self.now linked (parent c.args.to.now) c.in-Some-find_above.new_above new_at

pub invariant_of-self-inside : goal.invariant_of-self-inside
invariant_of-self-inside g c =
    let old = slab.get c.self.inside.nodes in
    let linked = linked_now old c.args.self.now c.self.inside.tree c.self.view_is in
    let new = slab.get c.relink.new.nodes in
    let at = linked.numbered (parent c.args.from.now) ∙ sym c.find_above.ensures ∙ c.in-Some.is in
    let new_at = linked.numbered (parent c.args.to.now) ∙ sym c.find_above-2.ensures ∙ c.in-Some-find_above.is in
    let done =
    renamed old new c.args.self.now linked c.args.from.now c.args.to.now c.in-Some-Some.name.now c.in-Some-Some.new_name.now c.in-Some.above c.in-Some-find_above.new_above
    c.in-Some-Some.ensures.last c.in-Some-Some.ensures'.last c.requires.apart at new_at c.requires.free c.relink.result c.relink.ensures.ok c.relink.ensures.err in
    let spots =
    spots_renamed old new c.args.self.now linked c.self.inside.spots c.args.from.now c.in-Some.above c.in-Some-Some.name.now c.in-Some-find_above.new_above c.in-Some-Some.new_name.now
    c.in-Some-Some.ensures.last c.requires.there at c.relink.result c.relink.ensures.ok c.relink.ensures.err in
    ((done.after, done.linked), (c.clear.ensures (place (member_at new)), (spots, tt)))

pub returns-clause-ok : goal.returns-clause-ok
returns-clause-ok g c =
    let old = slab.get c.self.inside.nodes in
    let linked = linked_now old c.args.self.now c.self.inside.tree c.self.view_is in
    let new = slab.get c.relink.new.nodes in
    let at = linked.numbered (parent c.args.from.now) ∙ sym c.find_above.ensures ∙ c.in-Some.is in
    let new_at = linked.numbered (parent c.args.to.now) ∙ sym c.find_above-2.ensures ∙ c.in-Some-find_above.is in
    let done =
    renamed old new c.args.self.now linked c.args.from.now c.args.to.now c.in-Some-Some.name.now c.in-Some-Some.new_name.now c.in-Some.above c.in-Some-find_above.new_above
    c.in-Some-Some.ensures.last c.in-Some-Some.ensures'.last c.requires.apart at new_at c.requires.free c.relink.result c.relink.ensures.ok c.relink.ensures.err in
    of_held g.row.R.coded new done.after (λ t. OnOk c.relink.result (IsTreeMoved c.args.from.now c.args.to.now c.args.self.now t)) done.linked done.ok c.self-1.given.0

pub returns-clause-err : goal.returns-clause-err
returns-clause-err g c =
    let old = slab.get c.self.inside.nodes in
    let linked = linked_now old c.args.self.now c.self.inside.tree c.self.view_is in
    let new = slab.get c.relink.new.nodes in
    let at = linked.numbered (parent c.args.from.now) ∙ sym c.find_above.ensures ∙ c.in-Some.is in
    let new_at = linked.numbered (parent c.args.to.now) ∙ sym c.find_above-2.ensures ∙ c.in-Some-find_above.is in
    let done =
    renamed old new c.args.self.now linked c.args.from.now c.args.to.now c.in-Some-Some.name.now c.in-Some-Some.new_name.now c.in-Some.above c.in-Some-find_above.new_above
    c.in-Some-Some.ensures.last c.in-Some-Some.ensures'.last c.requires.apart at new_at c.requires.free c.relink.result c.relink.ensures.ok c.relink.ensures.err in
    of_held g.row.R.coded new done.after (λ t. OnErr c.relink.result (t ≡ c.args.self.now)) done.linked done.err c.self-1.given.0
