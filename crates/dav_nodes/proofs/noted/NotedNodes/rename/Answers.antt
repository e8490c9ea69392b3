use Rattle.std.proofs.Common.{IsSome, ◌∙◌, sym, ap, subst}
use Rattle.std.specs.FinMap.{get}
use Rattle.dav_nodes.specs.Noted.{before_of}
use Rattle.dav_nodes.specs.Rows.{AreDistinct, KeepsRow}
use Rattle.dav_nodes.proofs.RowSteps.{keeps-moved, keeps-refl, distinct-moved, moved_or_same, noted_at}
use Rattle.dav_nodes.proofs.noted.NotedNodes.rename.Goals as goal

pub invariant_of-self : goal.invariant_of-self
invariant_of-self g c =
    let from = c.args.from.now in
    let to = c.args.to.now in
    let mid = c.note_at.new.self in
    let after = c.rename.new.self in
    let same = c.note_at.ensures.tree in
    let free = ap (λ t. get t.numbers to) same ∙ c.requires.free in
    let linked = c.show_linked.ensures in
    let done = c.rename.ensures in
    record {
      noted =
          noted_at from mid.changes (before_of mid) mid.nodes after (subst (λ t. IsSome (get t.numbers from)) (sym same) c.requires.there)
          (λ number at. c.note_at.ensures.noted number (sym (ap (λ t. get t.numbers from) same) ∙ at))
          (λ number at n other. moved_or_same c.rename.result from to mid.nodes after (KeepsRow n mid.nodes)
          (λ moved. keeps-moved from to number mid.nodes after linked.joined at free moved n other) (keeps-refl n mid.nodes) done.ok done.err)
          (moved_or_same c.rename.result from to mid.nodes after AreDistinct (distinct-moved from to mid.nodes after linked.distinct) linked.distinct done.ok done.err)
          mid.noted;
    }
