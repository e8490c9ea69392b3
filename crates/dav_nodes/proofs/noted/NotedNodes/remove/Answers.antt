use Rattle.std.proofs.Common.{IsSome, ◌∙◌, sym, ap, subst}
use Rattle.std.specs.FinMap.{get}
use Rattle.dav_nodes.specs.Tree.{HasNoMember}
use Rattle.dav_nodes.specs.Noted.{before_of}
use Rattle.dav_nodes.proofs.RowSteps.{keeps-removed, distinct-removed, noted_at}
use Rattle.dav_nodes.proofs.noted.NotedNodes.remove.Goals as goal

pub invariant_of-self : goal.invariant_of-self
invariant_of-self g c =
    let key = c.args.key.now in
    let mid = c.note_at.new.self in
    let same = c.note_at.ensures.tree in
    let childless = subst (HasNoMember key) (sym same) c.requires.childless in
    record {
      noted =
          noted_at key mid.changes (before_of mid) mid.nodes c.remove.new.self (subst (λ t. IsSome (get t.numbers key)) (sym same) c.requires.there)
          (λ number at. c.note_at.ensures.noted number (sym (ap (λ t. get t.numbers key) same) ∙ at))
          (λ number at n other. keeps-removed key number mid.nodes c.remove.new.self c.requires.root at childless c.remove.ensures.removed n other)
          (distinct-removed key mid.nodes c.remove.new.self c.show_linked.ensures.distinct c.remove.ensures.removed)
          mid.noted;
    }
