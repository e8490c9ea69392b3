use Rattle.std.proofs.Common.{◌∙◌, sym, ap}
use Rattle.std.specs.FinMap.{get}
use Rattle.dav_nodes.specs.Noted.{before_of}
use Rattle.dav_nodes.proofs.RowSteps.{keeps-replaced, noted_more}
use Rattle.dav_nodes.proofs.noted.NotedNodes.exchange.Goals as goal

pub invariant_of-self : goal.invariant_of-self
invariant_of-self g c =
    let replaced = c.exchange.ensures c.requires.0 c.requires.1 in
    record {
      noted =
          noted_more c.args.number c.args.self.now.changes c.note.new.self (before_of c.args.self.now) c.args.self.now.nodes c.exchange.new.self c.note.ensures.noted c.note.ensures.kept
          (keeps-replaced c.requires.0 c.args.number c.exchange.new.value c.args.value.now c.args.self.now.nodes c.exchange.new.self c.requires.1 replaced)
          (λ a b n p q. c.show_linked.ensures.distinct a b n (sym (ap (λ m. get m a) replaced.numbers) ∙ p) (sym (ap (λ m. get m b) replaced.numbers) ∙ q))
          c.args.self.now.noted;
    }
