use Rattle.dav_nodes.specs.Noted.{before_of}
use Rattle.dav_nodes.proofs.RowSteps.{keeps-added, distinct-added, noted_more}
use Rattle.dav_nodes.proofs.noted.NotedNodes.add.Goals as goal

pub invariant_of-self-2 : goal.invariant_of-self-2
invariant_of-self-2 g c =
    let added = c.in_ok-number.ensures.ok in
    record {
      noted =
          noted_more c.in_ok-number.number c.args.self.now.changes c.note.new.self (before_of c.args.self.now) c.args.self.now.nodes c.add.new.self c.note.ensures.noted c.note.ensures.kept
          (keeps-added c.args.key.now c.in_ok-number.number c.args.value c.args.self.now.nodes c.add.new.self c.show_linked.ensures.joined c.requires.absent added)
          (distinct-added c.args.key.now c.in_ok-number.number c.args.value c.args.self.now.nodes c.add.new.self c.show_linked.ensures.distinct added)
          c.args.self.now.noted;
    }
