use Rattle.dav_tree.proofs.entries.take.Goals as goal

pub returns-clause-taken : goal.returns-clause-taken
returns-clause-taken g c = λ key numbered. record { other = c.new-entry.result; taken = c.exchange.ensures.replaced key numbered }
