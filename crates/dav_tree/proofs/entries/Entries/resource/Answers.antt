use Rattle.std.proofs.Common.{ap}
use Rattle.dav_nodes.specs.Noted.{tree_of}
use Rattle.dav_tree.proofs.Outcomes.{some_then}
use Rattle.dav_tree.proofs.PastTrees.{has-entry, has-no-entry}
use Rattle.dav_tree.proofs.entries.Entries.resource.Goals as goal

pub returns-clause-some : goal.returns-clause-some
returns-clause-some g c =
    some_then c.placed.result (λ placed has. has-entry g.M.Medium.body_code (tree_of c.self.inside.tree) _ c.args.number _ (ap (λ k. k.tree) c.self.view_is) has) c.placed.ensures.some

pub returns-clause-none : goal.returns-clause-none
returns-clause-none g c = λ none.
    has-no-entry g.M.Medium.body_code (tree_of c.self.inside.tree) _ c.args.number (ap (λ k. k.tree) c.self.view_is) (c.placed.ensures.none none)
