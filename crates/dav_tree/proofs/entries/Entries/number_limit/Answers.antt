use Rattle.std.proofs.Common.{◌<◌, arith, ap}
use Rattle.dav_nodes.specs.Noted.{tree_of}
use Rattle.dav_tree.proofs.PastTrees.{has-no-entry}
use Rattle.dav_tree.proofs.entries.Entries.number_limit.Goals as goal

pub returns : goal.returns
returns g c = λ number above.
    has-no-entry g.M.Medium.body_code (tree_of c.self.inside.tree) _ number (ap (λ k. k.tree) c.self.view_is)
    (λ row (key, at, is). let below : number < c.max_len.result = c.max_len.ensures.numbers key number at in omega arith)
