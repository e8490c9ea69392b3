use Rattle.std.proofs.Common.{ap}
use Rattle.dav_nodes.specs.Noted.{before_of}
use Rattle.dav_tree.proofs.PastTrees.{has-saved}
use Rattle.dav_tree.proofs.entries.Entries.medium.Goals as goal

pub returns : goal.returns
returns g c =
    let f = c.self.inside in let m = g.M.Medium in
    has-saved m.body_code (m.bytes f.medium) (m.safe f.medium) (before_of f.tree) _ (ap (λ k. k.before) c.self.view_is) c.self.invariant.1
