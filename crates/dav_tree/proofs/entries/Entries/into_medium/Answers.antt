use Rattle.std.proofs.Common.{ap}
use Rattle.std.specs.Option.{option_map}
use Rattle.dav_nodes.specs.Noted.{before_of}
use Rattle.dav_tree.proofs.PastTrees.{has-saved}
use Rattle.dav_tree.proofs.entries.Entries.into_medium.Goals as goal

pub returns-clause-last : goal.returns-clause-last
returns-clause-last g c =
    let f = c.self.inside in let m = g.M.Medium in
    has-saved m.body_code (m.bytes f.medium) (m.safe f.medium) (before_of f.tree) _ (ap (λ k. k.before) c.self.view_is) c.self.invariant.1

pub returns-clause-older : goal.returns-clause-older
returns-clause-older g c =
    let f = c.self.inside in let m = g.M.Medium in
    has-saved m.body_code (m.bytes f.medium) (m.safe f.medium) (option_map (λ s. s.value) f.older) _ (ap (λ k. k.older) c.self.view_is) c.self.invariant.2
