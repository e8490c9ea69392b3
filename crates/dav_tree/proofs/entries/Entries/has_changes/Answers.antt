use Rattle.std.proofs.Common.{ap}
use Rattle.dav_nodes.specs.Noted.{tree_of, before_of}
use Rattle.dav_tree.proofs.PastTrees.{unchanged}
use Rattle.dav_tree.proofs.entries.Entries.has_changes.Goals as goal

pub returns : goal.returns
returns g c = λ none.
    let f = c.self.inside in let m = g.M.Medium in
    let view = c.self.view_is in
    unchanged m.body_code (m.bytes f.medium) (before_of f.tree) (tree_of f.tree) c.args.self.now (ap (λ k. k.before) view) (ap (λ k. k.tree) view) (ap (λ k. k.resources) view)
    (c.has_changes.ensures none)
