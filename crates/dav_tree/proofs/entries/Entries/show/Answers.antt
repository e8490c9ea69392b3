use Rattle.std.proofs.Common.{ap}
use Rattle.dav_nodes.specs.Noted.{tree_of}
use Rattle.dav_tree.proofs.entries.Entries.show.Goals as goal

pub returns : goal.returns
returns g c =
    let f = c.self.inside in record {
      bytes = g.M.Medium.bytes f.medium;
      tree = tree_of f.tree;
      entries = ap (λ k. k.tree) c.self.view_is;
      resources_are = ap (λ k. k.resources) c.self.view_is;
      root = c.show_root.ensures;
      distinct = c.show_linked.ensures.distinct;
      joined = c.show_linked.ensures.joined;
      numbered = c.show_linked.ensures.numbered;
    }
