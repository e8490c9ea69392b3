use Rattle.std.proofs.Common.{◌∙◌, ◌==◌, ℕ, List, ap, not, length}
use Rattle.dav_store.specs.Members.{members}
use Rattle.dav_tree.specs.Memory.{tree_of}
use Rattle.dav_tree.specs.Kept.{Kept}
use Rattle.dav_tree.proofs.Listings.{names-members}
use Rattle.dav_tree.proofs.entries.Entries.has_members.Goals as goal

pub returns : goal.returns
returns g c =
    let f = c.self.inside in
    c.has_members.ensures.members ∙ ap (λ (ns : List (List ℕ)). not (length ns == 0)) (names-members (g.M.Medium.bytes f.medium) f.tree.nodes c.args.directory.now ∙ ap (λ (k : Kept). members (tree_of k.resources) c.args.directory.now) c.self.view_is)
