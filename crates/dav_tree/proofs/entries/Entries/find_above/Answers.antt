use Rattle.std.proofs.Common.{◌∙◌, sym}
use Rattle.dav_key.specs.Key.{parent}
use Rattle.dav_tree.proofs.Keeping.{kept-none, kept-found}
use Rattle.dav_tree.proofs.entries.Entries.find_above.Goals as goal

pub returns-in_default : goal.returns-in_default
returns-in_default g c =
    kept-none (g.M.Medium.bytes c.self.inside.medium) _ c.self.inside.tree.nodes c.self.inside.bodies c.self.inside.next _ c.args.self.now c.self.view_is (parent c.args.key.now) c.find_above.result c.in_default.is c.find_above.ensures.number c.find_above.ensures.there

pub returns : goal.returns
returns g c =
    let numbered = sym c.find_above.ensures.number ∙ c.in-Some.is in
    kept-found (g.M.Medium.bytes c.self.inside.medium) _ c.self.inside.tree.nodes c.self.inside.bodies c.self.inside.next _ c.args.self.now c.self.view_is (parent c.args.key.now) c.in-Some.number c.in-Some-at.entry.now c.is_directory-directory.result
    numbered (sym (c.in-Some-at.ensures (parent c.args.key.now) numbered)) (c.is_directory-directory.ensures _)
