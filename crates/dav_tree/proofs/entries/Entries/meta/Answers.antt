use Rattle.std.proofs.Common.{◌∙◌, ap}
use Rattle.dav_tree.specs.Memory.{meta_of}
use Rattle.dav_tree.proofs.Keeping.{entry-in, stored-in}
use Rattle.dav_tree.proofs.Outcomes.{ok_then}
use Rattle.dav_tree.proofs.entries.Entries.meta.Goals as goal

pub entry_at-requires : goal.entry_at-requires
entry_at-requires g c =
    entry-in (g.M.Medium.bytes c.self.inside.medium) _ c.self.inside.tree.nodes c.self.inside.bodies c.self.inside.next _ c.args.self.now c.self.view_is c.requires.0 c.args.number c.requires.1 c.requires.2

pub returns : goal.returns
returns g c = λ key s at.
    let same = stored-in (g.M.Medium.bytes c.self.inside.medium) _ c.self.inside.tree.nodes c.self.inside.bodies c.self.inside.next _ c.args.self.now c.self.view_is key c.args.number s c.entry_at.result.now at c.entry_at.ensures in
    ok_then c.meta.result (λ meta is. is ∙ ap (meta_of c.args.tag_part) same) c.meta.ensures
