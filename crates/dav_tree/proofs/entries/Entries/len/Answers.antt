use Rattle.std.proofs.Common.{◌∙◌, ◌<◌, ◌^◌, ap, sym, subst}
use Rattle.dav_tree.specs.Memory.{size_of}
use Rattle.dav_tree.proofs.Keeping.{entry-in, stored-in, content-small}
use Rattle.dav_tree.proofs.entries.Entries.len.Goals as goal

pub entry_at-requires : goal.entry_at-requires
entry_at-requires g c =
    entry-in (g.M.Medium.bytes c.self.inside.medium) _ c.self.inside.tree.nodes c.self.inside.bodies c.self.inside.next _ c.args.self.now c.self.view_is c.requires.0 c.args.number c.requires.1 c.requires.2

pub returns-clause-value : goal.returns-clause-value
returns-clause-value g c = λ key s at.
    c.len.ensures ∙ ap (λ x. size_of x.node) (stored-in (g.M.Medium.bytes c.self.inside.medium) _ c.self.inside.tree.nodes c.self.inside.bodies c.self.inside.next _ c.args.self.now c.self.view_is key c.args.number s c.entry_at.result.now at c.entry_at.ensures)

pub returns-clause-small : goal.returns-clause-small
returns-clause-small g c =
    let f = c.self.inside in
    let (key, e, numbered, _) = entry-in (g.M.Medium.bytes f.medium) _ f.tree.nodes f.bodies f.next _ c.args.self.now c.self.view_is c.requires.0 c.args.number c.requires.1 c.requires.2 in
    subst (λ n. n < 2 ^ 63) (sym c.len.ensures)
    (content-small (g.M.Medium.bytes f.medium) (g.M.Medium.holds f.medium) (g.met.M.Medium.small f.medium) c.entry_at.result.now.content (c.self.invariant.0.held key c.entry_at.result.now (c.entry_at.ensures key numbered)))
