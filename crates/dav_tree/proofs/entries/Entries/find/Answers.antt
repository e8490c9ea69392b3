use Rattle.std.proofs.Common.{◌∙◌, ap, sym, subst}
use Rattle.std.specs.FinMap.{get}
use Rattle.dav_tree.specs.Kept.{AreKept}
use Rattle.dav_tree.proofs.Keeping.{kept-none, kept-found}
use Rattle.dav_tree.proofs.Saving.{saved-same}
use Rattle.dav_tree.proofs.entries.Entries.find.Goals as goal

pub returns-in_default-clause-found : goal.returns-in_default-clause-found
returns-in_default-clause-found g c =
    kept-none (g.M.Medium.bytes c.self.inside.medium) _ c.self.inside.tree.nodes c.self.inside.bodies c.self.inside.next _ c.args.self.now c.self.view_is c.args.key.now c.find.result c.in_default.is c.find.ensures.number c.find.ensures.there

pub returns-clause-found : goal.returns-clause-found
returns-clause-found g c =
    let numbered = sym c.find.ensures.number ∙ c.in-Some.is in
    let there = sym (c.in-Some-at.ensures c.args.key.now (ap (λ t. get t.numbers c.args.key.now) c.find.ensures.same.tree ∙ numbered)) in
    kept-found (g.M.Medium.bytes c.self.inside.medium) _ c.self.inside.tree.nodes c.self.inside.bodies c.self.inside.next _ c.args.self.now c.self.view_is c.args.key.now c.in-Some.number c.in-Some-at.entry.now c.is_directory-directory.result
    numbered (ap (λ t. get t.values c.args.key.now) (sym c.find.ensures.same.tree) ∙ there) (c.is_directory-directory.ensures _)

pub invariant_of-self-2 : goal.invariant_of-self-2
invariant_of-self-2 g c =
    let f = c.self.inside in let m = g.M.Medium in (
      subst (λ t. AreKept (m.bytes f.medium) (m.holds f.medium) t f.used f.bodies f.next) (sym c.find.ensures.same.tree) c.self.invariant.0,
      saved-same (m.safe f.medium) _ _ c.find.ensures.same.before c.self.invariant.1,
      c.self.invariant.2,
    )
