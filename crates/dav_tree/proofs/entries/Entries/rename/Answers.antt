use Rattle.std.proofs.Common.{ap, refl, sym, subst}
use Rattle.dav_key.specs.Below.{IsMoved}
use Rattle.dav_tree.specs.Kept.{Kept, AreKept}
use Rattle.dav_tree.specs.Before.{past_code}
use Rattle.dav_tree.proofs.Editing.{moved-kept, moved-has}
use Rattle.dav_tree.proofs.Outcomes.{either_way, on_ok_then}
use Rattle.dav_tree.proofs.Saving.{saved-same}
use Rattle.dav_tree.proofs.entries.Entries.rename.Goals as goal

pub invariant_of-self : goal.invariant_of-self
invariant_of-self g c =
    let f = c.self.inside in let b = g.M.Medium.bytes f.medium in let h = g.M.Medium.holds f.medium in (
      either_way c.rename.result
          (λ m. moved-kept b b h h (λ _ held. held) (λ _ _. refl) _ f.tree.nodes f.used f.bodies f.next _ c.args.self.now c.self.view_is c.self.invariant.0 c.args.from.now c.rename.new.self.nodes c.args.to.now m.values c.requires.none)
          (λ same. subst (λ t. AreKept b h t f.used f.bodies f.next) (sym same) c.self.invariant.0) c.rename.ensures.ok c.rename.ensures.err,
      saved-same (g.M.Medium.safe f.medium) _ _ c.rename.ensures.before c.self.invariant.1,
      c.self.invariant.2,
    )

pub returns-clause-numbers : goal.returns-clause-numbers
returns-clause-numbers g c =
    on_ok_then c.rename.result (λ m. subst (λ (k : Kept). IsMoved c.args.from.now c.args.to.now k.numbers c.rename.new.self.nodes.numbers) c.self.view_is m.numbers) c.rename.ensures.ok

pub returns-clause-ok : goal.returns-clause-ok
returns-clause-ok g c =
    let f = c.self.inside in let b = g.M.Medium.bytes f.medium in let h = g.M.Medium.holds f.medium in
    on_ok_then c.rename.result (λ m. moved-has b b h h (λ _ held. held) (λ _ _. refl) _ f.tree.nodes f.used f.bodies f.next _ c.args.self.now c.self.view_is c.self.invariant.0 c.args.from.now c.rename.new.self.nodes c.args.to.now m.values _ _ (ap (past_code g.M.Medium.body_code b) c.rename.ensures.before)) c.rename.ensures.ok
