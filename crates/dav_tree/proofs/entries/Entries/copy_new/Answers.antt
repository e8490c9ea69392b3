use Rattle.std.proofs.Common.{ap, refl, arith}
use Rattle.dav_tree.specs.Before.{past_code}
use Rattle.dav_tree.specs.Kept.{Kept}
use Rattle.dav_tree.proofs.Marking.{numbers-insert}
use Rattle.dav_tree.proofs.Keeping.{entry-in, copy-in, counted-before}
use Rattle.dav_tree.proofs.Editing.{added-kept, added-has}
use Rattle.dav_tree.proofs.Saving.{saved-same}
use Rattle.dav_tree.proofs.entries.Entries.copy_new.Goals as goal

pub entry_at-source-requires : goal.entry_at-source-requires
entry_at-source-requires g c =
    let f = c.self.inside in let b = g.M.Medium.bytes f.medium in let h = g.M.Medium.holds f.medium in
    entry-in b _ f.tree.nodes f.bodies f.next _ c.args.self.now c.self.view_is c.requires.from.0 c.args.from c.requires.from.1 c.requires.from.2

pub invariant_of-self-2 : goal.invariant_of-self-2
invariant_of-self-2 g c =
    let f = c.self.inside in let b = g.M.Medium.bytes f.medium in let h = g.M.Medium.holds f.medium in (
      added-kept b b h h (λ _ held. held) (λ _ _. refl) _ f.tree.nodes f.used f.bodies f.next _ c.args.self.now c.self.view_is c.self.invariant.0 c.args.to.now c.add.new.self.nodes c.in_ok-copy.copy c.in_ok-add.ensures.ok.values c.requires.absent.missing _ c.in_ok-copy.ensures.held
          (omega (arith, c.len-len.ensures, c.used-used.ensures.value, counted-before b b h h (λ _ held. held) (λ _ _. refl) _ f.tree.nodes f.used f.bodies f.next _ c.args.self.now c.self.view_is c.self.invariant.0)),
      saved-same (g.M.Medium.safe f.medium) _ _ c.add.ensures.before c.self.invariant.1,
      c.self.invariant.2,
    )

pub returns-clause-numbers : goal.returns-clause-numbers
returns-clause-numbers g c =
    numbers-insert c.args.self.now.numbers c.self.inside.tree.nodes.numbers c.add.new.self.nodes.numbers c.args.to.now _ c.requires.absent.unnumbered (ap (λ (k : Kept). k.numbers) c.self.view_is) c.in_ok-add.ensures.ok.numbers

pub returns-clause-ok : goal.returns-clause-ok
returns-clause-ok g c = λ k s at.
    let f = c.self.inside in let b = g.M.Medium.bytes f.medium in let h = g.M.Medium.holds f.medium in
    added-has b b h h (λ _ held. held) (λ _ _. refl) _ f.tree.nodes f.used f.bodies f.next _ c.args.self.now c.self.view_is c.self.invariant.0 c.args.to.now c.add.new.self.nodes c.in_ok-copy.copy c.in_ok-add.ensures.ok.values c.requires.absent.missing _ _ (ap (past_code g.M.Medium.body_code b) c.add.ensures.before) _
    (copy-in b _ f.tree.nodes f.bodies f.next _ c.args.self.now c.self.view_is k c.args.from s c.entry_at-source.result.now c.in_ok-copy.copy _ c.args.version c.args.now at c.entry_at-source.ensures c.in_ok-copy.ensures.ok)
