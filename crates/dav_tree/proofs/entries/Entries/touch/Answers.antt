use Rattle.std.proofs.Common.{◌∙◌, ap, refl, Some}
use Rattle.dav_tree.specs.Memory.{touched}
use Rattle.dav_tree.specs.Kept.{Kept}
use Rattle.dav_tree.specs.Before.{past_code}
use Rattle.dav_tree.proofs.Keeping.{numbered-in}
use Rattle.dav_tree.proofs.Editing.{put-back, still-numbered, edited-kept, edited-change}
use Rattle.dav_tree.proofs.Saving.{saved-same}
use Rattle.dav_tree.proofs.entries.Entries.touch.Goals as goal

pub invariant_of-self : goal.invariant_of-self
invariant_of-self g c =
    let f = c.self.inside in let b = g.M.Medium.bytes f.medium in let h = g.M.Medium.holds f.medium in
    let r = put-back c.requires.0 c.take-entry.result _ c.exchange.new.value f.tree.nodes c.take-entry.new.tree.nodes c.exchange.new.self.nodes (c.take-entry.ensures.taken c.requires.0 (numbered-in b _ f.tree.nodes f.bodies f.next _ c.args.self.now c.self.view_is c.requires.0 (Some c.args.number) c.requires.1)) (c.exchange.ensures.replaced c.requires.0 (still-numbered c.requires.0 c.take-entry.result f.tree.nodes c.take-entry.new.tree.nodes c.args.number (c.take-entry.ensures.taken c.requires.0 (numbered-in b _ f.tree.nodes f.bodies f.next _ c.args.self.now c.self.view_is c.requires.0 (Some c.args.number) c.requires.1)) (numbered-in b _ f.tree.nodes f.bodies f.next _ c.args.self.now c.self.view_is c.requires.0 (Some c.args.number) c.requires.1))) in (
      edited-kept b b h h (λ _ held. held) (λ _ _. refl) _ f.tree.nodes f.used f.bodies f.next _ c.args.self.now c.self.view_is c.self.invariant.0 c.requires.0 c.exchange.new.self.nodes c.take-entry.result _ r f.used (c.self.invariant.0.held c.requires.0 c.take-entry.result r.there) refl,
      saved-same (g.M.Medium.safe f.medium) _ _ (c.exchange.ensures.before ∙ c.take-entry.ensures.before) c.self.invariant.1,
      c.self.invariant.2,
    )

pub returns-clause-touched : goal.returns-clause-touched
returns-clause-touched g c = λ key numbered.
    let f = c.self.inside in let b = g.M.Medium.bytes f.medium in let h = g.M.Medium.holds f.medium in
    let r = put-back key c.take-entry.result _ c.exchange.new.value f.tree.nodes c.take-entry.new.tree.nodes c.exchange.new.self.nodes (c.take-entry.ensures.taken key (numbered-in b _ f.tree.nodes f.bodies f.next _ c.args.self.now c.self.view_is key (Some c.args.number) numbered)) (c.exchange.ensures.replaced key (still-numbered key c.take-entry.result f.tree.nodes c.take-entry.new.tree.nodes c.args.number (c.take-entry.ensures.taken key (numbered-in b _ f.tree.nodes f.bodies f.next _ c.args.self.now c.self.view_is key (Some c.args.number) numbered)) (numbered-in b _ f.tree.nodes f.bodies f.next _ c.args.self.now c.self.view_is key (Some c.args.number) numbered))) in
    edited-change b b h h (λ _ held. held) (λ _ _. refl) _ f.tree.nodes f.used f.bodies f.next _ c.args.self.now c.self.view_is c.self.invariant.0 key c.exchange.new.self.nodes c.take-entry.result _ r _ _ (ap (past_code g.M.Medium.body_code b) (c.exchange.ensures.before ∙ c.take-entry.ensures.before)) (touched c.args.version c.args.now) refl

pub returns-clause-numbers : goal.returns-clause-numbers
returns-clause-numbers g c =
    let f = c.self.inside in let b = g.M.Medium.bytes f.medium in
    let numbered = numbered-in b _ f.tree.nodes f.bodies f.next _ c.args.self.now c.self.view_is c.requires.0 (Some c.args.number) c.requires.1 in
    let out = c.take-entry.ensures.taken c.requires.0 numbered in
    (c.exchange.ensures.replaced c.requires.0 (still-numbered c.requires.0 c.take-entry.result f.tree.nodes c.take-entry.new.tree.nodes c.args.number out numbered)).numbers
    ∙ out.taken.numbers ∙ ap (λ (k : Kept). k.numbers) c.self.view_is
