use Rattle.std.proofs.Common.{◌∙◌, ap, refl, Some, arith}
use Rattle.std.specs.FinMap.{get}
use Rattle.dav_tree.specs.Memory.{Stored}
use Rattle.dav_tree.specs.Before.{past_code}
use Rattle.dav_tree.proofs.Keeping.{entry-in, stored-in, copy-in, numbered-in}
use Rattle.dav_tree.proofs.Editing.{edited-kept, edited-has, edited-others}
use Rattle.dav_tree.proofs.Saving.{saved-same}
use Rattle.dav_tree.proofs.entries.Entries.copy_over.Goals as goal

pub entry_at-requires : goal.entry_at-requires
entry_at-requires g c =
    let f = c.self.inside in let b = g.M.Medium.bytes f.medium in let h = g.M.Medium.holds f.medium in
    entry-in b _ f.tree.nodes f.bodies f.next _ c.args.self.now c.self.view_is c.requires.to.0 c.args.to c.requires.to.1 c.requires.to.2

pub entry_at-source-requires : goal.entry_at-source-requires
entry_at-source-requires g c =
    let f = c.self.inside in let b = g.M.Medium.bytes f.medium in let h = g.M.Medium.holds f.medium in
    entry-in b _ f.tree.nodes f.bodies f.next _ c.args.self.now c.self.view_is c.requires.from.0 c.args.from c.requires.from.1 c.requires.from.2

pub invariant_of-self : goal.invariant_of-self
invariant_of-self g c =
    let f = c.self.inside in let b = g.M.Medium.bytes f.medium in let h = g.M.Medium.holds f.medium in
    let r = c.exchange.ensures.replaced c.requires.to.0 (numbered-in b _ f.tree.nodes f.bodies f.next _ c.args.self.now c.self.view_is c.requires.to.0 (Some c.args.to) c.requires.to.2.numbered) in (
      edited-kept b b h h (λ _ held. held) (λ _ _. refl) _ f.tree.nodes f.used f.bodies f.next _ c.args.self.now c.self.view_is c.self.invariant.0 c.requires.to.0 c.exchange.new.self.nodes _ _ r _ c.in_ok-copy.ensures.held
          (omega (arith, c.len-len.ensures, edited-others b b h h (λ _ held. held) (λ _ _. refl) _ f.tree.nodes f.used f.bodies f.next _ c.args.self.now c.self.view_is c.self.invariant.0 c.requires.to.0 c.exchange.new.self.nodes _ _ r c.used_by_others-others.result c.args.to c.requires.to.2.numbered c.used_by_others-others.ensures.value)),
      saved-same (g.M.Medium.safe f.medium) _ _ c.exchange.ensures.before c.self.invariant.1,
      c.self.invariant.2,
    )

pub returns-clause-numbers : goal.returns-clause-numbers
returns-clause-numbers g c = λ key number numbered.
    let f = c.self.inside in let b = g.M.Medium.bytes f.medium in
    let r = c.exchange.ensures.replaced c.requires.to.0 (numbered-in b _ f.tree.nodes f.bodies f.next _ c.args.self.now c.self.view_is c.requires.to.0 (Some c.args.to) c.requires.to.2.numbered) in
    ap (λ m. get m key) r.numbers ∙ numbered-in b _ f.tree.nodes f.bodies f.next _ c.args.self.now c.self.view_is key (Some number) numbered

pub returns-clause-ok : goal.returns-clause-ok
returns-clause-ok g c = λ k key s t at_s at_t.
    let f = c.self.inside in let b = g.M.Medium.bytes f.medium in let h = g.M.Medium.holds f.medium in
    let r = c.exchange.ensures.replaced key (numbered-in b _ f.tree.nodes f.bodies f.next _ c.args.self.now c.self.view_is key (Some c.args.to) at_t.numbered) in
    let made = ap (λ (x : Stored). x.created) (stored-in b _ f.tree.nodes f.bodies f.next _ c.args.self.now c.self.view_is key c.args.to t c.entry_at.result.now at_t c.entry_at.ensures) in
    edited-has b b h h (λ _ held. held) (λ _ _. refl) _ f.tree.nodes f.used f.bodies f.next _ c.args.self.now c.self.view_is c.self.invariant.0 key c.exchange.new.self.nodes _ _ r _ _ (ap (past_code g.M.Medium.body_code b) c.exchange.ensures.before) _
    (copy-in b _ f.tree.nodes f.bodies f.next _ c.args.self.now c.self.view_is k c.args.from s c.entry_at-source.result.now c.in_ok-copy.copy _ c.args.version c.args.now at_s c.entry_at-source.ensures c.in_ok-copy.ensures.ok
    ∙ ap (λ n. record s { version = c.args.version; created = n; modified = c.args.now }) made)
