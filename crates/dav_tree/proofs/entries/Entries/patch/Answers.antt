use Rattle.std.proofs.Common.{◌∙◌, ◌+◌, ap, refl, sym, Some}
use Rattle.dav_tree.specs.Memory.{patched_by, size_of}
use Rattle.dav_tree.specs.Entry.{stored_by, node_by, is_held}
use Rattle.dav_tree.specs.Before.{past_code}
use Rattle.dav_tree.proofs.Keeping.{numbered-in}
use Rattle.dav_tree.proofs.Editing.{put-back, still-numbered, edited-kept, edited-change, edited-same}
use Rattle.dav_tree.proofs.Outcomes.{on_ok_then, on_err_then}
use Rattle.dav_tree.proofs.Saving.{saved-same}
use Rattle.dav_tree.proofs.entries.Entries.patch.Goals as goal

pub invariant_of-self : goal.invariant_of-self
invariant_of-self g c =
    let f = c.self.inside in let b = g.M.Medium.bytes f.medium in let h = g.M.Medium.holds f.medium in
    let r = put-back c.requires.0 c.take-entry.result _ c.exchange.new.value f.tree.nodes c.take-entry.new.tree.nodes c.exchange.new.self.nodes (c.take-entry.ensures.taken c.requires.0 (numbered-in b _ f.tree.nodes f.bodies f.next _ c.args.self.now c.self.view_is c.requires.0 (Some c.args.number) c.requires.2.numbered)) (c.exchange.ensures.replaced c.requires.0 (still-numbered c.requires.0 c.take-entry.result f.tree.nodes c.take-entry.new.tree.nodes c.args.number (c.take-entry.ensures.taken c.requires.0 (numbered-in b _ f.tree.nodes f.bodies f.next _ c.args.self.now c.self.view_is c.requires.0 (Some c.args.number) c.requires.2.numbered)) (numbered-in b _ f.tree.nodes f.bodies f.next _ c.args.self.now c.self.view_is c.requires.0 (Some c.args.number) c.requires.2.numbered))) in (
      edited-kept b b h h (λ _ held. held) (λ _ _. refl) _ f.tree.nodes f.used f.bodies f.next _ c.args.self.now c.self.view_is c.self.invariant.0 c.requires.0 c.exchange.new.self.nodes c.take-entry.result _ r f.used
          (ap (is_held h) c.patch-answer.ensures.content ∙ c.self.invariant.0.held c.requires.0 c.take-entry.result r.there)
          (ap (λ content. f.used + size_of (node_by b content)) (sym c.patch-answer.ensures.content)),
      saved-same (g.M.Medium.safe f.medium) _ _ (c.exchange.ensures.before ∙ c.take-entry.ensures.before) c.self.invariant.1,
      c.self.invariant.2,
    )

pub returns-clause-ok : goal.returns-clause-ok
returns-clause-ok g c = λ key numbered.
    let f = c.self.inside in let b = g.M.Medium.bytes f.medium in let h = g.M.Medium.holds f.medium in
    let r = put-back key c.take-entry.result _ c.exchange.new.value f.tree.nodes c.take-entry.new.tree.nodes c.exchange.new.self.nodes (c.take-entry.ensures.taken key (numbered-in b _ f.tree.nodes f.bodies f.next _ c.args.self.now c.self.view_is key (Some c.args.number) numbered)) (c.exchange.ensures.replaced key (still-numbered key c.take-entry.result f.tree.nodes c.take-entry.new.tree.nodes c.args.number (c.take-entry.ensures.taken key (numbered-in b _ f.tree.nodes f.bodies f.next _ c.args.self.now c.self.view_is key (Some c.args.number) numbered)) (numbered-in b _ f.tree.nodes f.bodies f.next _ c.args.self.now c.self.view_is key (Some c.args.number) numbered))) in
    on_ok_then c.patch-answer.result
    (λ is. edited-change b b h h (λ _ held. held) (λ _ _. refl) _ f.tree.nodes f.used f.bodies f.next _ c.args.self.now c.self.view_is c.self.invariant.0 key c.exchange.new.self.nodes c.take-entry.result _ r _ _ (ap (past_code g.M.Medium.body_code b) (c.exchange.ensures.before ∙ c.take-entry.ensures.before)) (patched_by c.args.patches.now) is)
    (c.patch-answer.ensures.ok b)

pub returns-clause-err : goal.returns-clause-err
returns-clause-err g c =
    let f = c.self.inside in let b = g.M.Medium.bytes f.medium in let h = g.M.Medium.holds f.medium in
    let r = put-back c.requires.0 c.take-entry.result _ c.exchange.new.value f.tree.nodes c.take-entry.new.tree.nodes c.exchange.new.self.nodes (c.take-entry.ensures.taken c.requires.0 (numbered-in b _ f.tree.nodes f.bodies f.next _ c.args.self.now c.self.view_is c.requires.0 (Some c.args.number) c.requires.2.numbered)) (c.exchange.ensures.replaced c.requires.0 (still-numbered c.requires.0 c.take-entry.result f.tree.nodes c.take-entry.new.tree.nodes c.args.number (c.take-entry.ensures.taken c.requires.0 (numbered-in b _ f.tree.nodes f.bodies f.next _ c.args.self.now c.self.view_is c.requires.0 (Some c.args.number) c.requires.2.numbered)) (numbered-in b _ f.tree.nodes f.bodies f.next _ c.args.self.now c.self.view_is c.requires.0 (Some c.args.number) c.requires.2.numbered))) in
    on_err_then c.patch-answer.result (λ is. edited-same b b h h (λ _ held. held) (λ _ _. refl) _ f.tree.nodes f.used f.bodies f.next _ c.args.self.now c.self.view_is c.self.invariant.0 c.requires.0 c.exchange.new.self.nodes c.take-entry.result _ r _ _ (ap (past_code g.M.Medium.body_code b) (c.exchange.ensures.before ∙ c.take-entry.ensures.before)) (ap (stored_by b) is)) c.patch-answer.ensures.err
