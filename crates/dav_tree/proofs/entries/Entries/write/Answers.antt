use Rattle.std.proofs.Common.{refl, ◌∙◌, ap, Some, arith}
use Rattle.dav_tree.specs.Memory.{wrote, is_directory}
use Rattle.dav_tree.proofs.Keeping.{stored-in, numbered-in, file_by}
use Rattle.dav_tree.proofs.Editing.{put-back, still-numbered, edited-kept, edited-change, edited-same, edited-others}
use Rattle.dav_tree.proofs.Saving.{saved-now, past-now}
use Rattle.dav_tree.proofs.Outcomes.{on_ok_then, on_err_then}
use Rattle.dav_tree.proofs.entries.Entries.write.Goals as goal

pub write-answer-requires-clause-file : goal.write-answer-requires-clause-file
write-answer-requires-clause-file g c =
    let f = c.self.inside in let b = g.M.Medium.bytes f.medium in let h = g.M.Medium.holds f.medium in
    let same = stored-in b _ f.tree.nodes f.bodies f.next _ c.args.self.now c.self.view_is c.requires.file.0 c.args.number c.requires.file.1 c.take-entry.result c.requires.file.2 (λ key numbered. (c.take-entry.ensures.taken key numbered).taken.there) in
    file_by b c.take-entry.result.content (ap (λ x. is_directory x.node) same ∙ c.requires.file.3)

pub invariant_of-self : goal.invariant_of-self
invariant_of-self g c =
    let f = c.self.inside in let b = g.M.Medium.bytes f.medium in let h = g.M.Medium.holds f.medium in
    let r = put-back c.requires.file.0 c.take-entry.result _ c.exchange.new.value f.tree.nodes c.take-entry.new.tree.nodes c.exchange.new.self.nodes (c.take-entry.ensures.taken c.requires.file.0 (numbered-in b _ f.tree.nodes f.bodies f.next _ c.args.self.now c.self.view_is c.requires.file.0 (Some c.args.number) c.requires.file.2.numbered)) (c.exchange.ensures.replaced c.requires.file.0 (still-numbered c.requires.file.0 c.take-entry.result f.tree.nodes c.take-entry.new.tree.nodes c.args.number (c.take-entry.ensures.taken c.requires.file.0 (numbered-in b _ f.tree.nodes f.bodies f.next _ c.args.self.now c.self.view_is c.requires.file.0 (Some c.args.number) c.requires.file.2.numbered)) (numbered-in b _ f.tree.nodes f.bodies f.next _ c.args.self.now c.self.view_is c.requires.file.0 (Some c.args.number) c.requires.file.2.numbered))) in (
      edited-kept b (g.M.Medium.bytes c.write-answer.new.medium) h (g.M.Medium.holds c.write-answer.new.medium) c.write-answer.ensures.kept.held c.write-answer.ensures.kept.same _ f.tree.nodes f.used f.bodies f.next _ c.args.self.now c.self.view_is c.self.invariant.0 c.requires.file.0 c.exchange.new.self.nodes c.take-entry.result _ r _ c.write-answer.ensures.held
          (omega (arith, c.len-len.ensures, edited-others b (g.M.Medium.bytes c.write-answer.new.medium) h (g.M.Medium.holds c.write-answer.new.medium) c.write-answer.ensures.kept.held c.write-answer.ensures.kept.same _ f.tree.nodes f.used f.bodies f.next _ c.args.self.now c.self.view_is c.self.invariant.0 c.requires.file.0 c.exchange.new.self.nodes c.take-entry.result _ r c.used_by_others-others.result c.args.number c.requires.file.2.numbered c.used_by_others-others.ensures.value)),
      saved-now g.M.Medium.bytes g.M.Medium.holds g.M.Medium.safe f.medium c.write-answer.new.medium c.write-answer.ensures.kept _ _ (c.exchange.ensures.before ∙ c.take-entry.ensures.before) c.self.invariant.1,
      saved-now g.M.Medium.bytes g.M.Medium.holds g.M.Medium.safe f.medium c.write-answer.new.medium c.write-answer.ensures.kept _ _ refl c.self.invariant.2,
    )

pub returns-clause-ok : goal.returns-clause-ok
returns-clause-ok g c = λ key numbered.
    let f = c.self.inside in let b = g.M.Medium.bytes f.medium in let h = g.M.Medium.holds f.medium in
    let r = put-back key c.take-entry.result _ c.exchange.new.value f.tree.nodes c.take-entry.new.tree.nodes c.exchange.new.self.nodes (c.take-entry.ensures.taken key (numbered-in b _ f.tree.nodes f.bodies f.next _ c.args.self.now c.self.view_is key (Some c.args.number) numbered)) (c.exchange.ensures.replaced key (still-numbered key c.take-entry.result f.tree.nodes c.take-entry.new.tree.nodes c.args.number (c.take-entry.ensures.taken key (numbered-in b _ f.tree.nodes f.bodies f.next _ c.args.self.now c.self.view_is key (Some c.args.number) numbered)) (numbered-in b _ f.tree.nodes f.bodies f.next _ c.args.self.now c.self.view_is key (Some c.args.number) numbered))) in
    on_ok_then c.write-answer.result
    (λ is. edited-change b (g.M.Medium.bytes c.write-answer.new.medium) h (g.M.Medium.holds c.write-answer.new.medium) c.write-answer.ensures.kept.held c.write-answer.ensures.kept.same _ f.tree.nodes f.used f.bodies f.next _ c.args.self.now c.self.view_is c.self.invariant.0 key c.exchange.new.self.nodes c.take-entry.result _ r _ _ (past-now g.M.Medium.bytes g.M.Medium.holds g.M.Medium.safe f.medium c.write-answer.new.medium c.write-answer.ensures.kept g.M.Medium.body_code g.met.M.Medium.safe_held _ _ (c.exchange.ensures.before ∙ c.take-entry.ensures.before) c.self.invariant.1) (wrote c.args.place c.args.more.now c.args.version c.args.now) is)
    c.write-answer.ensures.ok

pub returns-clause-same : goal.returns-clause-same
returns-clause-same g c =
    let f = c.self.inside in let b = g.M.Medium.bytes f.medium in let h = g.M.Medium.holds f.medium in
    let r = put-back c.requires.file.0 c.take-entry.result _ c.exchange.new.value f.tree.nodes c.take-entry.new.tree.nodes c.exchange.new.self.nodes (c.take-entry.ensures.taken c.requires.file.0 (numbered-in b _ f.tree.nodes f.bodies f.next _ c.args.self.now c.self.view_is c.requires.file.0 (Some c.args.number) c.requires.file.2.numbered)) (c.exchange.ensures.replaced c.requires.file.0 (still-numbered c.requires.file.0 c.take-entry.result f.tree.nodes c.take-entry.new.tree.nodes c.args.number (c.take-entry.ensures.taken c.requires.file.0 (numbered-in b _ f.tree.nodes f.bodies f.next _ c.args.self.now c.self.view_is c.requires.file.0 (Some c.args.number) c.requires.file.2.numbered)) (numbered-in b _ f.tree.nodes f.bodies f.next _ c.args.self.now c.self.view_is c.requires.file.0 (Some c.args.number) c.requires.file.2.numbered))) in
    on_err_then c.write-answer.result (λ is. edited-same b (g.M.Medium.bytes c.write-answer.new.medium) h (g.M.Medium.holds c.write-answer.new.medium) c.write-answer.ensures.kept.held c.write-answer.ensures.kept.same _ f.tree.nodes f.used f.bodies f.next _ c.args.self.now c.self.view_is c.self.invariant.0 c.requires.file.0 c.exchange.new.self.nodes c.take-entry.result _ r _ _ (past-now g.M.Medium.bytes g.M.Medium.holds g.M.Medium.safe f.medium c.write-answer.new.medium c.write-answer.ensures.kept g.M.Medium.body_code g.met.M.Medium.safe_held _ _ (c.exchange.ensures.before ∙ c.take-entry.ensures.before) c.self.invariant.1) is) c.write-answer.ensures.same
