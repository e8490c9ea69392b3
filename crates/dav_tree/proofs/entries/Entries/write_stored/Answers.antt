use Rattle.std.proofs.Common.{◌∙◌, ap, sym, refl, Some, [], arith, length, subst, nat_cmp}
use Rattle.std.specs.BTreeMap as ordered
use Rattle.dav_tree.specs.Memory.{change_at, wrote, is_directory}
use Rattle.dav_tree.specs.Entry.{stored_by}
use Rattle.dav_store.specs.BodyCalls.{stored_bytes}
use Rattle.dav_tree.specs.Kept.{held_of, Has}
use Rattle.dav_tree.proofs.Keeping.{stored-some, stored-none, stored-in, numbered-in, file_by}
use Rattle.dav_tree.proofs.Editing.{put-back, still-numbered, edited-kept, edited-change, edited-same, edited-others}
use Rattle.dav_tree.proofs.Saving.{saved-now, past-now}
use Rattle.dav_tree.proofs.Outcomes.{on_ok_then, on_err_then}
use Rattle.dav_tree.proofs.entries.Entries.write_stored.Goals as goal

pub write_body-answer-requires-clause-file : goal.write_body-answer-requires-clause-file
write_body-answer-requires-clause-file g c =
    let f = c.self.inside in let b = g.M.Medium.bytes f.medium in let h = g.M.Medium.holds f.medium in
    let same = stored-in b _ f.tree.nodes f.bodies f.next _ c.args.self.now c.self.view_is c.requires.file.0 c.args.number c.requires.file.1 c.take-entry.result c.requires.file.2 (λ key numbered. (c.take-entry.ensures.taken key numbered).taken.there) in
    file_by b c.take-entry.result.content (ap (λ x. is_directory x.node) same ∙ c.requires.file.3)

pub invariant_of-self : goal.invariant_of-self
invariant_of-self g c =
    let f = c.self.inside in let b = g.M.Medium.bytes f.medium in let h = g.M.Medium.holds f.medium in
    let r = put-back c.requires.file.0 c.take-entry.result _ c.exchange.new.value f.tree.nodes c.take-entry.new.tree.nodes c.exchange.new.self.nodes (c.take-entry.ensures.taken c.requires.file.0 (numbered-in b _ f.tree.nodes f.bodies f.next _ c.args.self.now c.self.view_is c.requires.file.0 (Some c.args.number) c.requires.file.2.numbered)) (c.exchange.ensures.replaced c.requires.file.0 (still-numbered c.requires.file.0 c.take-entry.result f.tree.nodes c.take-entry.new.tree.nodes c.args.number (c.take-entry.ensures.taken c.requires.file.0 (numbered-in b _ f.tree.nodes f.bodies f.next _ c.args.self.now c.self.view_is c.requires.file.0 (Some c.args.number) c.requires.file.2.numbered)) (numbered-in b _ f.tree.nodes f.bodies f.next _ c.args.self.now c.self.view_is c.requires.file.0 (Some c.args.number) c.requires.file.2.numbered))) in (
      edited-kept b (g.M.Medium.bytes c.write_body-answer.new.medium) h (g.M.Medium.holds c.write_body-answer.new.medium) c.write_body-answer.ensures.kept.held c.write_body-answer.ensures.kept.same _ f.tree.nodes f.used f.bodies f.next _ c.args.self.now c.self.view_is c.self.invariant.0 c.requires.file.0 c.exchange.new.self.nodes c.take-entry.result _ r _ c.write_body-answer.ensures.held
          (omega (arith, c.len-len.ensures, edited-others b (g.M.Medium.bytes c.write_body-answer.new.medium) h (g.M.Medium.holds c.write_body-answer.new.medium) c.write_body-answer.ensures.kept.held c.write_body-answer.ensures.kept.same _ f.tree.nodes f.used f.bodies f.next _ c.args.self.now c.self.view_is c.self.invariant.0 c.requires.file.0 c.exchange.new.self.nodes c.take-entry.result _ r c.used_by_others-others.result c.args.number c.requires.file.2.numbered c.used_by_others-others.ensures.value)),
      saved-now g.M.Medium.bytes g.M.Medium.holds g.M.Medium.safe f.medium c.write_body-answer.new.medium c.write_body-answer.ensures.kept _ _ (c.exchange.ensures.before ∙ c.take-entry.ensures.before) c.self.invariant.1,
      saved-now g.M.Medium.bytes g.M.Medium.holds g.M.Medium.safe f.medium c.write_body-answer.new.medium c.write_body-answer.ensures.kept _ _ refl c.self.invariant.2,
    )

pub returns-clause-ok : goal.returns-clause-ok
returns-clause-ok g c = λ key numbered.
    let f = c.self.inside in let b = g.M.Medium.bytes f.medium in let h = g.M.Medium.holds f.medium in
    let r = put-back key c.take-entry.result _ c.exchange.new.value f.tree.nodes c.take-entry.new.tree.nodes c.exchange.new.self.nodes (c.take-entry.ensures.taken key (numbered-in b _ f.tree.nodes f.bodies f.next _ c.args.self.now c.self.view_is key (Some c.args.number) numbered)) (c.exchange.ensures.replaced key (still-numbered key c.take-entry.result f.tree.nodes c.take-entry.new.tree.nodes c.args.number (c.take-entry.ensures.taken key (numbered-in b _ f.tree.nodes f.bodies f.next _ c.args.self.now c.self.view_is key (Some c.args.number) numbered)) (numbered-in b _ f.tree.nodes f.bodies f.next _ c.args.self.now c.self.view_is key (Some c.args.number) numbered))) in
    on_ok_then c.write_body-answer.result
    (λ is0. let stored = stored-some b _ f.tree.nodes f.bodies f.next _ c.args.self.now c.self.view_is c.args.body c.in-Some.from.now (sym (c.in-Some.ensures.value ∙ ap (λ n. ordered.get nat_cmp f.bodies n) c.as_u64.ensures)) in let is = is0 ∙ ap (λ bs. wrote c.args.place bs c.args.version c.args.now (stored_by b c.take-entry.result)) (sym stored) in edited-change b (g.M.Medium.bytes c.write_body-answer.new.medium) h (g.M.Medium.holds c.write_body-answer.new.medium) c.write_body-answer.ensures.kept.held c.write_body-answer.ensures.kept.same _ f.tree.nodes f.used f.bodies f.next _ c.args.self.now c.self.view_is c.self.invariant.0 key c.exchange.new.self.nodes c.take-entry.result _ r _ _ (past-now g.M.Medium.bytes g.M.Medium.holds g.M.Medium.safe f.medium c.write_body-answer.new.medium c.write_body-answer.ensures.kept g.M.Medium.body_code g.met.M.Medium.safe_held _ _ (c.exchange.ensures.before ∙ c.take-entry.ensures.before) c.self.invariant.1) (wrote c.args.place (stored_bytes (held_of c.args.self.now).bodies c.args.body) c.args.version c.args.now) is)
    c.write_body-answer.ensures.ok

pub returns-clause-same : goal.returns-clause-same
returns-clause-same g c =
    let f = c.self.inside in let b = g.M.Medium.bytes f.medium in let h = g.M.Medium.holds f.medium in
    let r = put-back c.requires.file.0 c.take-entry.result _ c.exchange.new.value f.tree.nodes c.take-entry.new.tree.nodes c.exchange.new.self.nodes (c.take-entry.ensures.taken c.requires.file.0 (numbered-in b _ f.tree.nodes f.bodies f.next _ c.args.self.now c.self.view_is c.requires.file.0 (Some c.args.number) c.requires.file.2.numbered)) (c.exchange.ensures.replaced c.requires.file.0 (still-numbered c.requires.file.0 c.take-entry.result f.tree.nodes c.take-entry.new.tree.nodes c.args.number (c.take-entry.ensures.taken c.requires.file.0 (numbered-in b _ f.tree.nodes f.bodies f.next _ c.args.self.now c.self.view_is c.requires.file.0 (Some c.args.number) c.requires.file.2.numbered)) (numbered-in b _ f.tree.nodes f.bodies f.next _ c.args.self.now c.self.view_is c.requires.file.0 (Some c.args.number) c.requires.file.2.numbered))) in
    on_err_then c.write_body-answer.result (λ is. edited-same b (g.M.Medium.bytes c.write_body-answer.new.medium) h (g.M.Medium.holds c.write_body-answer.new.medium) c.write_body-answer.ensures.kept.held c.write_body-answer.ensures.kept.same _ f.tree.nodes f.used f.bodies f.next _ c.args.self.now c.self.view_is c.self.invariant.0 c.requires.file.0 c.exchange.new.self.nodes c.take-entry.result _ r _ _ (past-now g.M.Medium.bytes g.M.Medium.holds g.M.Medium.safe f.medium c.write_body-answer.new.medium c.write_body-answer.ensures.kept g.M.Medium.body_code g.met.M.Medium.safe_held _ _ (c.exchange.ensures.before ∙ c.take-entry.ensures.before) c.self.invariant.1) is) c.write_body-answer.ensures.same

pub returns-in_default-clause-ok : goal.returns-in_default-clause-ok
returns-in_default-clause-ok g c =
    let f = c.self.inside in let b = g.M.Medium.bytes f.medium in let h = g.M.Medium.holds f.medium in
    let none = stored-none b _ f.tree.nodes f.bodies f.next _ c.args.self.now c.self.view_is c.args.body (sym (c.in_default.ensures.value ∙ ap (λ n. ordered.get nat_cmp f.bodies n) c.as_u64.ensures)) in
    λ key numbered. on_ok_then c.write.result
    (λ (has : Has (change_at key (wrote c.args.place [] c.args.version c.args.now) c.args.self.now.resources) (held_of c.args.self.now) c.write.new.self).
    subst (λ bs. Has (change_at key (wrote c.args.place bs c.args.version c.args.now) c.args.self.now.resources) (held_of c.args.self.now) c.write.new.self) (sym none) has) (c.write.ensures.ok key numbered)

pub write_body-answer-requires-clause-fits : goal.write_body-answer-requires-clause-fits
write_body-answer-requires-clause-fits g c =
    let f = c.self.inside in let b = g.M.Medium.bytes f.medium in let h = g.M.Medium.holds f.medium in
    let stored = stored-some b _ f.tree.nodes f.bodies f.next _ c.args.self.now c.self.view_is c.args.body c.in-Some.from.now (sym (c.in-Some.ensures.value ∙ ap (λ n. ordered.get nat_cmp f.bodies n) c.as_u64.ensures)) in
    omega (arith, c.requires.fits, ap length stored)
