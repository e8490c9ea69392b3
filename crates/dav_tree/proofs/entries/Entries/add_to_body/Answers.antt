use Rattle.std.proofs.Common.{◌∙◌, ◌++◌, ap, refl, sym, subst, inr, Some, IsSome, nat_cmp}
use Rattle.std.specs.Option.{option_map}
use Rattle.std.specs.BTreeMap as ordered
use Rattle.dav_store.specs.Calls.{written_at}
use Rattle.dav_store.specs.BodyCalls.{stored_bytes, put_body}
use Rattle.dav_tree.specs.Memory.{lengthened}
use Rattle.dav_tree.specs.MemoryCalls.{missing_error}
use Rattle.dav_tree.specs.Kept.{held_of}
use Rattle.dav_tree.proofs.Keeping.{body-in, stored-some, kept-with, put-stored, put-below, put-same, has-held, bodies-put, written-end}
use Rattle.dav_tree.proofs.Outcomes.{on_ok, on_ok_then, on_err_then}
use Rattle.dav_tree.proofs.Saving.{saved-now, past-now}
use Rattle.dav_tree.proofs.entries.Entries.add_to_body.Goals as goal

pub returns-in_default-clause-err : goal.returns-in_default-clause-err
returns-in_default-clause-err g c =
    let f = c.self.inside in let b = g.M.Medium.bytes f.medium in let h = g.M.Medium.holds f.medium in
    let none = c.in_default.ensures.value ∙ ap (λ n. ordered.get nat_cmp f.bodies n) c.as_u64.ensures in
    inr (ap missing_error (body-in b _ f.tree.nodes f.bodies f.next _ c.args.self.now c.self.view_is c.args.number ∙ ap (option_map b) (sym none)))

pub invariant_of-self-2 : goal.invariant_of-self-2
invariant_of-self-2 g c =
    let f = c.self.inside in let b = g.M.Medium.bytes f.medium in let h = g.M.Medium.holds f.medium in
    let there = c.in-Some.ensures.value in let up = ((c.get_mut.follows.holds c.write.new.body).3 (subst IsSome there refl)).0 in let map1 = c.get_mut.follows.lender c.write.new.body in (
      kept-with b (g.M.Medium.bytes c.write.new.self) h (g.M.Medium.holds c.write.new.self) c.write.ensures.kept.held c.write.ensures.kept.same _ f.tree.nodes f.used f.bodies f.next _ c.args.self.now c.self.view_is c.self.invariant.0 map1 f.next
          (put-stored b (g.M.Medium.bytes c.write.new.self) h (g.M.Medium.holds c.write.new.self) c.write.ensures.kept.held c.write.ensures.kept.same _ f.tree.nodes f.used f.bodies f.next _ c.args.self.now c.self.view_is c.self.invariant.0 map1 c.as_u64.result c.write.new.body up c.write.ensures.held)
          (put-below b (g.M.Medium.bytes c.write.new.self) h (g.M.Medium.holds c.write.new.self) c.write.ensures.kept.held c.write.ensures.kept.same _ f.tree.nodes f.used f.bodies f.next _ c.args.self.now c.self.view_is c.self.invariant.0 map1 c.as_u64.result c.write.new.body up c.in-Some.body.now (sym there)),
      saved-now g.M.Medium.bytes g.M.Medium.holds g.M.Medium.safe f.medium c.write.new.self c.write.ensures.kept _ _ refl c.self.invariant.1,
      saved-now g.M.Medium.bytes g.M.Medium.holds g.M.Medium.safe f.medium c.write.new.self c.write.ensures.kept _ _ refl c.self.invariant.2,
    )

pub returns-clause-due : goal.returns-clause-due
returns-clause-due g c =
    let f = c.self.inside in let b = g.M.Medium.bytes f.medium in let h = g.M.Medium.holds f.medium in
    let found = c.in-Some.ensures.value ∙ ap (λ n. ordered.get nat_cmp f.bodies n) c.as_u64.ensures in
    on_ok c.write.result (ap missing_error (body-in b _ f.tree.nodes f.bodies f.next _ c.args.self.now c.self.view_is c.args.number ∙ ap (option_map b) (sym found)))

pub returns-clause-ok : goal.returns-clause-ok
returns-clause-ok g c =
    let f = c.self.inside in let b = g.M.Medium.bytes f.medium in let h = g.M.Medium.holds f.medium in
    let there = c.in-Some.ensures.value in let up = ((c.get_mut.follows.holds c.write.new.body).3 (subst IsSome there refl)).0 in let map1 = c.get_mut.follows.lender c.write.new.body in
    let found = there ∙ ap (λ n. ordered.get nat_cmp f.bodies n) c.as_u64.ensures in
    let stored = stored-some b _ f.tree.nodes f.bodies f.next _ c.args.self.now c.self.view_is c.args.number c.in-Some.body.now (sym found) in
    let last = ap (λ k. k.next) c.self.view_is in
    on_ok_then c.write.result (λ is.
    let longer = is ∙ ap (λ n. written_at (b c.in-Some.body.now) n c.args.bytes.now) c.len-len.ensures ∙ written-end (b c.in-Some.body.now) c.args.bytes.now ∙ ap (λ bs. bs ++ c.args.bytes.now) (sym stored) in
    has-held b (g.M.Medium.bytes c.write.new.self) h (g.M.Medium.holds c.write.new.self) c.write.ensures.kept.held c.write.ensures.kept.same _ f.tree.nodes f.used f.bodies f.next _ c.args.self.now c.self.view_is c.self.invariant.0 _ map1 f.next (lengthened c.args.number c.args.bytes.now (held_of c.args.self.now))
    (λ n. bodies-put b (g.M.Medium.bytes c.write.new.self) h (g.M.Medium.holds c.write.new.self) c.write.ensures.kept.held c.write.ensures.kept.same _ f.tree.nodes f.used f.bodies f.next _ c.args.self.now c.self.view_is c.self.invariant.0 map1 c.as_u64.result (Some c.write.new.body) _ up (ap Some longer) n
    ∙ ap (λ k. put_body (held_of c.args.self.now).bodies k (Some (stored_bytes (held_of c.args.self.now).bodies c.args.number ++ c.args.bytes.now)) n) c.as_u64.ensures) last _ (past-now g.M.Medium.bytes g.M.Medium.holds g.M.Medium.safe f.medium c.write.new.self c.write.ensures.kept g.M.Medium.body_code g.met.M.Medium.safe_held _ _ refl c.self.invariant.1 ∙ ap (λ k. k.before) c.self.view_is)) c.write.ensures.ok

pub returns-clause-same : goal.returns-clause-same
returns-clause-same g c =
    let f = c.self.inside in let b = g.M.Medium.bytes f.medium in let h = g.M.Medium.holds f.medium in
    let there = c.in-Some.ensures.value in let up = ((c.get_mut.follows.holds c.write.new.body).3 (subst IsSome there refl)).0 in let map1 = c.get_mut.follows.lender c.write.new.body in
    let last = ap (λ k. k.next) c.self.view_is in
    on_err_then c.write.result (λ is.
    let here = body-in b _ f.tree.nodes f.bodies f.next _ c.args.self.now c.self.view_is c.as_u64.result ∙ ap (option_map b) (sym there) in
    has-held b (g.M.Medium.bytes c.write.new.self) h (g.M.Medium.holds c.write.new.self) c.write.ensures.kept.held c.write.ensures.kept.same _ f.tree.nodes f.used f.bodies f.next _ c.args.self.now c.self.view_is c.self.invariant.0 _ map1 f.next (held_of c.args.self.now)
    (λ n. bodies-put b (g.M.Medium.bytes c.write.new.self) h (g.M.Medium.holds c.write.new.self) c.write.ensures.kept.held c.write.ensures.kept.same _ f.tree.nodes f.used f.bodies f.next _ c.args.self.now c.self.view_is c.self.invariant.0 map1 c.as_u64.result (Some c.write.new.body) ((held_of c.args.self.now).bodies c.as_u64.result) up (ap Some is ∙ sym here) n
    ∙ put-same (held_of c.args.self.now).bodies c.as_u64.result n) last _ (past-now g.M.Medium.bytes g.M.Medium.holds g.M.Medium.safe f.medium c.write.new.self c.write.ensures.kept g.M.Medium.body_code g.met.M.Medium.safe_held _ _ refl c.self.invariant.1 ∙ ap (λ k. k.before) c.self.view_is)) c.write.ensures.same
