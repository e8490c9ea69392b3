use Rattle.std.proofs.Common.{◌∙◌, ◌+◌, ap, refl, Some, []}
use Rattle.dav_store.specs.BodyCalls.{put_body}
use Rattle.dav_tree.specs.Memory.{begun}
use Rattle.dav_tree.specs.Kept.{held_of}
use Rattle.dav_tree.proofs.Keeping.{has-held, bodies-put}
use Rattle.dav_tree.proofs.Starting.{next-free}
use Rattle.dav_tree.proofs.entries.Entries.start_body.Goals as goal

pub returns-clause-ok : goal.returns-clause-ok
returns-clause-ok g c =
    let f = c.self.inside in let b = g.M.Medium.bytes f.medium in let h = g.M.Medium.holds f.medium in
    let same = ap (λ k. k.next) c.self.view_is in
    has-held b b h h (λ _ held. held) (λ _ _. refl) _ f.tree.nodes f.used f.bodies f.next _ c.args.self.now c.self.view_is c.self.invariant.0 _ c.insert.new.self c.in-Some.next (begun (held_of c.args.self.now))
    (λ n. bodies-put b b h h (λ _ held. held) (λ _ _. refl) _ f.tree.nodes f.used f.bodies f.next _ c.args.self.now c.self.view_is c.self.invariant.0 c.insert.new.self f.next (Some c.empty-body.result) (Some []) c.in_ok-insert.ensures.updates.0 (ap Some c.empty-body.ensures.bytes) n ∙ ap (λ k. put_body (held_of c.args.self.now).bodies k (Some []) n) same)
    (c.in-Some.ensures.1 ∙ ap (λ n. n + 1) same)
    _ (ap (λ k. k.before) c.self.view_is)

pub returns-in_default-clause-free : goal.returns-in_default-clause-free
returns-in_default-clause-free g c =
    let f = c.self.inside in
    next-free (g.M.Medium.bytes f.medium) _ f.tree.nodes f.bodies f.next _ c.args.self.now c.self.view_is c.self.invariant.0.below

pub returns-in_err-insert-clause-free : goal.returns-in_err-insert-clause-free
returns-in_err-insert-clause-free g c =
    let f = c.self.inside in
    next-free (g.M.Medium.bytes f.medium) _ f.tree.nodes f.bodies f.next _ c.args.self.now c.self.view_is c.self.invariant.0.below

pub returns-clause-free : goal.returns-clause-free
returns-clause-free g c =
    let f = c.self.inside in
    next-free (g.M.Medium.bytes f.medium) _ f.tree.nodes f.bodies f.next _ c.args.self.now c.self.view_is c.self.invariant.0.below
