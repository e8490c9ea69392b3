use Rattle.std.proofs.Common.{◌∙◌, ap, refl, None}
use Rattle.dav_store.specs.BodyCalls.{put_body}
use Rattle.dav_tree.specs.Memory.{put_held}
use Rattle.dav_tree.specs.Kept.{held_of}
use Rattle.dav_tree.proofs.Keeping.{has-held, bodies-put}
use Rattle.dav_tree.proofs.entries.Entries.drop_body.Goals as goal

pub returns : goal.returns
returns g c =
    let f = c.self.inside in let b = g.M.Medium.bytes f.medium in let h = g.M.Medium.holds f.medium in
    has-held b b h h (λ _ held. held) (λ _ _. refl) _ f.tree.nodes f.used f.bodies f.next _ c.args.self.now c.self.view_is c.self.invariant.0 _ c.remove.new.self f.next (put_held c.args.number None (held_of c.args.self.now))
    (λ n. bodies-put b b h h (λ _ held. held) (λ _ _. refl) _ f.tree.nodes f.used f.bodies f.next _ c.args.self.now c.self.view_is c.self.invariant.0 c.remove.new.self c.as_u64.result None None c.remove.ensures.updates.0 refl n ∙ ap (λ k. put_body (held_of c.args.self.now).bodies k None n) c.as_u64.ensures)
    (ap (λ k. k.next) c.self.view_is)
    _ (ap (λ k. k.before) c.self.view_is)
