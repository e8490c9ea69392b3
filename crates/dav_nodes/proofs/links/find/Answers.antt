use Rattle.std.proofs.Common.{Some, ◌∙◌, sym, ap}
use Rattle.slab.specs.Slab.{get}
use Rattle.dav_nodes.specs.Links.{walk, member_at}
use Rattle.dav_nodes.proofs.Walks.{walk-none}
use Rattle.dav_nodes.proofs.links.find.Goals as goal

pub returns-in_err-number : goal.returns-in_err-number
returns-in_err-number g c =
    let m = member_at (get c.args.nodes.now) in
    rw c.from_residual.ensures (
    sym (walk-none m c.next.new.self)
    ∙ ap (λ o. walk m o c.next.new.self) c.in_err-number.ensures
    ∙ ap (walk m (Some c.loop-name.number)) (sym c.in-Some.ensures.steps)
    ∙ c.loop-name.invariant.reached
    )
