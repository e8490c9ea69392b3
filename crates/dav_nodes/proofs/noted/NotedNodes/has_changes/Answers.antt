use Rattle.std.proofs.Common.{◌≡◌, Bool, true, false, not, refl}
use Rattle.dav_nodes.specs.Noted.{tree_of, before_of}
use Rattle.dav_nodes.proofs.SameTrees.{none_noted}
use Rattle.dav_nodes.proofs.noted.NotedNodes.has_changes.Goals as goal

flipped : (b : Bool) → not b ≡ false → b ≡ true
flipped true e = refl
flipped false e = absurd cc

pub returns : goal.returns
returns g c =
    λ none.
    none_noted c.args.self.now.changes (before_of c.args.self.now) (tree_of c.args.self.now) c.args.self.now.noted (c.is_empty.ensures (flipped c.is_empty.result none))
    c.show_linked.ensures.numbered c.show_linked.ensures.joined
