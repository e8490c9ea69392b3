use Rattle.std.proofs.Common.{◌∙◌, ap, arith}
use Rattle.dav_tree.specs.Memory.{used_by}
use Rattle.dav_tree.proofs.Totals.{used-fits}
use Rattle.dav_tree.proofs.entries.Entries.used.Goals as goal

pub prove-unreachable-requires : goal.prove-unreachable-requires
prove-unreachable-requires g c =
    let f = c.self.inside in
    omega (arith, c.max_len.ensures.len, used-fits (g.M.Medium.bytes f.medium) (g.M.Medium.holds f.medium) (g.met.M.Medium.small f.medium) f.tree.nodes f.used f.bodies f.next c.self.invariant.0)

pub returns-clause-value : goal.returns-clause-value
returns-clause-value g c = c.self.invariant.0.counted ∙ ap (λ k. used_by k.resources) c.self.view_is
