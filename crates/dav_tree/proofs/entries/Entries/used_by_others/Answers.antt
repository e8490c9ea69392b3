use Rattle.std.proofs.Common.{ap, arith}
use Rattle.dav_tree.proofs.Sums.{part}
use Rattle.dav_tree.proofs.Editing.{size, part-fits}
use Rattle.dav_tree.proofs.entries.Entries.used_by_others.Goals as goal

pub overflow_sub-result : goal.overflow_sub-result
overflow_sub-result g c =
    let (key, s, at) = c.requires in
    omega (arith, c.used.ensures.value, c.len.ensures.value key s at, ap (part size) at.there, part-fits c.args.self.now.resources key)

pub returns-clause-value : goal.returns-clause-value
returns-clause-value g c = λ key s at.
    omega (arith, c.used.ensures.value, c.len.ensures.value key s at, ap (part size) at.there, part-fits c.args.self.now.resources key)
