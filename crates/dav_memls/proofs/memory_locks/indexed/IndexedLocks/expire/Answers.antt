use Rattle.std.proofs.Common.{◌∙◌, ap, sym, length, arith}
use Rattle.dav_memls.specs.Expiry.{unexpired}
use Rattle.dav_memls.proofs.Expired.{is_less}
use Rattle.dav_memls.proofs.memory_locks.indexed.IndexedLocks.expire.Goals as goal

pub loop-number-smaller : goal.loop-number-smaller
loop-number-smaller c =
    let less = is_less c.args.now c.loop-number.self.locks.entries c.in-Some.number c.in-Some.ensures in
    omega (arith, ap length c.remove.ensures, less.fewer)

pub loop-number-preserved : goal.loop-number-preserved
loop-number-preserved c =
    let less = is_less c.args.now c.loop-number.self.locks.entries c.in-Some.number c.in-Some.ensures in
    ap (unexpired c.args.now) c.remove.ensures ∙ less.unexpired ∙ c.loop-number.invariant

pub returns : goal.returns
returns c = sym c.in_default.ensures ∙ c.loop-number.invariant
