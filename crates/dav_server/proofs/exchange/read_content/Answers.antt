use Rattle.std.proofs.Common.{arith}
use Rattle.dav_server.proofs.Streams.{skips_after}
use Rattle.dav_server.proofs.exchange.read_content.Goals as goal

pub returns-then-not-branch-clause-skipped : goal.returns-then-not-branch-clause-skipped
returns-then-not-branch-clause-skipped g c =
    let same = c.in_ok-read_more.ensures.full c.if-not-branch.true in
    skips_after _ _ _ c.loop-left.content.items c.loop-left.left c.args.count c.loop-left.invariant.0 (rw same at c.in_ok-skip-2.ensures) (omega arith)
