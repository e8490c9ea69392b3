use Rattle.std.proofs.Common.{◌≡◌, length, arith, rules}
use Rattle.dav_server.proofs.Streams.{skips_more}
use Rattle.dav_server.proofs.exchange.skip.Goals as goal

pub loop-left-preserved : goal.loop-left-preserved
loop-left-preserved g c =
    let all : length c.read_exact.new.buf ≡ c.min-step.result = search rules in
    (omega arith, skips_more _ _ _ _ _ c.read_exact.new.buf c.loop-left.invariant.1 c.in_ok-read_exact.ensures.bytes (omega arith))
