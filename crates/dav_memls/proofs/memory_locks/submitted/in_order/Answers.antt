use Rattle.dav_memls.proofs.TokenSets.{has_more}
use Rattle.dav_memls.proofs.memory_locks.submitted.in_order.Goals as goal

pub loop-token-preserved : goal.loop-token-preserved
loop-token-preserved c = has_more c.loop-token.ordered c.insert.new.self c.args.tokens.now c.loop-token.token-index c.token-item.result c.as_str.result c.loop-token-test.true c.token-item.is c.as_str.ensures c.loop-token.invariant c.in_ok-insert.ensures.updates
