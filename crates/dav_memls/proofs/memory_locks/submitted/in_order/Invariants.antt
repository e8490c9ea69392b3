use Rattle.std.proofs.Common.{take}
use Rattle.dav_memls.specs.Tokens.{HasTokens}
use Rattle.dav_memls.proofs.memory_locks.submitted.in_order.Given as goal

abbrev pub invariant-loop-token : goal.invariant-loop-token
invariant-loop-token l = HasTokens (take l.token-index l.tokens) l.ordered
