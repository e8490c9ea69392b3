use Rattle.std.proofs.Common.{◌≡◌, ◌++◌, take}
use Rattle.dav_messages.specs.Conditions.{tokens_in}
use Rattle.dav_messages.proofs.if_header.append_tokens.Given as goal

-- the tokens so far are appended
abbrev pub invariant-loop-condition : goal.invariant-loop-condition
invariant-loop-condition l = l.tokens.items ≡ l.fn.tokens.items ++ tokens_in (take l.condition-index l.conditions)
