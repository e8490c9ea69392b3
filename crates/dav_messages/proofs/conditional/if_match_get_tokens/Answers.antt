use Rattle.std.proofs.Common.{◌∙◌, sym}
use Rattle.dav_messages.specs.Dialogues.{judges_exit, judges_then, judges_if, judges_unread, given_is}
use Rattle.dav_messages.proofs.conditional.if_match_get_tokens.Goals as goal

pub returns-in_err-status-clause-judged : goal.returns-in_err-status-clause-judged
returns-in_err-status-clause-judged g c = judges_unread _ _ _ _ _ c.in_err-status.ensures c.from_residual.ensures.1

pub returns-in_err-holds-clause-judged : goal.returns-in_err-holds-clause-judged
returns-in_err-holds-clause-judged g c =
    let passed = sym (given_is _ _ c.in_ok-status.ensures) ∙ c.in_default.is in
    rw passed (judges_exit _ _ _ _ _ _ c.from_residual-in_err-holds.ensures.1 c.in_err-holds.ensures.judged)

pub returns-clause-judged : goal.returns-clause-judged
returns-clause-judged g c =
    let passed = sym (given_is _ _ c.in_ok-status.ensures) ∙ c.in_default.is in
    rw passed (judges_then _ _ _ _ _ _ _ c.in_ok-holds.ensures.judged (judges_if _ _ _ _ _ c.tokens_where.ensures))
