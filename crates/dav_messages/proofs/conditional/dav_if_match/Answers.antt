use Rattle.std.proofs.Common.{refl}
use Rattle.dav_messages.specs.Dialogues.{judges_exit, judges_then, judges_pure, given_is}
use Rattle.dav_messages.proofs.conditional.dav_if_match.Goals as goal

pub returns-in_err-holds-clause-judged : goal.returns-in_err-holds-clause-judged
returns-in_err-holds-clause-judged g c = judges_exit _ _ _ _ _ _ c.from_residual-in_err-holds.ensures.1 (rw (c.as_ref-2.ensures.value, given_is _ _ c.in_ok-lists.ensures.value) at c.in_err-holds.ensures)

pub returns-clause-judged : goal.returns-clause-judged
returns-clause-judged g c =
    let lists = given_is _ _ c.in_ok-lists.ensures.value in
    judges_then _ _ _ _ _ _ _ (rw (c.as_ref-2.ensures.value, lists) at c.in_ok-holds.ensures) (judges_pure _ _ _ (rw (c.in_ok-tokens.ensures, c.as_ref.ensures.value, lists) refl))
