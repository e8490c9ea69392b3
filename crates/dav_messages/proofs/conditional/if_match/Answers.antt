use Rattle.dav_messages.specs.Dialogues.{judges_exit, judges_then, judges_given, given_is}
use Rattle.dav_messages.proofs.conditional.if_match.Goals as goal

pub returns-in_err-holds : goal.returns-in_err-holds
returns-in_err-holds g c = judges_exit _ _ _ _ _ _ c.from_residual-in_err-holds.ensures.1 (rw (c.as_ref.ensures.value, given_is _ _ c.in_ok-lists.ensures.value) at c.in_err-holds.ensures)

pub returns : goal.returns
returns g c =
    let lists = given_is _ _ c.in_ok-lists.ensures.value in
    judges_then _ _ _ _ _ _ _ (rw (c.as_ref.ensures.value, lists) at c.in_ok-holds.ensures) (judges_given _ _ _ c.verdict_after.ensures)
