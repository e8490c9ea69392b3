use Rattle.dav_messages.specs.Dialogues.{judges_exit, judges_then}
use Rattle.dav_engine.proofs.Transferring.{same_destination}
use Rattle.dav_engine.proofs.inner.DavInner.see_destination.Goals as goal

pub returns-in_err-must_have_parent-clause-rules : goal.returns-in_err-must_have_parent-clause-rules
returns-in_err-must_have_parent-clause-rules g c = judges_exit _ _ _ _ _ _ c.from_residual.ensures.1 c.in_err-must_have_parent.ensures.rules

pub returns-clause-rules : goal.returns-clause-rules
returns-clause-rules g c =
    let above = c.in_ok-must_have_parent.ensures.rules in
    judges_then _ _ _ _ _ _ _ above (same_destination _ _ _ _ _ _ above.same c.look_up_destination.ensures.rules)
