use Rattle.std.proofs.Common.{sym}
use Rattle.dav_messages.specs.Dialogues.{judges_exit, judges_then}
use Rattle.dav_engine.proofs.Deleting.{judges_known}
use Rattle.dav_engine.proofs.inner.DavInner.must_have_parent.Goals as goal

pub returns-in_err-above-clause-rules : goal.returns-in_err-above-clause-rules
returns-in_err-above-clause-rules g c = judges_exit _ _ _ _ _ _ c.from_residual-in_err-above.ensures.1 (rw c.in_ok-parent.ensures at c.in_err-above.ensures.rules)

pub returns-clause-rules : goal.returns-clause-rules
returns-clause-rules g c =
    judges_then _ _ _ _ _ _ _ (rw c.in_ok-parent.ensures at c.in_ok-above.ensures.rules) (judges_known _ _ _ (sym (rw c.as_ref.ensures.value at c.judge_parent.ensures)))
