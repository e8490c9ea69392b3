use Rattle.std.proofs.Common.{sym}
use Rattle.dav_messages.specs.Dialogues.{judges_exit, judges_then}
use Rattle.dav_engine.proofs.Deleting.{judges_known}
use Rattle.dav_engine.proofs.inner.DavInner.look_up_destination.Goals as goal

pub returns-in_err-found-clause-rules : goal.returns-in_err-found-clause-rules
returns-in_err-found-clause-rules g c = judges_exit _ _ _ _ _ _ c.from_residual.ensures.1 c.in_err-found.ensures.rules

pub returns-clause-rules : goal.returns-clause-rules
returns-clause-rules g c = judges_then _ _ _ _ _ _ _ c.in_ok-found.ensures.rules (judges_known _ _ _ (sym c.found_or_absent.ensures))
