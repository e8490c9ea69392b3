use Rattle.std.proofs.Common.{refl}
use Rattle.dav_messages.specs.Dialogues.{judges_exit, judges_then, judges_pure}
use Rattle.dav_messages.proofs.if_header.condition_holds.Goals as goal

pub returns-in_err-holds : goal.returns-in_err-holds
returns-in_err-holds g c = judges_exit _ _ _ _ _ _ c.from_residual.ensures.1 c.in_err-holds.ensures

pub returns : goal.returns
returns g c = judges_then _ _ _ _ _ _ _ c.in_ok-holds.ensures (judges_pure _ _ _ (rw c.turned.ensures refl))
