use Rattle.std.proofs.Common.{refl}
use Rattle.dav_messages.specs.Dialogues.{judges_exit, judges_then, judges_pure, judges_memory}
use Rattle.dav_messages.proofs.if_header.tag_holds.Goals as goal

pub returns-in_err-found : goal.returns-in_err-found
returns-in_err-found g c = judges_exit _ _ _ _ _ _ c.from_residual.ensures.1 c.in_err-found.ensures.rules

pub returns-in_err-current : goal.returns-in_err-current
returns-in_err-current g c = judges_then _ _ _ _ _ _ _ c.in_ok-found.ensures.rules (judges_memory _ _ _ c.from_residual-in_err-current.ensures.1)

pub returns : goal.returns
returns g c = judges_then _ _ _ _ _ _ _ c.in_ok-found.ensures.rules (judges_pure _ _ _ (rw (c.is_tagged.ensures, c.as_ref-2.ensures.value, c.in_ok-current.ensures, c.as_ref.ensures.value) refl))
