use Rattle.std.proofs.Common.{Some, ap}
use Rattle.dav_messages.specs.Dialogue.{Passed}
use Rattle.dav_messages.specs.Dialogues.{judges_exit, judges_then, judges_memory, judges_pure}
use Rattle.dav_find.proofs.finding.Finder.find_quota.Goals as goal

pub returns-in_err-ask_quota-clause-rules : goal.returns-in_err-ask_quota-clause-rules
returns-in_err-ask_quota-clause-rules g c = judges_exit _ _ _ _ _ _ c.from_residual.ensures.1 c.in_err-ask_quota.ensures.rules

pub returns-in_err-value-clause-rules : goal.returns-in_err-value-clause-rules
returns-in_err-value-clause-rules g c =
    judges_then _ _ _ _ _ _ _ c.in_ok-ask_quota.ensures.rules (judges_memory _ _ _ (rw c.in_err-value.ensures.err at c.from_residual-in_err-value.ensures.1))

pub returns-clause-rules : goal.returns-clause-rules
returns-clause-rules g c =
    judges_then _ _ _ _ _ _ _ c.in_ok-ask_quota.ensures.rules
    (judges_pure _ _ _ (ap (λ value. Passed (value, Some c.in_ok-ask_quota.field-0)) (c.in_ok-value.ensures.ok (g.F.GuardedFileSystem.seen c.args.fs.now).facts)))
