use Rattle.std.proofs.Common.{option_copied}
use Rattle.dav_messages.specs.Dialogues.{judges_exit}
use Rattle.dav_engine.specs.DavInner.{seen_by}
use Rattle.dav_engine.specs.State.{state_of}
use Rattle.dav_engine.proofs.Locking.{holds_not, holds_so}
use Rattle.dav_engine.proofs.inner.DavInner.judge_holding.Goals as goal

pub returns-in_err-status-clause-rules : goal.returns-in_err-status-clause-rules
returns-in_err-status-clause-rules g c = judges_exit _ _ _ _ _ _ c.from_residual.ensures.1 c.in_err-status.ensures.rules

pub returns-in-Some-clause-rules : goal.returns-in-Some-clause-rules
returns-in-Some-clause-rules g c = holds_not c.args.request.now (state_of (seen_by g.F.GuardedFileSystem.seen g.L.DavLockSystem.seen c.args.self.now)) (option_copied c.args.found) _ _ c.in-Some.status (rw c.in-Some.is at c.in_ok-status.ensures.rules)

pub returns-in-None-clause-rules : goal.returns-in-None-clause-rules
returns-in-None-clause-rules g c = holds_so c.args.request.now (state_of (seen_by g.F.GuardedFileSystem.seen g.L.DavLockSystem.seen c.args.self.now)) (option_copied c.args.found) _ _ (rw c.in-None.is at c.in_ok-status.ensures.rules)
