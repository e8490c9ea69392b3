use Rattle.dav_server.proofs.StreamRuns.{exchanged, stopped}
use Rattle.dav_server.proofs.server.Server.exchange.Goals as goal

pub returns-in_err-write_answer-clause-stopped : goal.returns-in_err-write_answer-clause-stopped
returns-in_err-write_answer-clause-stopped g c =
    stopped _ _ _ c.from_residual-in_err-write_answer.result _ _ _ _ _ (rw c.in-Some.is at c.in_ok-answer.ensures.answered)

pub returns-clause-served : goal.returns-clause-served
returns-clause-served g c _ = exchanged _ _ _ _ _ _ _ _ _ _ (rw c.in-Some.is at c.in_ok-answer.ensures.answered) c.in_ok-write_answer.ensures
