use Rattle.std.proofs.lemmas.Result.{IfOk-weaker}
use Rattle.guarantee_examples.proofs.Guarantees.{runs_keep_unreached, runs_keep_first_put}
use Rattle.guarantee_examples.proofs.run_protected.Goals as goal

pub returns-clause-unreached : goal.returns-clause-unreached
returns-clause-unreached g c = IfOk-weaker c.run.result _ _ (λ replies runs. runs_keep_unreached _ _ _ _ _ runs) c.run.ensures.run

pub returns-clause-first_put : goal.returns-clause-first_put
returns-clause-first_put g c = IfOk-weaker c.run.result _ _ (λ replies runs. runs_keep_first_put _ _ _ _ _ runs) c.run.ensures.run
