use Rattle.std.proofs.lemmas.Result.{IfOk-weaker}
use Rattle.dav_engine.specs.DavInner.{lent}
use Rattle.dav_guarding.specs.Guarding.{is_allowed}
use Rattle.read_only_example.proofs.Unchanged.{runs_unchanged}
use Rattle.read_only_example.proofs.run_read_only.Goals as goal

pub returns : goal.returns
returns g c = record {
  same = IfOk-weaker c.run.result _ _ (λ replies runs. runs_unchanged _ _ _ _ _ runs (is_allowed g.F.GuardedFileSystem.seen (lent c.run.new.self))) c.run.ensures.run;
}
