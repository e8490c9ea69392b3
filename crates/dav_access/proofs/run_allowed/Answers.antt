use Rattle.std.proofs.lemmas.Result.{IfOk-weaker}
use Rattle.dav_engine.specs.DavInner.{lent}
use Rattle.dav_access.proofs.ChangeLaws.{changes_by_allowed}
use Rattle.dav_access.proofs.run_allowed.Goals as goal

pub returns : goal.returns
returns g c = record {
  changed = IfOk-weaker c.run.result _ _ (λ replies runs. changes_by_allowed _ _ _ _ _ runs (g.met.F.GuardedFileSystem.allowed (lent c.run.new.self))) c.run.ensures.run;
}
