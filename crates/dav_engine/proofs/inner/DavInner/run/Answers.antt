use Rattle.std.proofs.Common.{arith}
use Rattle.std.proofs.lemmas.Grind.{common_steps}
use Rattle.dav_engine.proofs.Running.{run_goes_on, same_settings, served_under, lawful}
use Rattle.dav_engine.proofs.inner.DavInner.run.Goals as goal

pub loop-request-preserved : goal.loop-request-preserved
loop-request-preserved g c = record {
  same_engine = grind (arith, common_steps);
  served = run_goes_on _ _ _ _ _ _ _ _ _ _ c.loop-request.invariant.served (served_under _ _ _ _ _ _ _ (same_settings g.F.GuardedFileSystem.seen g.L.DavLockSystem.seen c.args.self.now c.loop-request.self c.loop-request.invariant.same_engine c.loop-request.invariant.served.fixed) c.serve.ensures.step) (lawful g.F.GuardedFileSystem.seen g.L.DavLockSystem.seen g.met.F.GuardedFileSystem.well_formed g.met.L.DavLockSystem.distinct c.serve.new.self) (omega arith) c.request-item.is (grind (arith, common_steps));
  recorded = grind (arith, common_steps);
  room = grind (arith, common_steps);
}
