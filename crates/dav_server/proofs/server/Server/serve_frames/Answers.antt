use Rattle.std.proofs.Common.{arith}
use Rattle.std.proofs.lemmas.Grind.{common_steps}
use Rattle.dav_server.proofs.FrameLists.{serves_next}
use Rattle.dav_server.proofs.server.Server.serve_frames.Goals as goal

pub loop-frame-preserved : goal.loop-frame-preserved
loop-frame-preserved g c = record {
  rules = grind (arith, common_steps);
  loans = grind (arith, common_steps);
  served =
      serves_next g.F.GuardedFileSystem.seen g.F.GuardedFileSystem.reads _ _ _ _ _ _ _ c.loop-frame.frame-index _ c.serve_frame.result
      c.loop-frame.invariant.served (rw c.loop-frame.invariant.rules at c.serve_frame.ensures.served) c.loop-frame-test.true (grind (arith, common_steps));
  counted = grind (arith, common_steps);
  capacity = grind (arith, common_steps);
}
