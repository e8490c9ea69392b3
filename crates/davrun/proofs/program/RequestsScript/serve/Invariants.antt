use Rattle.dav_script.specs.Serving.{AreServed, shared_by}
use Rattle.davrun.proofs.program.RequestsScript.serve.Given as goal

-- the blocks so far were served
abbrev pub invariant-loop-block : goal.invariant-loop-block
invariant-loop-block g l = AreServed l.yielded (shared_by l.initial.session) (shared_by l.session)
