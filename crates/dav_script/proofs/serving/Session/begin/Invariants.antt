use Rattle.std.proofs.Common.{◌≡◌}
use Rattle.dav_script.specs.Serving.{shared_by}
use Rattle.dav_script.proofs.serving.Session.begin.Given as goal

-- planning the refusals changes nothing that the blocks share
abbrev pub invariant-loop-refusal : goal.invariant-loop-refusal
invariant-loop-refusal l = shared_by l.self ≡ shared_by l.initial.self
