use Rattle.std.specs.Prelude.{codes}
use Rattle.dav_live.proofs.Parts.{contains_is}
use Rattle.dav_live.proofs.viewer.is_microsoft.Goals as goal

pub returns-in-Some : goal.returns-in-Some
returns-in-Some c = rw c.in-Some.is (contains_is c.contains.result (codes "Microsoft") c.in-Some.agent.now c.contains.ensures.cases)
