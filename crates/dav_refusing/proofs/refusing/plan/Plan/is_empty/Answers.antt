use Rattle.std.proofs.Common.{ap, length}
use Rattle.std.proofs.lemmas.List.{nil_from_length}
use Rattle.dav_refusing.proofs.Queues.{empty-refuses_nothing, refuses_nothing-empty}
use Rattle.dav_refusing.proofs.refusing.plan.Plan.is_empty.Goals as goal

pub returns : goal.returns
returns c = (
  λ is. empty-refuses_nothing c.args.self.now.queues (nil_from_length _ (c.is_empty.ensures.0 is)),
  λ none. c.is_empty.ensures.1 (ap length (refuses_nothing-empty c.args.self.now.queues c.args.self.now.tidy none)),
)
