use Rattle.dav_wrapping.specs.Recorded.{last_outcome-at}
use Rattle.dav_wrapping.proofs.last_outcome.Goals as goal

pub returns-in-Some : goal.returns-in-Some
returns-in-Some c = last_outcome-at c.args.records.now c.in-Some.record.now c.in-Some.ensures.value
