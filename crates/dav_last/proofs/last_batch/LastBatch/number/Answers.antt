use Rattle.dav_last.proofs.BatchLemmas.{crash_safe}
use Rattle.dav_last.proofs.last_batch.LastBatch.number.Goals as goal

pub returns-clause-safe : goal.returns-clause-safe
returns-clause-safe g c = crash_safe c.args.self.now
