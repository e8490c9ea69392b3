use Rattle.dav_last.proofs.BatchLemmas.{crash_safe}
use Rattle.dav_last.proofs.last_batch.LastBatch.sync_both.Goals as goal

pub returns-in_err-write-clause-safe : goal.returns-in_err-write-clause-safe
returns-in_err-write-clause-safe g c = crash_safe c.write.new.self

pub returns-in_err-sync-2-clause-safe : goal.returns-in_err-sync-2-clause-safe
returns-in_err-sync-2-clause-safe g c = crash_safe _

pub returns-clause-safe : goal.returns-clause-safe
returns-clause-safe g c = crash_safe _
