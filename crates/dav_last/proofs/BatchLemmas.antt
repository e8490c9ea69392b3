-- What every `LastBatch` keeps.
use Rattle.std.proofs.Common.{arith}
use Rattle.sqlite_disk.specs.declared.Disk.{Ghosts}
use Rattle.dav_last.specs.Batches.{IsCrashSafe}
use Rattle.dav_last.specs.declared.last_batch.LastBatch.{LastBatch}
use Rattle.dav_last.proofs.CrashLemmas.{whole-only, mixes-only-more, names-only}

pub crash_safe : {D : Type 0} {g : Ghosts D} (it : LastBatch D g) → IsCrashSafe it
crash_safe {g = g} it = record {
  survives = let low = it.below in let fits = it.fits in λ c d left other. names-only it.key it.kept (g.may_leave it.synced) (omega arith) it.safe c d other;
  unsynced_whole = it.whole;
  synced_whole = whole-only it.key it.kept (g.may_leave it.synced) it.safe;
  unsynced_mixes = it.mixed;
  synced_mixes = mixes-only-more it.key it.kept it.number (g.may_leave it.synced) it.below it.safe;
}
