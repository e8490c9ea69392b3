use Rattle.std.proofs.Common.{refl, arith}
use Rattle.dav_last.proofs.CrashLemmas.{whole-only, mixes-only, last_in-both}
use Rattle.dav_last.proofs.BatchLemmas.{crash_safe}
use Rattle.dav_last.proofs.last_batch.LastBatch.begin.Goals as goal

pub invariant_of-result : goal.invariant_of-result
invariant_of-result g c =
    let log = c.replace_both.new.files.log in
    let db = c.replace_both.new.files.db in
    let e = c.in_default.ensures in
    record {
      usable = e.db_usable;
      fits = c.ranges.number.fits;
      below = omega arith;
      safe = e.db;
      written = λ named less. absurd (omega arith);
      named = λ named. last_in-both c.args.key c.args.number c.args.number c.args.number _ _ (e.log _ (g.met.D.Disk.seen_may_stay log)) (e.db _ (g.met.D.Disk.seen_may_stay db)) (omega arith) c.ranges.number.fits;
      whole = whole-only c.args.key c.args.number _ e.log;
      noted = λ both. refl;
      both = λ both. e.log;
      mixed = λ mixes. mixes-only c.args.key c.args.number _ e.log;
    }

pub returns-clause-safe : goal.returns-clause-safe
returns-clause-safe g c = crash_safe _
