use Rattle.std.proofs.Common.{arith}
use Rattle.std.proofs.lemmas.Bool.{false≢true}
use Rattle.dav_last.proofs.CrashLemmas.{mix-more}
use Rattle.dav_last.proofs.BatchLemmas.{crash_safe}
use Rattle.dav_last.proofs.last_batch.LastBatch.note.Goals as goal

pub returns-then-not-may_be_used-clause-safe : goal.returns-then-not-may_be_used-clause-safe
returns-then-not-may_be_used-clause-safe g c = crash_safe c.args.self.now

pub invariant_of-self : goal.invariant_of-self
invariant_of-self g c =
    let it = c.args.self.now in
    let low = it.below in
    record {
      usable = it.usable;
      fits = c.ranges.number.fits;
      below = omega arith;
      safe = it.safe;
      written = λ named. absurd (false≢true named);
      named = λ named. absurd (false≢true named);
      whole = it.whole;
      noted = λ both. absurd (false≢true both);
      both = λ both. absurd (false≢true both);
      mixed = λ mixes left may. mix-more it.key it.number c.args.number left (omega arith) (it.mixed mixes left may);
    }

pub returns-clause-safe : goal.returns-clause-safe
returns-clause-safe g c = crash_safe c.write.new.self
