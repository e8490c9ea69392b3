use Rattle.std.proofs.Common.{◌≡◌, ◌∙◌, refl, ap, subst, arith}
use Rattle.dav_last.specs.Crashes.{LeavesOnly}
use Rattle.dav_last.proofs.CrashLemmas.{whole-only, mixes-only-more, last_in-both, names-only}
use Rattle.dav_last.proofs.BatchLemmas.{crash_safe}
use Rattle.dav_last.proofs.last_batch.LastBatch.sync.Goals as goal

pub returns-then-not-may_be_used-clause-safe : goal.returns-then-not-may_be_used-clause-safe
returns-then-not-may_be_used-clause-safe g c = crash_safe c.args.self.now

pub returns-in_err-write-clause-safe : goal.returns-in_err-write-clause-safe
returns-in_err-write-clause-safe g c = crash_safe c.write.new.self

pub returns-in_err-sync-clause-safe : goal.returns-in_err-sync-clause-safe
returns-in_err-sync-clause-safe g c = crash_safe _

pub invariant_of-self-then-self : goal.invariant_of-self-then-self
invariant_of-self-then-self g c =
    let it = c.write.new.self in
    let low = it.below in
    let seen = it.written c.in_ok-write.ensures.named c.if-self.true in
    let first = c.swap.ensures.x_after in
    let second = c.swap.ensures.y_after in
    let only : LeavesOnly g.D.Disk it.key it.number c.swap.new.y = λ left may. c.in_ok-sync.ensures.durable left (subst (λ file. g.D.Disk.may_leave file left) second may) ∙ seen in
    let other : LeavesOnly g.D.Disk it.key it.kept c.swap.new.x = λ left may. it.safe left (subst (λ file. g.D.Disk.may_leave file left) first may) in
    record {
      usable = ap g.D.Disk.is_usable second ∙ c.in_ok-sync.ensures.usable;
      fits = it.fits;
      below = omega arith;
      safe = only;
      written = λ named less. absurd (omega arith);
      named = λ named. last_in-both it.key it.kept it.number it.number _ _ (other _ (g.met.D.Disk.seen_may_stay c.swap.new.x)) (only _ (g.met.D.Disk.seen_may_stay c.swap.new.y)) (omega arith) it.fits;
      whole = whole-only it.key it.kept _ other;
      noted = λ both. refl;
      both = λ both. let same = it.noted both in absurd (omega arith);
      mixed = λ mixes. mixes-only-more it.key it.kept it.number _ low other;
    }

pub returns-in_ok-sync-clause-safe : goal.returns-in_ok-sync-clause-safe
returns-in_ok-sync-clause-safe g c = crash_safe _

pub returns-else-self-clause-survives : goal.returns-else-self-clause-survives
returns-else-self-clause-survives g c =
    let it = c.write.new.self in
    let low = it.below in
    let same : it.kept ≡ it.number = omega arith in
    λ left other may also. names-only it.key it.number (g.D.Disk.may_leave it.synced) it.fits (subst (λ n. LeavesOnly g.D.Disk it.key n it.synced) same it.safe) left other also

pub returns-else-self-clause-safe : goal.returns-else-self-clause-safe
returns-else-self-clause-safe g c = crash_safe c.write.new.self
