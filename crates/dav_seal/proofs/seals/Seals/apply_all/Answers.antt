use Rattle.std.proofs.Common.{subst}
use Rattle.dav_rows.proofs.SavingLemmas.{after_next}
use Rattle.dav_seal.specs.Seals.{AreSealsOf}
use Rattle.dav_seal.proofs.seals.Seals.apply_all.Goals as goal

pub changes-preserved : goal.changes-preserved
changes-preserved c = λ key m was.
    subst (λ n. AreSealsOf key n c.apply.new.self)
    (after_next c.args.changes.now c.changes.change-index c.change-item.result m c.changes-test.true c.change-item.is)
    (c.in_ok-apply.ensures key _ (c.changes.invariant key m was))
