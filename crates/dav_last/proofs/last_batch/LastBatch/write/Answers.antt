use Rattle.std.proofs.Common.{◌∙◌, sym, arith}
use Rattle.std.proofs.lemmas.Bool.{false≢true}
use Rattle.dav_last.proofs.CrashLemmas.{written-image, whole-written, mixes-written, last_in-both}
use Rattle.dav_last.proofs.last_batch.LastBatch.write.Goals as goal

pub invariant_of-self : goal.invariant_of-self
invariant_of-self g c =
    let it = c.args.self.now in
    record {
      usable = it.usable;
      fits = it.fits;
      below = it.below;
      safe = it.safe;
      written = λ named. absurd (false≢true (sym c.if-self.false ∙ named));
      named = λ named. absurd (false≢true (sym c.if-self.false ∙ named));
      whole = whole-written it.key it.number _ _ _ c.image_of.ensures c.write_at.ensures.crash it.whole;
      noted = λ both. absurd (false≢true both);
      both = λ both. absurd (false≢true both);
      mixed = λ mixes. mixes-written it.key it.number _ _ _ c.image_of.ensures (c.write_at.ensures.mixed (mixes it.unsynced)) (it.mixed mixes);
    }

pub invariant_of-self-2 : goal.invariant_of-self-2
invariant_of-self-2 g c =
    let it = c.args.self.now in
    let seen = written-image it.key it.number _ _ _ c.image_of.ensures (it.whole _ (g.met.D.Disk.seen_may_stay it.unsynced)) c.write_at.ensures.others c.in_ok-write_at.ensures.written in
    record {
      usable = it.usable;
      fits = it.fits;
      below = it.below;
      safe = it.safe;
      written = λ named less. seen;
      named = λ named. let low = it.below in last_in-both it.key it.number it.kept it.number _ _ seen (it.safe _ (g.met.D.Disk.seen_may_stay it.synced)) (omega arith) it.fits;
      whole = whole-written it.key it.number _ _ _ c.image_of.ensures c.write_at.ensures.crash it.whole;
      noted = λ both. absurd (false≢true both);
      both = λ both. absurd (false≢true both);
      mixed = λ mixes. mixes-written it.key it.number _ _ _ c.image_of.ensures (c.write_at.ensures.mixed (mixes it.unsynced)) (it.mixed mixes);
    }
